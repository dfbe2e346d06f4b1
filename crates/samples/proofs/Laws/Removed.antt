-- A remove on sound tables: question 8, and the tables of the samples that stay.
use Prim.Native.Nat.{ℕ, ◌-◌, ◌≤◌, ◌<◌}
use mathlib.Core.Bool.{true, false}
use mathlib.Core.List.{List, []}
use mathlib.Core.Path.{◌≡◌, refl, sym, ap, ◌∙◌, subst}
use native.Mathlib.Omega.{arith}
use borrow.Author.Tests.{lt-ltb, le-ltb}
use lib.Dec.{ltb}
use lib.ListN.{length}
use Rattle.colour.specs.declared.Sample.{Sample}
use Rattle.colour.specs.declared.Settings.{Settings}
use Rattle.colour.specs.declared.refusal.Refusal.TheVariants as R
use Rattle.colour.proofs.Laws.Questions.{alone_yes, first_no_lem}
use Rattle.model.specs.Lists.{keep}
use Rattle.model.specs.Layout.{current}
use Rattle.model.specs.Tables.{Tables, pair}
use Rattle.model.specs.Machine.{Machine, Change, Remove, tables_of, plain, has_tag, with_set, with_samples, removed, questions, accepted}
use Rattle.model.specs.Sound.{Shows, Valid, Distinct}
use Rattle.model.specs.Meets.{Follows}
use Rattle.model.proofs.Machine.Valid.{removed_valid}
use Rattle.words.specs.Rows.{count_in, settings_in, samples_from}
use Rattle.words.proofs.Laws.Layout.Samples.{samples_length}
use Rattle.samples.specs.Answers.{changed_answer}
use Rattle.std.specs.Prelude.{Ok, Err}
use Rattle.samples.specs.Rebuilding.{codes_asked, Rebuilt}
use Rattle.samples.specs.Steps.{FollowsAll, holding, Acceptable, row_of_tag, without_row}
use Rattle.samples.proofs.Laws.Meets.{refused_follows, accepted_follows}
use Rattle.samples.proofs.Laws.Rebuilt.{rebuilt_acceptable}
use Rattle.samples.proofs.Laws.Shown.{said, known_below, rows_tables, rows_acceptable}
use Rattle.samples.proofs.Laws.Tags.{stays, stay_others}

module _ (m : Machine) (t : ℕ) where
  -- The samples that stay.
  abbrev others : List Sample
  others = keep (stays t) m.set.samples

  -- Question 8 answered with no, and with yes.
  unknown_follows : (t' : Tables) → has_tag t m.set.samples ≡ false → t' ≡ tables_of current m → Follows m (Change (Remove t)) (plain 8 []) t'
  unfolding questions
  unknown_follows t' unknown told =
      refused_follows m (Remove t) t' 8 (first_no_lem 8 (has_tag t m.set.samples) [] unknown) (λ z. omega (arith, z)) told

  known_follows : (t' : Tables) → has_tag t m.set.samples ≡ true → t' ≡ tables_of current (holding m others) → Follows m (Change (Remove t)) (plain 0 []) t'
  unfolding questions accepted removed
  known_follows t' known told =
      accepted_follows m (Remove t) t' (with_samples m.set others) (alone_yes 8 (has_tag t m.set.samples) known) refl told

  -- They are a set that fits: fewer samples have no more octants.
  others_valid : Valid current m → Valid current (holding m others)
  unfolding removed
  others_valid v = removed_valid m t v

-- What sound tables say: x the settings, n the count, row the place of the tag.
module _ (ws os : List ℕ) (x : Settings) (n row t : ℕ) (settings : x ≡ settings_in current ws) (counted : n ≡ count_in ws)
    (placed : row ≡ row_of_tag t (samples_from current ws 0 n)) where
  -- Of a machine that they show.
  module _ (m : Machine) (shows : Shows current m (pair ws os)) where
    known : has_tag t m.set.samples ≡ ltb row n
    known = known_below ws os n counted m shows t row placed

    -- The other rows say the samples that stay.
    others_left : row < n → without_row row (samples_from current ws 0 n) ≡ others m t
    others_left h =
        let these = said ws os n counted m shows in
        ap (λ (k : ℕ). without_row k (samples_from current ws 0 n)) placed
        ∙ sym
        (stay_others t (samples_from current ws 0 n) (subst Distinct (sym these) shows.valid.tags_distinct)
        (omega (arith, h, placed, samples_length ws n 0)))
        ∙ ap (keep (stays t)) these

    -- Rows that say them are acceptable.
    others_acceptable : (ws' : List ℕ) (k : ℕ) → samples_from current ws' 0 k ≡ others m t → Acceptable x ws' (length os) k
    unfolding with_samples with_set
    others_acceptable ws' k left =
        let v = others_valid m t shows.valid in
        rows_acceptable ws os m shows x settings ws' k (others m t) left v.tags_distinct v.in_range v.octants_fit

  -- Question 8.
  pub unknown_tag : n ≤ row → FollowsAll (Remove t) (pair ws os) (changed_answer (Err R.UnknownTag)) (pair ws os)
  unfolding changed_answer
  unknown_tag h m shows = unknown_follows m t (pair ws os) (known m shows ∙ le-ltb row n h) shows.words

  -- A tag that is known: rows closed, then rebuilt.
  pub tag_removed : (ws' : List ℕ) (r : ℕ) (t' : Tables) → row < n → length ws' ≡ length ws
      → samples_from current ws' 0 (n - 1) ≡ without_row row (samples_from current ws 0 n)
      → Rebuilt (codes_asked x (n - 1) (pair ws' os)) x (n - 1) (pair ws' os) r t' → FollowsAll (Remove t) (pair ws os) (changed_answer (Ok tt)) t'
  unfolding changed_answer
  tag_removed ws' r t' h long closed told m shows =
      let left = closed ∙ others_left m shows h in
      let done = rebuilt_acceptable x (n - 1) ws' os r t' (others_acceptable m shows ws' (n - 1) left) told in
      known_follows m t t' (known m shows ∙ lt-ltb row n h)
      (done.1 ∙ rows_tables ws os m shows x settings ws' (n - 1) (others m t) left long)

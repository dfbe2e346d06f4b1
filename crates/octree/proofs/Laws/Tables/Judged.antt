-- Entries in their order: what writing their tables asks, and what is said of those that were judged.
use Prim.Native.Nat.{ℕ, ◌≤◌, ◌<◌}
use mathlib.Core.Bool.{Bool, true, false, not}
use mathlib.Core.List.{List, [], ◌∷◌}
use mathlib.Core.Logic.Iff
use mathlib.Core.Logic.{◌↔◌}
use mathlib.Core.Path.{◌≡◌, sym, ap, ap₂, ◌∙◌, subst}
use native.Mathlib.Omega.{arith}
use borrow.Author.Tests.{le-leb, leb-true, lt-leb}
use lib.Dec.{leb}
use lib.ListN.{length}
use Rattle.colour.specs.declared.Settings.{Settings}
use Rattle.colour.specs.declared.refusal.Refusal.{Refusal}
use Rattle.colour.specs.declared.refusal.Refusal.TheVariants as R
use Rattle.colour.specs.Octant.{depths}
use Rattle.colour.specs.Question.{asks, first_no}
use Rattle.colour.proofs.Laws.Questions.{asked, first_yes, alone_yes, refusal_numbered}
use Rattle.model.specs.Layout.{current, sample_rows, octant_rows}
use Rattle.model.specs.SampleSet.{order_of, octants_of, octants}
use Rattle.model.specs.Tables.{pair, tables_for, Tables}
use Rattle.words.specs.Rows.{settings_in, samples_from, first_samples, set_of}
use Rattle.words.proofs.Laws.Answers.{says_no, refuted}
use Rattle.words.proofs.Laws.Layout.Places.{rows_few}
use Rattle.words.proofs.Laws.Layout.Samples.{samples_length}
use Rattle.std.specs.Prelude.{Result, Ok, Err}
use Rattle.order.specs.Entries.{entries_of, view}
use Rattle.octree.specs.Steps.{Ordered, RowsOnce, sample_table_by, octant_table_by, SameTables, Writable, Listed, fits_rows, Judged}
use Rattle.colour.specs.Refusal.{answer_number}
use Rattle.octree.proofs.Laws.Tables.Tagless.{entries_octants, InOrder, is_ordered, same_octants, sample_table, octant_table, rows_once}

-- Questions 6 and 7 for a list of samples.
module _ (b : ℕ) (es after : List ℕ) (samples octs : ℕ) where
  abbrev count : ℕ
  count = octants_of b depths (view es)

  pub lacks_row : sample_rows current samples < length es → Judged b es after samples octs (Err R.NoRow)
  unfolding fits_rows first_no
  lacks_row h =
      record {
        number = rw (lt-leb (length es) (sample_rows current samples) h, first_no);
        octants = λ n e. cc;
        order = λ n e. cc;
      }

  pub lacks_octants : length es ≤ sample_rows current samples → octant_rows current octs < count → Judged b es after samples octs (Err R.NoOctants)
  unfolding fits_rows first_no
  lacks_octants h k =
      record {
        number = rw (le-leb (length es) (sample_rows current samples) h, first_no, lt-leb count (octant_rows current octs) k, first_no);
        octants = λ n e. cc;
        order = λ n e. cc;
      }

  pub judged : (n : ℕ) → length es ≤ sample_rows current samples → n ≤ octant_rows current octs → n ≡ octants_of b depths (view es)
      → view after ≡ order_of b depths (view es) → Judged b es after samples octs (Ok n)
  unfolding fits_rows first_no
  judged n h k c o =
      record {
        number = rw (le-leb (length es) (sample_rows current samples) h, first_no, le-leb count (octant_rows current octs) (omega arith), first_no);
        octants = λ m e. cc;
        order = λ m e. o;
      }

-- What writing asks of both tables, and what it comes to.
module _ {s : Settings} {ws : List ℕ} (os : List ℕ) {es : List ℕ} (w : Writable s ws (length os) es) where
  written_order : InOrder s (samples_from current ws 0 (length es)) es
  written_order = record { few = omega (arith, samples_length ws (length es) 0, rows_few (length ws), w.few); order = w.order }

  pub written_once : RowsOnce (length es) es
  written_once = subst (λ (n : ℕ). RowsOnce n es) (samples_length ws (length es) 0) (rows_once written_order)

  pub written_few : length es ≤ 4096
  written_few = omega (arith, rows_few (length ws), w.few)

  pub written_ordered : Ordered s.bucket depths es
  written_ordered = is_ordered written_order

  pub written_fits : octants_of s.bucket depths (view es) ≤ octant_rows current (length os)
  unfolding set_of
  written_fits = omega (arith, same_octants written_order, w.room)

  pub tables_written : (ws' os' : List ℕ) → ws' ≡ sample_table_by (length ws) s (view es) (first_samples current ws (length es))
      → os' ≡ octant_table_by (length os) s.bucket es → pair ws' os' ≡ tables_for current (set_of current ws s (length es)) (length ws) (length os)
  unfolding set_of tables_for
  tables_written ws' os' d e = ap₂ pair (d ∙ sample_table written_order (length ws)) (e ∙ octant_table written_order (length os))

-- A refusal has a number.
pub unfit : (r : Result ℕ Refusal) (q : Refusal) → r ≡ Err q → answer_number r ≡ 0 → ⊥
unfit r q e z = refusal_numbered q (sym (ap answer_number e) ∙ z)

-- Entries of the samples in the first rows, judged: these find rows, so that question 7 alone is left, and it asks the set that the rows say.
module _ (s : Settings) (ws es : List ℕ) (few : length es ≤ sample_rows current (length ws))
    (entries : es ≡ entries_of (samples_from current ws 0 (length es))) where
  pub samples_few : length (samples_from current ws 0 (length es)) ≤ 4096
  samples_few = omega (arith, samples_length ws (length es) 0, rows_few (length ws), few)

  pub rows_octants : octants_of s.bucket depths (view es) ≡ octants (set_of current ws s (length es))
  unfolding set_of
  rows_octants =
      ap (λ (l : List ℕ). octants_of s.bucket depths (view l)) entries
      ∙ entries_octants s (samples_from current ws 0 (length es)) samples_few

  module _ (after : List ℕ) (octant_length : ℕ) (r : Result ℕ Refusal) (told : Judged s.bucket es after (length ws) octant_length r) where
    room_number : answer_number r ≡ first_no (asks 7 (leb (octants (set_of current ws s (length es))) (octant_rows current octant_length)) ∷ [])
    unfolding fits_rows
    room_number =
        told.number
        ∙ first_yes 6 (leb (length es) (sample_rows current (length ws))) _ (le-leb (length es) (sample_rows current (length ws)) few)
        ∙ ap (λ (m : ℕ). first_no (asks 7 (leb m (octant_rows current octant_length)) ∷ [])) rows_octants

    pub fits_room : answer_number r ≡ 0 → octants (set_of current ws s (length es)) ≤ octant_rows current octant_length
    fits_room e = leb-true _ _ (asked 7 _ [] (λ z. omega (arith, z)) (sym room_number ∙ e)).0

    pub room_fits : octants (set_of current ws s (length es)) ≤ octant_rows current octant_length → answer_number r ≡ 0
    unfolding first_no
    room_fits h = room_number ∙ alone_yes 7 _ (le-leb _ _ h)

module _ {s : Settings} {ws os es after : List ℕ} {scratch : ℕ} (listed : Listed s ws os es scratch) {r : Result ℕ Refusal}
    (told : Judged s.bucket es after (length ws) (length os) r) where
  abbrev Same : Type 0
  Same = SameTables s (length es) ws os

  listed_octants : octants_of s.bucket depths (view es) ≡ octants (set_of current ws s (length es))
  listed_octants = rows_octants s ws es listed.headed.few listed.entries

  pub not_fitting : (answer_number r ≡ 0 → ⊥) → (false ≡ true) ↔ Same
  not_fitting ne = says_no (λ same. ne (room_fits s ws es listed.headed.few listed.entries after (length os) r told same.octants_fit))

  module _ {n : ℕ} (fits : r ≡ Ok n) (as_long : length after ≡ length es) where
    octants_said : n ≡ octants_of s.bucket depths (view es)
    octants_said = told.octants n fits

    ordered_by : InOrder s (samples_from current ws 0 (length es)) after
    ordered_by =
        record { few = samples_few s ws es listed.headed.few listed.entries; order = told.order n fits ∙ ap (λ (l : List ℕ). order_of s.bucket depths (view l)) listed.entries }

    pub judged_once : RowsOnce (length after) after
    judged_once =
        subst (λ (m : ℕ). RowsOnce m after) (samples_length ws (length es) 0 ∙ sym as_long) (rows_once ordered_by)

    pub judged_few : length after ≤ sample_rows current (length ws)
    judged_few = omega (arith, as_long, listed.headed.few)

    pub judged_ordered : Ordered s.bucket depths after
    judged_ordered = is_ordered ordered_by

    pub judged_octants : n ≡ octants_of s.bucket depths (view after)
    unfolding set_of
    judged_octants = octants_said ∙ listed_octants ∙ sym (same_octants ordered_by)

    pub judged_room : n ≤ octant_rows current (length os)
    judged_room =
        omega (arith, octants_said, listed_octants, fits_room s ws es listed.headed.few listed.entries after (length os) r told (ap answer_number fits))

    sample_words_are : sample_table_by (length ws) (settings_in current ws) (view after) (samples_from current ws 0 (length after))
        ≡ (tables_for current (set_of current ws s (length es)) (length ws) (length os)).samples
    unfolding set_of tables_for
    sample_words_are =
        ap₂ (λ (x : Settings) (m : ℕ). sample_table_by (length ws) x (view after) (samples_from current ws 0 m)) listed.headed.settings as_long
        ∙ sample_table ordered_by (length ws)

    octant_words_are : octant_table_by (length os) s.bucket after ≡ (tables_for current (set_of current ws s (length es)) (length ws) (length os)).octants
    unfolding set_of tables_for
    octant_words_are = octant_table ordered_by (length os)

    pub samples_differ : (q : Bool) → not q ≡ true
        → (q ≡ true) ↔ (ws ≡ sample_table_by (length ws) (settings_in current ws) (view after) (samples_from current ws 0 (length after)))
        → (false ≡ true) ↔ Same
    samples_differ q off t = refuted q off t (λ same. ap (λ (x : Tables). x.samples) same.words ∙ sym sample_words_are)

    pub tables_tell : ws ≡ sample_table_by (length ws) (settings_in current ws) (view after) (samples_from current ws 0 (length after)) → (q : Bool)
        → (q ≡ true) ↔ (os ≡ octant_table_by (length os) s.bucket after) → (q ≡ true) ↔ Same
    tables_tell s q t =
        Iff.trans t (
          λ o. record {
            octants_fit = omega (arith, octants_said, listed_octants, judged_room);
            words = ap₂ pair (s ∙ sample_words_are) (o ∙ octant_words_are);
          },
          λ same. ap (λ (x : Tables). x.octants) same.words ∙ sym octant_words_are,
        )

-- Clear: what its answers and its tables meet, and that the tables of the empty set can always be written.
use Prim.Native.Nat.{ℕ, zero, suc}
use mathlib.Core.Bool.{true, false, true≢false}
use mathlib.Core.List.{List, []}
use mathlib.Core.Path.{◌≡◌, refl, sym, ap, ◌∙◌}
use native.Mathlib.Omega.{arith}
use lib.Dec.{leb-suc-zero}
use lib.ListN.{length}
use Rattle.colour.specs.declared.Settings.{Settings}
use Rattle.colour.specs.Octant.{depths}
use Rattle.colour.specs.Question.{first_no}
use Rattle.colour.proofs.Laws.Questions.{first_no_lem, alone_yes}
use Rattle.model.specs.SampleSet.{settings_good, placed_from, placed, splits, order_of, octants}
use Rattle.model.specs.Layout.{current}
use Rattle.model.specs.Tables.{Tables, pair, tables_for}
use Rattle.model.specs.Machine.{lent, plain, tables_of, clear_questions, empty_set, start_on, start}
use Rattle.model.specs.Sound.{long_enough}
use Rattle.model.specs.Meets.{ClearMeets}
use Rattle.model.proofs.Tree.Octants.{no_octants}
use Rattle.words.specs.Rows.{samples_from, set_of}
use Rattle.order.specs.Entries.{entries_of, view}
use Rattle.octree.specs.Steps.{Writable}
use Rattle.octree.proofs.Laws.Tables.Check.{both_long}

module _ (x : Settings) (s o : List ℕ) where
  -- The number that question 3 gives.
  settings_no : settings_good x ≡ false → first_no (clear_questions x) ≡ 3
  unfolding clear_questions
  settings_no out = first_no_lem 3 (settings_good x) [] out

  settings_yes : settings_good x ≡ true → first_no (clear_questions x) ≡ 0
  unfolding clear_questions
  settings_yes good = alone_yes 3 (settings_good x) good

  -- Question 1: tables that are too short give 1.
  pub refused_short_lem : long_enough current (pair s o) ≡ false → ClearMeets x (pair s o) (plain 1 []) (pair s o)
  unfolding lent
  refused_short_lem short =
      record {
        short = λ _. record { answer = refl; tables = refl };
        refused = λ long. absurd (true≢false (sym long ∙ short));
        accepted = λ long. absurd (true≢false (sym long ∙ short));
      }

  -- Question 3: a bucket size out of range gives 3.
  pub refused_settings : long_enough current (pair s o) ≡ true → settings_good x ≡ false → ClearMeets x (pair s o) (plain 3 []) (pair s o)
  unfolding lent
  refused_settings long out =
      record {
        short = λ short. absurd (true≢false (sym long ∙ short));
        refused = λ _ _. record { answer = ap (λ (n : ℕ). plain n []) (sym (settings_no out)); tables = refl };
        accepted = λ _ z. absurd (omega (arith, settings_no out, z));
      }

  -- Else the tables are those of the empty set.
  pub accepted : (t' : Tables) → long_enough current (pair s o) ≡ true → settings_good x ≡ true
      → t' ≡ tables_for current (set_of current s x 0) (length s) (length o) → ClearMeets x (pair s o) (plain 0 []) t'
  unfolding tables_of start start_on empty_set set_of samples_from
  accepted t' long good e =
      record {
        short = λ short. absurd (true≢false (sym long ∙ short));
        refused = λ _ n. absurd (n (settings_yes good));
        accepted = λ _ _. (refl, e);
      }

-- No samples have no order.
no_order : (b j : ℕ) → order_of b j [] ≡ []
unfolding order_of splits
no_order b zero = refl
no_order b (suc j) = rw (leb-suc-zero b, order_of)

-- The tables of no samples can be written, where they have their headers.
pub empty_writable : (x : Settings) (s o : List ℕ) → long_enough current (pair s o) ≡ true → Writable x s (length o) []
unfolding long_enough samples_from entries_of view placed_from set_of octants placed
empty_writable x s o long =
    record {
      sample_words_is = (both_long s o long).0;
      octant_words_is = (both_long s o long).1;
      few = omega arith;
      order = sym (no_order x.bucket depths);
      room = omega (arith, no_octants x.bucket depths);
    }

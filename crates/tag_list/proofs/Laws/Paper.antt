-- What document 01 says of walklist besides its definition.
use Prim.Native.Nat.{ℕ, ◌≤◌}
use mathlib.Core.Bool.{false}
use mathlib.Core.List.{List, []}
use Rattle.std.specs.Prelude.{Option, None, Some, is_some}
use mathlib.Core.Path.{◌≡◌, refl, ap, ◌∙◌}
use native.Mathlib.Omega.{arith}
use lib.ListN.{length, take}
use lib.Seq.{length-take-le}
use Rattle.colour.specs.Question.{first_no}
use Rattle.colour.proofs.Laws.Questions.{first_no_lem}
use Rattle.sheet.specs.Sheet.{line_count}
use Rattle.sheet.proofs.Laws.Numbers.{line_start_is}
use Rattle.sheet.proofs.Laws.Reading.Header.{formed}
use Rattle.model.specs.Layout.{current, sample_rows, octant_rows}
use Rattle.model.specs.Machine.{Call, Change, Load, lent, nearest_answer, plain, questions, refusal}
use Rattle.model.specs.Walklist.{walklist_start, refused_line, printed_after, walklist_prints}
use Rattle.model.specs.Computes.{computes}
use Rattle.model.proofs.Machine.Step.{step_refused}

-- "Into 512 swatch and 1,489 octant rows."
pub start_rows : (sample_rows current walklist_start.sample_length ≡ 512) × (octant_rows current walklist_start.octant_length ≡ 1489)
unfolding computes
start_rows = (refl, refl)

-- No sheet has 32,768 bytes: 15 + 62 × n is another number, whatever n is.
no_sheet : (s : List ℕ) → length s ≡ 32768 → line_count s ≡ None
no_sheet s e = go (line_count s) refl
  where
    go : (o : Option ℕ) → line_count s ≡ o → line_count s ≡ None
    go None is = is
    go (Some n) is = absurd (omega (arith, e, (formed s n is).whole, line_start_is n))

-- "What follows is cut off, so number 11 results."
module _ (input : List ℕ) (long : 32768 ≤ length input) where
  abbrev c : Call
  c = Change (Load (take 32768 input))

  no_lines : is_some (line_count (take 32768 input)) ≡ false
  no_lines = ap (λ (o : Option ℕ). is_some o) (no_sheet (take 32768 input) (length-take-le 32768 input long))

  gives_11 : first_no (questions walklist_start c) ≡ 11
  unfolding questions
  gives_11 = first_no_lem 11 (is_some (line_count (take 32768 input))) [] no_lines

  pub cut_refused : walklist_prints input ≡ refused_line 11
  unfolding walklist_prints printed_after refusal plain nearest_answer lent
  cut_refused =
      ap printed_after (step_refused walklist_start c (λ z. omega (arith, gives_11, z)))
      ∙ ap (λ (n : ℕ). printed_after (record { answer = plain n []; set = walklist_start.set })) gives_11

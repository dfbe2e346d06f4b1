-- Each call keeps the machine within its tables (document 01, "The bin" and "Questions").
use Prim.Native.Nat.{ℕ, suc, ◌≤◌}
use mathlib.Core.Bool.{Bool, true, false, not}
use mathlib.Core.List.{List, [], ◌∷◌, ◌++◌}
use Rattle.std.specs.Prelude.{Option, None, Some}
use mathlib.Core.Path.{◌≡◌, refl, ap, ◌∙◌}
use native.Mathlib.Numerals.{add-one}
use lib.ListN.{length, length-append}
use lib.Dec.{eqb, ltb, leb}
use native.Mathlib.Omega.{arith}
use borrow.Author.Tests.{leb-true, eqb-true, eqb-false, not-true}
use Rattle.colour.specs.declared.Sample.{Sample}
use Rattle.colour.specs.declared.Settings.{Settings}
use Rattle.colour.specs.Colour.{codes_fit}
use Rattle.colour.specs.Octant.{depths}
use Rattle.colour.specs.Question.{first_no}
use Rattle.colour.proofs.Laws.Questions.{asked}
use Rattle.sheet.specs.declared.line.Line.{Line}
use Rattle.sheet.specs.Sheet.{lines_of}
use Rattle.sheet.proofs.Laws.Ranges.{Ranged, AllRanged, sheet_ranged}
use Rattle.model.specs.Lists.{keep}
use Rattle.model.specs.SampleSet.{settings_good, placed_from, placed, octants}
use Rattle.model.specs.Layout.{current, sample_header, octant_header, sample_rows, octant_rows}
use Rattle.model.specs.Machine.{Machine, Call, Clear, Change, Load, Add, Remove, Ask, with_set, with_samples, empty_set, added, removed, has_tag, start_on}
use Rattle.model.specs.Machine.{fit_questions, new_questions, line_questions, clear_questions, questions, loaded, load_lines, accepted, refusal, next_state}
use Rattle.model.specs.Sound.{Valid, Distinct, CodesInRange}
use Rattle.model.proofs.Lists.{keep_length}
use Rattle.model.proofs.Machine.Samples.{keep_distinct, keep_range, snoc_distinct, both_range}
use Rattle.model.proofs.Machine.Step.{step_accepted, step_refused}
use Rattle.model.proofs.Tree.Octants.{no_octants, fewer_octants, keep_fewer}

-- A machine with other samples, within the same lengths.
changed_valid : (m : Machine) (xs : List Sample) → Valid current m → Distinct xs → CodesInRange xs → length xs ≤ sample_rows current m.sample_length
    → octants (with_samples m.set xs) ≤ octant_rows current m.octant_length → Valid current (with_set m (with_samples m.set xs))
unfolding with_samples with_set
changed_valid m xs v d r n o =
    record {
      sample_words_is = v.sample_words_is;
      octant_words_is = v.octant_words_is;
      settings_good_is = v.settings_good_is;
      tags_distinct = d;
      in_range = r;
      rows_fit = n;
      octants_fit = o;
    }

added_valid : (m : Machine) (s : Sample) → Valid current m → codes_fit s.colour ≡ true → first_no (new_questions m s) ≡ 0
    → Valid current (with_set m (added m.set s))
unfolding new_questions fit_questions added with_samples CodesInRange
added_valid m s v c h =
    let xs : List Sample = m.set.samples in
    let q5 = asked 5 (not (has_tag s.tag xs)) (fit_questions m (added m.set s)) (λ z. omega arith) h in
    let q6 = asked 6 (leb (length (xs ++ (s ∷ []))) (sample_rows current m.sample_length)) _ (λ z. omega arith) q5.1 in
    let q7 = asked 7 (leb (octants (added m.set s)) (octant_rows current m.octant_length)) _ (λ z. omega arith) q6.1 in
    changed_valid m (xs ++ (s ∷ [])) v (snoc_distinct s xs v.tags_distinct (not-true _ q5.0)) (both_range xs (s ∷ []) v.in_range (c, tt))
    (leb-true _ _ q6.0) (leb-true _ _ q7.0)

-- Question 6 asks for an unused row.
pub row_unused : (xs : List Sample) (s : Sample) (rows : ℕ) → leb (length (xs ++ (s ∷ []))) rows ≡ ltb (length xs) rows
row_unused xs s rows = ap (λ (n : ℕ). leb n rows) (length-append xs (s ∷ []) ∙ add-one (length xs))

pub removed_valid : (m : Machine) (t : ℕ) → Valid current m → Valid current (with_set m (removed m.set t))
unfolding removed with_samples octants placed
removed_valid m t v =
    let p : Sample → Bool = λ s. not (eqb s.tag t) in
    let xs : List Sample = m.set.samples in
    changed_valid m (keep p xs) v (keep_distinct p xs v.tags_distinct) (keep_range p xs v.in_range)
    (omega (arith, keep_length p xs, v.rows_fit))
    (omega (arith, fewer_octants m.set.settings.bucket depths (keep_fewer p 0 0 xs), v.octants_fit))

pub started_valid : (s : Settings) (n k : ℕ) → sample_header current ≤ n → octant_header current ≤ k → first_no (clear_questions s) ≡ 0
    → Valid current (start_on s n k)
unfolding clear_questions Distinct CodesInRange octants placed placed_from start_on empty_set
started_valid s n k h g q =
    record {
      sample_words_is = h;
      octant_words_is = g;
      settings_good_is = (asked 3 (settings_good s) [] (λ z. omega arith) q).0;
      tags_distinct = tt;
      in_range = tt;
      rows_fit = omega arith;
      octants_fit = omega (arith, no_octants s.bucket depths);
    }

lines_valid : (lines : List (Option Line)) (m : Machine) (k : ℕ) → Valid current m → AllRanged lines → Valid current (with_set m (load_lines m k lines).set)
unfolding loaded load_lines line_questions AllRanged Ranged with_set
lines_valid [] m k v f = v
lines_valid (None ∷ rest) m k v f = v
lines_valid (Some l ∷ rest) m k v f =
    go (eqb (first_no (line_questions m (Some l))) 0) refl (λ w. lines_valid rest (with_set m (added m.set l.sample)) (suc k) w f.1)
  where
    go : (r : Bool) → eqb (first_no (line_questions m (Some l))) 0 ≡ r
        → (Valid current (with_set m (added m.set l.sample))
        → Valid current (with_set m (load_lines (with_set m (added m.set l.sample)) (suc k) rest).set))
        → Valid current (with_set m (load_lines m k (Some l ∷ rest)).set)
    go true e h =
        let q12 = asked 12 true (new_questions m l.sample) (λ z. omega arith) (eqb-true _ 0 e) in
        rw (load_lines, e) (h (added_valid m l.sample v f.0.codes q12.1))
    go false e h = rw (load_lines, e) v

-- An accepted call leaves a machine within its tables: one case for each call.
accepted_valid : (m : Machine) (c : Call) → Valid current m → first_no (questions m c) ≡ 0 → Valid current (with_set m (accepted m c).set)
unfolding questions accepted with_set start_on
accepted_valid m (Clear s) v z = started_valid s m.sample_length m.octant_length v.sample_words_is v.octant_words_is z
accepted_valid m (Change (Load sheet)) v z = lines_valid (lines_of sheet) m 0 v (sheet_ranged sheet)
accepted_valid m (Change (Add s)) v z =
    let q4 = asked 4 (codes_fit s.colour) (new_questions m s) (λ e. omega arith) z in
    added_valid m s v q4.0 q4.1
accepted_valid m (Change (Remove t)) v z = removed_valid m t v
accepted_valid m (Ask q l) v z = v

pub step_valid : (m : Machine) (c : Call) → Valid current m → Valid current (next_state m c)
unfolding next_state with_set refusal
step_valid m c v = go (eqb (first_no (questions m c)) 0) refl
  where
    go : (r : Bool) → eqb (first_no (questions m c)) 0 ≡ r → Valid current (next_state m c)
    go true e = let z = eqb-true _ 0 e in rw (step_accepted m c z) (accepted_valid m c v z)
    go false e = rw (step_refused m c (eqb-false _ 0 e)) v

-- The lengths stay the same throughout.
pub record SameLengths (m m' : Machine) : Type 0 where
  pub samples : m'.sample_length ≡ m.sample_length
  pub octants : m'.octant_length ≡ m.octant_length

pub step_lengths : (m : Machine) (c : Call) → SameLengths m (next_state m c)
unfolding next_state with_set
step_lengths m c = record { samples = refl; octants = refl }

-- The machine's load, line by line, against the longest run of good lines that is a set which fits.
use Prim.Native.Nat.{ℕ, zero, suc, ◌+◌, ◌-◌, ◌≤◌, ◌<◌}
use mathlib.Core.Bool.{Bool, true, false, not}
use mathlib.Core.List.{List, [], ◌∷◌, ◌++◌, append-nil}
use Rattle.std.specs.Prelude.{Option, None, Some}
use mathlib.Core.Path.{◌≡◌, refl, ap, ◌∙◌}
use native.Mathlib.Nat.{add-zero, add-suc, suc-add}
use native.Mathlib.Omega.{arith}
use borrow.Author.Tests.{leb-true, leb-false, le-leb, le-ltb, lt-ltb}
use lib.Dec.{eqb, ltb, leb}
use lib.ListN.{length, take, drop, length-append}
use lib.Seq.{append_snoc}
use Rattle.colour.specs.declared.Sample.{Sample}
use Rattle.colour.specs.Question.{asks, first_no}
use Rattle.sheet.specs.declared.line.Line.{Line}
use Rattle.model.specs.SampleSet.{octants}
use Rattle.model.specs.Layout.{current, sample_rows, octant_rows}
use Rattle.model.specs.Machine.{Machine, Outcome, has_tag, load_answer, with_set, with_samples, added, fit_questions, new_questions, line_questions, loaded, load_lines}
use Rattle.model.specs.Sound.{Distinct}
use Rattle.model.proofs.Machine.Samples.{snoc_distinct, front_distinct, last_new}
use Rattle.model.proofs.Machine.Valid.{row_unused}
use Rattle.model.proofs.Tree.Octants.{octants_grow}
use Rattle.samples.specs.Steps.{holding, good_samples, stop_by, stop_number}

-- The number of a good line that can't be taken is the first no of 5, 6 and 7.
first_of : (known full fit : Bool) → (known ≡ false → full ≡ false → fit ≡ true → ⊥)
    → (first_no (asks 5 (not known) ∷ asks 6 (not full) ∷ asks 7 fit ∷ []) ≡ stop_by known full)
    × (eqb (first_no (asks 5 (not known) ∷ asks 6 (not full) ∷ asks 7 fit ∷ [])) 0 ≡ false)
unfolding first_no
first_of true full fit h = (refl, refl)
first_of false true fit h = (refl, refl)
first_of false false false h = (refl, refl)
first_of false false true h = absurd (h refl refl refl)

-- A row is unused where the rows are not full.
row_left : (xs : List Sample) (s : Sample) (rows : ℕ) → leb (length (xs ++ (s ∷ []))) rows ≡ not (leb rows (length xs))
row_left xs s rows = row_unused xs s rows ∙ go (leb rows (length xs)) refl
  where
    go : (full : Bool) → leb rows (length xs) ≡ full → ltb (length xs) rows ≡ not full
    go true e = le-ltb (length xs) rows (leb-true rows (length xs) e)
    go false e = lt-ltb (length xs) rows (leb-false rows (length xs) e)

module _ (m : Machine) where
  -- The machine's sample rows.
  abbrev rows : ℕ
  rows = sample_rows current m.sample_length

  -- Samples that are a set, whose octants fit.
  pub record Fits (xs : List Sample) : Type 0 where
    pub tags_distinct : Distinct xs
    pub octants_fit : octants (with_samples m.set xs) ≤ octant_rows current m.octant_length

  -- So is a front of them.
  front_fits : (xs ys : List Sample) → Fits (xs ++ ys) → Fits xs
  unfolding with_samples
  front_fits xs ys f =
      record {
        tags_distinct = front_distinct xs ys f.tags_distinct;
        octants_fit = omega (arith, f.octants_fit, octants_grow m.set.settings xs ys);
      }

  -- What a good line is asked after the samples xs: the first no of 5, 6 and 7.
  module _ (xs : List Sample) (l : Line) where
    abbrev more : List Sample
    more = xs ++ (l.sample ∷ [])

    abbrev number : ℕ
    number = first_no (line_questions (holding m xs) (Some l))

    accepted : length xs < rows → Fits more → number ≡ 0
    unfolding line_questions new_questions fit_questions first_no added with_samples with_set
    accepted h f =
        rw (last_new l.sample xs f.tags_distinct, row_unused xs l.sample rows, lt-ltb (length xs) rows h, le-leb _ _ f.octants_fit, first_no)

    -- Where it can't be taken, the number is the one that a load stops with, and not 0.
    refused : (rest : List (Option Line)) → Fits xs → (length xs < rows → Fits more → ⊥)
        → (number ≡ stop_number xs rows (Some l ∷ rest)) × (eqb number 0 ≡ false)
    unfolding line_questions new_questions fit_questions added with_samples with_set stop_number first_no
    refused rest f never =
        rw (row_left xs l.sample rows)
        (first_of (has_tag l.sample.tag xs) (leb rows (length xs)) _
        (λ new left room.
        never (leb-false rows (length xs) left)
        (record { tags_distinct = snoc_distinct l.sample xs f.tags_distinct new; octants_fit = leb-true _ _ room })))

    -- So a load goes on after it, or ends before it.
    line_taken : (k : ℕ) (rest : List (Option Line)) → length xs < rows → Fits more
        → load_lines (holding m xs) k (Some l ∷ rest) ≡ load_lines (holding m more) (suc k) rest
    unfolding load_lines added with_samples with_set
    line_taken k rest h f = rw (accepted h f, load_lines)

    line_stops : (k : ℕ) (rest : List (Option Line)) → Fits xs → (length xs < rows → Fits more → ⊥)
        → load_lines (holding m xs) k (Some l ∷ rest)
        ≡ record { answer = load_answer (stop_number xs rows (Some l ∷ rest)) k; set = with_samples m.set xs }
    unfolding loaded load_lines with_samples with_set
    line_stops k rest f never =
        let r = refused rest f never in
        rw (r.1, load_lines) (ap (λ (n : ℕ). record { answer = load_answer n k; set = with_samples m.set xs }) r.0)

  -- The outcome of a load that ends with the samples zs, n lines taken, before the lines that are left.
  unfoldable pub ended : List Sample → ℕ → List (Option Line) → Outcome
  ended zs n left = record { answer = load_answer (stop_number zs rows left) n; set = with_samples m.set zs }

  -- A load that can't take one line more.
  stops_at_once : (lines : List (Option Line)) (xs : List Sample) (k room : ℕ) → room ≡ rows - length xs → Fits xs
      → ((0 ≡ length (good_samples room lines) → ⊥) → Fits (xs ++ take 1 (good_samples room lines)) → ⊥)
      → load_lines (holding m xs) k lines ≡ ended xs k lines
  unfolding ended loaded load_lines good_samples stop_number first_no with_samples with_set line_questions
  stops_at_once [] xs k room e f never = refl
  stops_at_once (None ∷ rest) xs k room e f never = refl
  stops_at_once (Some l ∷ rest) xs k zero e f never = line_stops xs l k rest f (λ h _. omega arith)
  stops_at_once (Some l ∷ rest) xs k (suc room) e f never = line_stops xs l k rest f (λ _ g. never (λ z. omega (arith, z)) g)

  -- A load that takes j good lines after the samples xs, and can't take one more.
  pub load_stops : (j : ℕ) (lines : List (Option Line)) (xs : List Sample) (k room : ℕ) → room ≡ rows - length xs
      → j ≤ length (good_samples room lines) → Fits (xs ++ take j (good_samples room lines))
      → ((j ≡ length (good_samples room lines) → ⊥) → Fits (xs ++ take (suc j) (good_samples room lines)) → ⊥)
      → load_lines (holding m xs) k lines ≡ ended (xs ++ take j (good_samples room lines)) (k + j) (drop j lines)
  unfolding good_samples
  load_stops zero lines xs k room e most f never =
      rw (append-nil xs, add-zero k) (stops_at_once lines xs k room e (front_fits xs [] f) never)
  load_stops (suc j) [] xs k zero e most f never = absurd (omega arith)
  load_stops (suc j) [] xs k (suc room) e most f never = absurd (omega arith)
  load_stops (suc j) (None ∷ rest) xs k zero e most f never = absurd (omega arith)
  load_stops (suc j) (None ∷ rest) xs k (suc room) e most f never = absurd (omega arith)
  load_stops (suc j) (Some l ∷ rest) xs k zero e most f never = absurd (omega arith)
  load_stops (suc j) (Some l ∷ rest) xs k (suc room) e most f never =
      let ys : List Sample = good_samples room rest in
      let g : Fits (more xs l ++ take j ys) = rw (append_snoc xs l.sample (take j ys)) f in
      rw (← append_snoc xs l.sample (take j ys), add-suc k j, ← suc-add k j)
      (line_taken xs l k rest (omega arith) (front_fits (more xs l) (take j ys) g)
      ∙ load_stops j rest (more xs l) (suc k) room (omega (arith, length-append xs (l.sample ∷ []))) (omega (arith, most)) g
      (λ ne h. never (λ z. ne (omega (arith, z))) (rw (← append_snoc xs l.sample (take (suc j) ys)) h)))

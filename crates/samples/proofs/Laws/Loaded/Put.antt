-- `put_lines`: the rows so far, and the good lines that are left, are the rows that it leaves.
use Prim.Native.Nat.{ℕ, suc, ◌+◌, ◌-◌, ◌≤◌, ◌<◌, min}
use mathlib.Core.Bool.{Bool, true, false}
use borrow.Author.Tests.{leb-true, leb-false}
use lib.Dec.{leb}
use mathlib.Core.List.{List, [], ◌∷◌, ◌++◌, append-nil}
use Rattle.std.specs.Prelude.{None, Some}
use mathlib.Core.Path.{◌≡◌, refl, sym, ap, ◌∙◌, subst}
use native.Mathlib.Nat.{add-suc}
use native.Mathlib.Numerals.{add-one}
use native.Mathlib.Omega.{arith}
use lib.ListN.{length, length-append}
use lib.Seq.{append_snoc}
use Rattle.colour.specs.declared.Sample.{Sample}
use Rattle.sheet.specs.declared.line.Line.{Line}
use Rattle.sheet.specs.Line.{line_of}
use Rattle.sheet.specs.Sheet.{line_start, line_part, lines_from}
use Rattle.model.specs.Layout.{current, sample_rows}
use Rattle.words.specs.Rows.{samples_from, with_sample}
use Rattle.words.proofs.Laws.Layout.Put.{put_length, put_snoc}
use Rattle.words.proofs.Laws.Layout.Samples.{samples_length}
use Rattle.samples.specs.Steps.{good_samples, LinesPut}
use Rattle.samples.proofs.Laws.Loaded.Good.{good_end, good_bad}
use Rattle.samples.proofs.Laws.Loaded.Left.{next_left, none_left}

-- The good lines from line k on that still find a row, and all that do after the first n rows.
abbrev good_from : List ℕ → ℕ → ℕ → ℕ → List Sample
good_from sheet lines room k = good_samples (room - k) (lines_from sheet k (lines - k))

abbrev good_all : List ℕ → ℕ → List ℕ → ℕ → List Sample
good_all ws n sheet lines = good_samples (sample_rows current (length ws) - n) (lines_from sheet 0 lines)

-- The state before line k, with the samples of k lines in the rows after the first n.
pub record PutSoFar (ws : List ℕ) (n : ℕ) (sheet : List ℕ) (lines room : ℕ) (ws' : List ℕ) (k : ℕ) : Type 0 where
  pub same_length : length ws' ≡ length ws
  pub all_rows : sample_rows current (length ws) ≡ n + room
  pub bytes : line_start lines ≤ length sheet
  pub rows : samples_from current ws' 0 (n + k) ++ good_from sheet lines room k ≡ samples_from current ws 0 n ++ good_all ws n sheet lines

module _ {ws : List ℕ} {n : ℕ} {sheet : List ℕ} {lines room : ℕ} {ws' : List ℕ} {k : ℕ} (h : PutSoFar ws n sheet lines room ws' k) where
  -- Where no good line is left, the rows are as promised.
  ends : good_from sheet lines room k ≡ [] → LinesPut n ws sheet lines k ws'
  ends e =
      let before : List Sample = samples_from current ws 0 n in
      let after : List Sample = samples_from current ws' 0 (n + k) in
      let whole : after ≡ before ++ good_all ws n sheet lines = sym (append-nil after) ∙ ap (λ (l : List Sample). after ++ l) (sym e) ∙ h.rows in
      let sum : length after ≡ length before + length (good_all ws n sheet lines) = ap length whole ∙ length-append before (good_all ws n sheet lines) in
      record { many = omega (arith, sum, samples_length ws' (n + k) 0, samples_length ws n 0); rows = whole }

  -- No row is left, no line is, or the next is not good.
  pub no_row : room ≤ k → LinesPut n ws sheet lines k ws'
  unfolding good_samples
  no_row full =
      let left : room - k ≡ 0 = omega arith in
      ends (ap (λ (r : ℕ). good_samples r (lines_from sheet k (lines - k))) left)

  pub no_line : lines ≤ k → LinesPut n ws sheet lines k ws'
  no_line end = ends (ap (good_samples (room - k)) (none_left sheet k lines end) ∙ good_end (room - k))

  pub all_put : (most : ℕ) → most ≡ min lines room → most ≤ k → k ≤ most → LinesPut n ws sheet lines most ws'
  all_put most e l m = let same : k ≡ most = omega arith in subst (λ (r : ℕ). LinesPut n ws sheet lines r ws') same (go (leb lines k) refl)
    where
      go : (b : Bool) → leb lines k ≡ b → LinesPut n ws sheet lines k ws'
      go true t = no_line (leb-true lines k t)
      go false t = let more : k < lines = leb-false lines k t in no_row (omega arith)

  pub bad_line : k < lines → None ≡ line_of (line_part sheet k) → LinesPut n ws sheet lines k ws'
  bad_line more bad = ends (rw (next_left sheet k lines more, ← bad) (good_bad (room - k) _))

  -- Where a row is left, it is the next.
  next_row : k < room → n + k < sample_rows current (length ws')
  next_row left = omega (arith, h.all_rows, ap (sample_rows current) h.same_length)

  -- A good line is put in it.
  pub puts : (l : Line) → k < lines → k < room → Some l ≡ line_of (line_part sheet k)
      → PutSoFar ws n sheet lines room (with_sample current ws' (n + k) l.sample) (k + 1)
  unfolding good_samples
  puts l more left good =
      let one : room - k ≡ suc (room - suc k) = omega arith in
      let next : good_from sheet lines room k ≡ l.sample ∷ good_from sheet lines room (suc k) = rw (next_left sheet k lines more, ← good, one) in
      record {
        same_length = put_length ws' (n + k) l.sample ∙ h.same_length;
        all_rows = h.all_rows;
        bytes = h.bytes;
        rows =
            rw (add-one k, add-suc n k, put_snoc ws' (n + k) l.sample (next_row left))
            (append_snoc (samples_from current ws' 0 (n + k)) l.sample (good_from sheet lines room (suc k))
            ∙ ap (λ (r : List Sample). samples_from current ws' 0 (n + k) ++ r) (sym next)
            ∙ h.rows);
      }

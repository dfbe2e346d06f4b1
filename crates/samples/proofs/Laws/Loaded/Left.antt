-- The lines of a sheet that are left from line k on.
use Prim.Native.Nat.{ℕ, zero, suc, ◌+◌, ◌-◌, ◌≤◌, ◌<◌}
use mathlib.Core.List.{List, [], ◌∷◌}
use mathlib.Core.Path.{◌≡◌, refl, ap}
use native.Mathlib.Nat.{add-zero, add-suc, suc-add, sub-zero, suc-sub-suc}
use native.Mathlib.Omega.{arith}
use lib.ListN.{length, drop}
use Rattle.sheet.specs.Line.{line_of}
use Rattle.sheet.specs.Sheet.{line_start, line_part, lines_from}
use Rattle.sheet.proofs.Laws.Numbers.{line_start_is}

module _ (sheet : List ℕ) where
  -- The next line is within the sheet.
  pub line_room : (k lines : ℕ) → k < lines → line_start lines ≤ length sheet → line_start (suc k) ≤ length sheet
  line_room k lines h all = omega (arith, line_start_is (suc k), line_start_is lines)

  -- A line is left, or none is.
  pub next_left : (k lines : ℕ) → k < lines
      → lines_from sheet k (lines - k) ≡ line_of (line_part sheet k) ∷ lines_from sheet (suc k) (lines - suc k)
  unfolding lines_from
  next_left k lines h =
      let one : lines - k ≡ suc (lines - suc k) = omega arith in
      rw (one, lines_from)

  pub none_left : (k lines : ℕ) → lines ≤ k → lines_from sheet k (lines - k) ≡ []
  unfolding lines_from
  none_left k lines h =
      let left : lines - k ≡ 0 = omega arith in
      rw (left, lines_from)

  -- As many lines as are asked for.
  pub lines_length : (k n : ℕ) → length (lines_from sheet k n) ≡ n
  unfolding lines_from
  lines_length k zero = refl
  lines_length k (suc n) = ap suc (lines_length (suc k) n)

  -- The lines after the first j.
  pub lines_after : (j k n : ℕ) → j ≤ n → drop j (lines_from sheet k n) ≡ lines_from sheet (k + j) (n - j)
  unfolding lines_from
  lines_after zero k n h = rw (add-zero k, sub-zero n)
  lines_after (suc j) k zero h = absurd (omega arith)
  lines_after (suc j) k (suc n) h = rw (add-suc k j, ← suc-add k j, suc-sub-suc n j) (lines_after j (suc k) n (omega arith))

-- A number written in its columns from the right (document 01, "Sheets").
use Prim.Native.Nat.{ℕ, suc, ◌+◌, ◌-◌, ◌/◌, ◌%◌, ◌≤◌, ◌<◌}
use mathlib.Core.List.{List, [], ◌∷◌, ◌++◌, append_assoc}
use mathlib.Core.Path.{◌≡◌, sym, ap, ◌∙◌}
use native.Mathlib.Numerals.{add-one}
use native.Mathlib.Omega.{arith}
use borrow.Author.Tests.{lt-ltb, le-ltb}
use lib.ListN.{length, take, drop, set, replicate, length-append, length-set}
use lib.Seq.{length-take-le}
use Rattle.std.proofs.lemmas.List.{drop-set}
use Rattle.sheet.specs.Column.{blank, decimal, column_of}

-- So many blanks before some text.
padded : {k m : ℕ} (t : List ℕ) → k ≡ m → replicate k blank ++ t ≡ replicate m blank ++ t
padded t e = ap (λ (n : ℕ). replicate n blank ++ t) e

-- The last digit of a number below 10 has blanks before it, that of another the digits of a tenth of it.
pub column_last : (w n : ℕ) → n < 10 → column_of (suc w) n ≡ replicate w blank ++ ((48 + n) ∷ [])
unfolding column_of decimal
column_last w n h = let e : suc w - 1 ≡ w = omega arith in rw (lt-ltb n 10 h, decimal) (padded ((48 + n) ∷ []) e)

pub column_more : (w n : ℕ) → 10 ≤ n → column_of (suc w) n ≡ column_of w (n / 10) ++ ((48 + n % 10) ∷ [])
unfolding column_of decimal
column_more w n h =
    let tenth : List ℕ = decimal w (n / 10) in
    let digit : List ℕ = (48 + n % 10) ∷ [] in
    let e : suc w - length (tenth ++ digit) ≡ w - length tenth = omega (arith, length-append tenth digit) in
    rw (le-ltb n 10 h, decimal)
    (padded (tenth ++ digit) e ∙ sym (append_assoc (replicate (w - length tenth) blank) tenth digit))

-- All is written.
pub all_written : (w n left i : ℕ) (column : List ℕ) → column_of w n ≡ column_of i left ++ drop i column → i ≤ 0 → column ≡ column_of w n
unfolding column_of decimal
all_written w n left i column so_far h = let e : i ≡ 0 = omega arith in sym (so_far ∙ rw e)

-- A column of which the places from i on are written, and what is left of the number goes before them: a digit at the place
-- j before i, then blanks or more digits before it.
module _ (w n left i j : ℕ) (column : List ℕ) (so_far : column_of w n ≡ column_of i left ++ drop i column) (next : i ≡ suc j) (room : j < length column) where
  pub digit_more : 10 ≤ left → column_of w n ≡ column_of j (left / 10) ++ drop j (set column j (48 + left % 10))
  digit_more h = so_far ∙ rw (next, column_more j left h, append_assoc, drop-set column j (48 + left % 10) room, add-one j)

  pub digit_last : (blanks : List ℕ) → left < 10 → blanks ≡ replicate (length (take j (set column j (48 + left % 10)))) blank
      → blanks ++ drop j (set column j (48 + left % 10)) ≡ column_of w n
  digit_last blanks h e =
      let digit : 48 + left ≡ 48 + left % 10 = omega arith in
      let size : length (take j (set column j (48 + left % 10))) ≡ j =
      length-take-le j _ (omega (arith, length-set column j (48 + left % 10))) in
      sym (so_far ∙ rw (next, column_last j left h, append_assoc, e, size, drop-set column j (48 + left % 10) room, add-one j, digit))

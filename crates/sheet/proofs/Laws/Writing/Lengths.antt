-- A number fills its columns, and a written line has 62 bytes (document 01, "Sheets").
use Prim.Native.Nat.{ℕ, zero, suc, ◌+◌, ◌-◌, ◌/◌, ◌%◌, ◌≤◌}
use mathlib.Core.Bool.{Bool, true, false}
use mathlib.Core.List.{List, [], ◌∷◌, ◌++◌}
use mathlib.Core.Path.{◌≡◌, refl, ◌∙◌}
use native.Mathlib.Omega.{arith}
use lib.Dec.{ltb}
use lib.ListN.{length, replicate, length-append, length-replicate}
use Rattle.colour.specs.declared.Sample.{Sample}
use Rattle.sheet.specs.Column.{blank, decimal, column_of}
use Rattle.sheet.specs.Line.{name_columns, red_start, green_start, blue_start, blank_at, name_start, newline_at, line_length, number_columns, line_bytes}

decimal_most : (w n : ℕ) → length (decimal w n) ≤ w
unfolding decimal
decimal_most zero n = omega arith
decimal_most (suc w) n = go (ltb n 10) refl (decimal_most w (n / 10))
  where
    go : (r : Bool) → ltb n 10 ≡ r → length (decimal w (n / 10)) ≤ w → length (decimal (suc w) n) ≤ suc w
    go true e h = rw (e, decimal) (omega arith)
    go false e h = rw (e, decimal) (omega (arith, length-append (decimal w (n / 10)) ((48 + n % 10) ∷ [])))

pub column_length : (w n : ℕ) → length (column_of w n) ≡ w
unfolding column_of
column_length w n =
    length-append (replicate (w - length (decimal w n)) blank) (decimal w n)
    ∙ omega (arith, length-replicate (w - length (decimal w n)) blank, decimal_most w n)

pub numbers_length : (s : Sample) → length (number_columns s) ≡ blank_at
unfolding number_columns red_start green_start blue_start blank_at
numbers_length s = simp (length-append, column_length)

-- The name starts after them and a blank.
pub start_length : (s : Sample) → length (number_columns s ++ (blank ∷ [])) ≡ name_start
unfolding name_start
start_length s = length-append (number_columns s) (blank ∷ []) ∙ omega (arith, numbers_length s)

pub line_bytes_length : (s : Sample) (name : List ℕ) → length name ≤ name_columns → length (line_bytes s name) ≡ line_length
unfolding line_bytes line_length newline_at name_start
line_bytes_length s name h =
    simp length-append (omega (arith, numbers_length s, length-replicate (name_columns - length name) blank))

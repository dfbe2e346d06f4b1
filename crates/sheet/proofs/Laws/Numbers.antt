-- The numbers of sheets, as document 01 has them ("Sheets").
use Prim.Native.Nat.{ℕ, ◌+◌, ◌*◌}
use mathlib.Core.Path.{◌≡◌, refl}
use Rattle.sheet.specs.Computes.{sheet_numbers}
use Rattle.sheet.specs.Line.{name_start, line_length}
use Rattle.sheet.specs.Sheet.{line_start}

-- A line has 62 bytes; its name stands from byte 29 to byte 60.
pub line_length_is : line_length ≡ 62
unfolding sheet_numbers
line_length_is = refl

pub name_start_is : name_start ≡ 29
unfolding sheet_numbers
name_start_is = refl

-- Line k starts at byte 15 + 62 × k.
pub line_start_is : (k : ℕ) → line_start k ≡ 15 + 62 * k
unfolding sheet_numbers
line_start_is k = refl

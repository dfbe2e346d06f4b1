-- Sheets of written lines: what the laws of the round trip speak of. No call's promise cites these.
use Rattle.std.specs.Prelude.{ℕ, Bool, true, false, ◌&&◌, List, [], ◌∷◌, ◌++◌, map, eqb, length, Option, Some}
use Rattle.colour.specs.declared.Sample.{Sample}
use Rattle.colour.specs.Colour.{is_tag, codes_fit}
use Rattle.sheet.specs.declared.line.Line.{Line}
use Rattle.sheet.specs.Column.{newline, column_of}
use Rattle.sheet.specs.Line.{name_good, line_bytes}
use Rattle.sheet.specs.Sheet.{title, count_columns}

-- What a line is written from.
pub record Entry : Type 0 where
  pub sample : Sample
  pub name : List ℕ

-- The header of n lines, the lines of some entries, and the sheet of them.
unfoldable pub header_bytes : ℕ → List ℕ
header_bytes n = title ++ column_of count_columns n ++ (newline ∷ [])

unfoldable pub lines_bytes : List Entry → List ℕ
lines_bytes [] = []
lines_bytes (e ∷ rest) = line_bytes e.sample e.name ++ lines_bytes rest

unfoldable pub sheet_bytes : List Entry → List ℕ
sheet_bytes entries = header_bytes (length entries) ++ lines_bytes entries

-- An entry is good when tag and codes are in range and the name is good.
unfoldable pub entry_good : Entry → Bool
entry_good e = is_tag e.sample.tag && codes_fit e.sample.colour && name_good e.name

unfoldable pub entries_good : List Entry → Bool
entries_good [] = true
entries_good (e ∷ rest) = entry_good e && entries_good rest

-- What the line of an entry says, and what the lines of a sheet say: each is good.
unfoldable pub line_said : Entry → Line
line_said e = record { sample = e.sample; name_length = length e.name }

unfoldable pub lines_said : List Entry → List (Option Line)
lines_said es = map (λ e. Some (line_said e)) es

-- The name in the first entry with the tag; the empty name where there is none.
unfoldable pub name_for : ℕ → List Entry → List ℕ
name_for tag [] = []
name_for tag (e ∷ rest) = elim (eqb e.sample.tag tag) [ true ↦ e.name | false ↦ name_for tag rest ]

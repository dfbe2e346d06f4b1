-- Reel names and sheet lines, read and written (document 01, "Sheets").
use Rattle.std.specs.Prelude.{ℕ, ◌+◌, ◌-◌, Bool, true, false, ◌&&◌, List, [], ◌∷◌, ◌++◌, leb, eqb, length, take, drop, get_or, replicate, Option, None, Some, is_some}
use Rattle.colour.specs.Channels.{Colour}
use Rattle.colour.specs.declared.Sample.{Sample}
use Rattle.colour.specs.Colour.{is_tag, codes_fit}
use Rattle.colour.specs.Question.{asks, first_no}
use Rattle.sheet.specs.declared.line.Line.{Line}
use Rattle.sheet.specs.Column.{between, blank, newline, trimmed, column_number, column_of}

-- The columns of a line, and where each starts.
unfoldable pub tag_columns : ℕ
tag_columns = 10

unfoldable pub code_columns : ℕ
code_columns = 6

unfoldable pub name_columns : ℕ
name_columns = 32

unfoldable pub red_start : ℕ
red_start = tag_columns

unfoldable pub green_start : ℕ
green_start = red_start + code_columns

unfoldable pub blue_start : ℕ
blue_start = green_start + code_columns

unfoldable pub blank_at : ℕ
blank_at = blue_start + code_columns

unfoldable pub name_start : ℕ
name_start = blank_at + 1

unfoldable pub newline_at : ℕ
newline_at = name_start + name_columns

-- 62 bytes.
unfoldable pub line_length : ℕ
line_length = newline_at + 1

-- A byte of a name: 33..126.
unfoldable pub name_byte : ℕ → Bool
name_byte x = between 33 126 x

-- The name bytes that stand first.
unfoldable pub leading : List ℕ → List ℕ
leading [] = []
leading (x ∷ rest) = elim (name_byte x) [ true ↦ x ∷ leading rest | false ↦ [] ]

-- A name is 1 to 32 bytes, each 33..126. Question 10 asks this.
unfoldable pub name_good : List ℕ → Bool
name_good name = leb 1 (length name) && leb (length name) name_columns && eqb (length (leading name)) (length name)

-- A name's columns: the name at the left, blanks after.
unfoldable pub name_field_good : List ℕ → Bool
name_field_good s = name_good (leading s) && eqb (length (trimmed (drop (length (leading s)) s))) 0

-- A line from its numbers, where each column has one and tag and codes are in range.
unfoldable pub line_from : Option ℕ → Option ℕ → Option ℕ → Option ℕ → ℕ → Option Line
line_from None r g b n = None
line_from (Some t) None g b n = None
line_from (Some t) (Some r) None b n = None
line_from (Some t) (Some r) (Some g) None n = None
line_from (Some t) (Some r) (Some g) (Some b) n =
    let c : Colour = record { red = r; green = g; blue = b } in
    elim (is_tag t && codes_fit c) [ true ↦ Some (record { sample = record { tag = t; colour = c }; name_length = n }) | false ↦ None ]

-- The columns of a line's name.
unfoldable pub name_field : List ℕ → List ℕ
name_field s = take name_columns (drop name_start s)

-- What a line must have besides its numbers.
unfoldable pub line_formed : List ℕ → Bool
line_formed s =
    eqb (length s) line_length
    && eqb (get_or s blank_at 0) blank
    && name_field_good (name_field s)
    && eqb (get_or s newline_at 0) newline

-- The code in the columns that start at byte `at`.
unfoldable pub code_column : List ℕ → ℕ → Option ℕ
code_column s at = column_number (take code_columns (drop at s))

-- What a line's numbers say, beside a name of n bytes.
unfoldable pub line_numbers : List ℕ → ℕ → Option Line
line_numbers s n =
    line_from (column_number (take tag_columns s)) (code_column s red_start) (code_column s green_start) (code_column s blue_start) n

-- A line is good when so formed, with tag and codes in range; none where it is not.
unfoldable pub line_of : List ℕ → Option Line
line_of s = elim (line_formed s) [ true ↦ line_numbers s (length (leading (name_field s))) | false ↦ None ]

-- What the reading of a line gives back: the number, and what a good line says.
pub record LineAnswer : Type 0 where
  pub number : ℕ
  pub line : Option Line

-- Question 12: line good?
unfoldable pub line_asked : Option Line → LineAnswer
line_asked l = record { number = first_no (asks 12 (is_some l) ∷ []); line = l }

-- A line read.
unfoldable pub read_line : List ℕ → LineAnswer
read_line s = line_asked (line_of s)

-- The numbers of a line, written from a sample.
unfoldable pub number_columns : Sample → List ℕ
number_columns s =
    column_of tag_columns s.tag
    ++ column_of code_columns s.colour.red
    ++ column_of code_columns s.colour.green
    ++ column_of code_columns s.colour.blue

-- The line written from a sample and a name.
unfoldable pub line_bytes : Sample → List ℕ → List ℕ
line_bytes s name =
    number_columns s
    ++ (blank ∷ name)
    ++ replicate (name_columns - length name) blank
    ++ (newline ∷ [])

-- What the writer gives back: the number, and the bytes lent as it leaves them.
pub record WriteAnswer : Type 0 where
  pub number : ℕ
  pub left : List ℕ

-- The writer's questions: 4, 10, 13.
unfoldable pub write_number : Sample → List ℕ → List ℕ → ℕ
write_number s name lent =
    first_no (asks 4 (codes_fit s.colour) ∷ asks 10 (name_good name) ∷ asks 13 (leb line_length (length lent)) ∷ [])

-- Writes one line over the first 62 bytes lent, and leaves the rest; a refusal writes nothing.
unfoldable pub write_line : Sample → List ℕ → List ℕ → WriteAnswer
write_line s name lent =
    let n : ℕ = write_number s name lent in
    record { number = n; left = elim (eqb n 0) [ true ↦ line_bytes s name ++ drop line_length lent | false ↦ lent ] }

-- Whole sheets: the header, the lines, and the name lookup (document 01, "Sheets").
use Rattle.std.specs.Prelude.{ℕ, zero, suc, ◌+◌, ◌*◌, ◌≤◌, Bool, true, false, ◌&&◌, List, [], ◌∷◌, ◌≡◌, eqb, length, take, drop, get_or, Option, None, Some, is_some}
use Rattle.std.specs.Borrow.{Bor}
use Rattle.colour.specs.Question.{asks, first_no}
use Rattle.sheet.specs.declared.line.Line.{Line}
use Rattle.sheet.specs.declared.lookup.Part.{Part}
use Rattle.sheet.specs.Column.{newline, column_number}
use Rattle.sheet.specs.Line.{line_of, line_length, name_start}

-- The eight bytes `SWATCHES`.
unfoldable pub title : List ℕ
title = 83 ∷ 87 ∷ 65 ∷ 84 ∷ 67 ∷ 72 ∷ 69 ∷ 83 ∷ []

-- Whether two texts are the same.
unfoldable pub same_bytes : List ℕ → List ℕ → Bool
same_bytes [] [] = true
same_bytes [] (y ∷ ys) = false
same_bytes (x ∷ xs) [] = false
same_bytes (x ∷ xs) (y ∷ ys) = eqb x y && same_bytes xs ys

-- The columns of the line count.
unfoldable pub count_columns : ℕ
count_columns = 6

-- 15 bytes.
unfoldable pub header_length : ℕ
header_length = length title + count_columns + 1

-- Where line k starts: byte 15 + 62 × k.
unfoldable pub line_start : ℕ → ℕ
line_start k = header_length + line_length * k

-- What a header must have besides its count: the title, and a newline after the count.
unfoldable pub header_formed : List ℕ → Bool
header_formed s = same_bytes (take (length title) s) title && eqb (get_or s (length title + count_columns) 0) newline

-- A count, where the header is so formed and the sheet is exactly as long as it says.
unfoldable pub count_if : Bool → Option ℕ → List ℕ → Option ℕ
count_if false n s = None
count_if true None s = None
count_if true (Some n) s = elim (eqb (length s) (line_start n)) [ true ↦ Some n | false ↦ None ]

-- A header is good when so formed and the sheet is exactly 15 + 62 × count bytes. Question 11 asks this; the count is the
-- number of lines, none where the header is not good.
unfoldable pub line_count : List ℕ → Option ℕ
line_count s = count_if (header_formed s) (column_number (take count_columns (drop (length title) s))) s

-- What the reading of a header gives back: question 11, and the number of lines.
pub record HeaderAnswer : Type 0 where
  pub number : ℕ
  pub lines : Option ℕ

-- A header read.
unfoldable pub read_header : List ℕ → HeaderAnswer
read_header s = record { number = first_no (asks 11 (is_some (line_count s)) ∷ []); lines = line_count s }

-- Line k: the part of the sheet that starts at byte 15 + 62 × k.
unfoldable pub line_part : List ℕ → ℕ → List ℕ
line_part s k = take line_length (drop (line_start k) s)

-- n lines from line k on, each none where it is not good.
unfoldable pub lines_from : List ℕ → ℕ → ℕ → List (Option Line)
lines_from s k zero = []
lines_from s k (suc n) = line_of (line_part s k) ∷ lines_from s (suc k) n

-- The lines that a header counts; one that is not good counts none.
unfoldable pub lines_by : Option ℕ → List ℕ → List (Option Line)
lines_by None s = []
lines_by (Some n) s = lines_from s 0 n

-- A sheet's lines.
unfoldable pub lines_of : List ℕ → List (Option Line)
lines_of s = lines_by (line_count s) s

-- The empty part.
unfoldable pub empty_part : Part
empty_part = record { start = 0; size = 0 }

-- The bytes of a part.
unfoldable pub bytes_of : Part → List ℕ → List ℕ
bytes_of p s = take p.size (drop p.start s)

-- Whether all lines are good.
unfoldable pub all_good : List (Option Line) → Bool
all_good [] = true
all_good (None ∷ rest) = false
all_good (Some l ∷ rest) = all_good rest

-- The part that holds the name in the first line with the tag, of lines from line k on; the empty part if there is none.
unfoldable pub name_part_from : ℕ → ℕ → List (Option Line) → Part
name_part_from tag k [] = empty_part
name_part_from tag k (None ∷ rest) = name_part_from tag (suc k) rest
name_part_from tag k (Some l ∷ rest) =
    elim (eqb l.sample.tag tag) [
      | true ↦ record { start = line_start k + name_start; size = l.name_length }
      | false ↦ name_part_from tag (suc k) rest
    ]

-- The name lookup: the empty part also if a line is not good, or if the header is not good, since then there are no lines.
unfoldable pub name_part : List ℕ → ℕ → Part
name_part s tag = elim (all_good (lines_of s)) [ true ↦ name_part_from tag 0 (lines_of s) | false ↦ empty_part ]

-- What is promised of the text that a lookup hands back: it is those bytes, and they are a part of the sheet itself, in its memory and within it.
pub record NameIn (sheet : Bor (List ℕ)) (tag : ℕ) (r : Bor (List ℕ)) : Type 0 where
  pub within : (name_part sheet.now tag).start + (name_part sheet.now tag).size ≤ length sheet.now
  pub bytes : r.now ≡ bytes_of (name_part sheet.now tag) sheet.now
  pub place : r.ref_ptr ≡ (sheet.ref_ptr.0, sheet.ref_ptr.1 + (name_part sheet.now tag).start)

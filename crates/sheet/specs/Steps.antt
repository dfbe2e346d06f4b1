-- What the functions under the calls promise. No call's own promise cites these.
use Rattle.std.specs.Prelude.{ℕ, ◌+◌, true, false, List, ◌++◌, leb, length, take, drop, Option, None, Some}
use Rattle.sheet.specs.Line.{leading, name_field_good}

-- A number that is at most `most`; none where it is greater.
unfoldable pub within : ℕ → Option ℕ → Option ℕ
within most None = None
within most (Some n) = elim (leb n most) [ true ↦ Some n | false ↦ None ]

-- The greatest tag and the greatest code, as the columns are read with them; `no_tag` and `no_code` show them to be those of
-- `is_tag` and `is_code`.
abbrev pub greatest_tag : ℕ
greatest_tag = 4294967295

abbrev pub greatest_code : ℕ
greatest_code = 65535

-- The length of the name in its columns; none where these are not good.
unfoldable pub name_length_in : List ℕ → Option ℕ
name_length_in s = elim (name_field_good s) [ true ↦ Some (length (leading s)) | false ↦ None ]

-- A text with t written over it from place `at` on.
unfoldable pub put_at : ℕ → List ℕ → List ℕ → List ℕ
put_at at t s = take at s ++ (t ++ drop (at + length t) s)

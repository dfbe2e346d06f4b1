-- The program walklist: what it prints for what stands on its standard input (document 01, after "Cases a to l").
use Rattle.std.specs.Prelude.{ℕ, ◌+◌, ◌*◌, true, false, List, [], ◌∷◌, ◌++◌, map, eqb, take}
use Rattle.sheet.specs.Column.{column_of, newline}
use Rattle.sheet.specs.Line.{tag_columns}
use Rattle.model.specs.SampleSet.{order}
use Rattle.model.specs.Layout.{current, sample_header, sample_width, octant_header, octant_width}
use Rattle.model.specs.Queries.{tag_of}
use Rattle.model.specs.Machine.{Machine, Change, Load, Outcome, start_on, step}

-- b = 2, 512 sample and 1,489 octant rows.
unfoldable pub walklist_start : Machine
walklist_start =
    start_on (record { bucket = 2 }) (sample_header current + 512 * sample_width current) (octant_header current + 1489 * octant_width current)

-- Each tag in 10 columns and a newline.
unfoldable pub tag_lines : List ℕ → List ℕ
tag_lines [] = []
tag_lines (tag ∷ rest) = column_of tag_columns tag ++ (newline ∷ tag_lines rest)

-- `REFUSED`, the number in 3 columns, a newline.
unfoldable pub refused_line : ℕ → List ℕ
refused_line n = 82 ∷ 69 ∷ 70 ∷ 85 ∷ 83 ∷ 69 ∷ 68 ∷ column_of 3 n ++ (newline ∷ [])

-- What a load came to, printed: each tag of the walk (the order), or on a refusal only that.
unfoldable pub printed_after : Outcome → List ℕ
printed_after o =
    elim (eqb o.answer.number 0) [ true ↦ tag_lines (map tag_of (order o.set)) | false ↦ refused_line o.answer.number ]

-- 32,768 bytes at most; what follows is cut off.
unfoldable pub walklist_prints : List ℕ → List ℕ
walklist_prints input = printed_after (step walklist_start (Change (Load (take 32768 input))))

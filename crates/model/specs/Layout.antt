-- The layout of the two tables, as a value (document 01, "The tables"): which word stands where.
use Rattle.std.specs.Prelude.{ℕ, suc, ◌-◌, ◌/◌, min, List, [], ◌∷◌, length}
use Rattle.colour.specs.Colour.{Channel, Red, Green, Blue}

-- A word of the sample table's header after word 0, the count.
pub data Setting : Type 0 where
  Bucket : Setting

-- A word of a sample row. Next is the row of the sample that follows in the order, the count for the last.
pub data SampleField : Type 0 where
  Tag : SampleField
  Code : Channel → SampleField
  Next : SampleField

-- A word of an octant row: first and last sample row in the order, sample count, the row of child k.
pub data OctantField : Type 0 where
  First : OctantField
  Last : OctantField
  Count : OctantField
  Child : ℕ → OctantField

-- Which word stands where: in the header of the sample table, in a sample row, in an octant row.
pub record Layout : Type 0 where
  pub settings : List Setting
  pub sample : List SampleField
  pub octant : List OctantField

-- The words before the first sample row: the count and the settings.
unfoldable pub sample_header : Layout → ℕ
sample_header L = suc (length L.settings)

-- Before the first octant row: the octant count.
abbrev pub octant_header : Layout → ℕ
octant_header L = 1

-- The words of a sample row.
unfoldable pub sample_width : Layout → ℕ
sample_width L = length L.sample

-- The words of an octant row.
unfoldable pub octant_width : Layout → ℕ
octant_width L = length L.octant

-- The rows that a table of len words has: (length − 2) / 5 rounded down, in the layout in use, 4,096 at most.
unfoldable pub sample_rows : Layout → ℕ → ℕ
sample_rows L len = min 4096 ((len - sample_header L) / sample_width L)

-- (length − 1) / 11 rounded down, in the layout in use.
unfoldable pub octant_rows : Layout → ℕ → ℕ
octant_rows L len = (len - octant_header L) / octant_width L

-- The layout in use.
unfoldable pub current : Layout
current =
    record {
      settings = Bucket ∷ [];
      sample = Tag ∷ Code Red ∷ Code Green ∷ Code Blue ∷ Next ∷ [];
      octant = First ∷ Last ∷ Count ∷ Child 0 ∷ Child 1 ∷ Child 2 ∷ Child 3 ∷ Child 4 ∷ Child 5 ∷ Child 6 ∷ Child 7 ∷ [];
    }

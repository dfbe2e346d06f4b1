-- Every word of both tables (document 01, "The tables"), for a layout, a sample set and the two lengths.
use Rattle.std.specs.Prelude.{ℕ, zero, suc, ◌+◌, true, false, List, [], ◌∷◌, ◌++◌, map, eqb, length}
use denote.Triple.Both.{Both}
use Rattle.std.specs.Borrow.{Bor, MutBor}
use Rattle.colour.specs.declared.Settings.{Settings}
use Rattle.colour.specs.Colour.{code_in}
use Rattle.colour.specs.Octant.{depths, children}
use Rattle.model.specs.Lists.{joined, total, padded}
use Rattle.model.specs.SampleSet.{SampleSet, Placed, placed, part, splits, order_of, octants_of, order, octants}
use Rattle.model.specs.Layout.{Setting, Bucket, SampleField, Tag, Code, Next, OctantField, First, Last, Count, Child, Layout}

-- The row of the first; d where there is none.
unfoldable pub first_row : ℕ → List Placed → ℕ
first_row d [] = d
first_row d (x ∷ rest) = x.row

-- The row of the last; d where there is none.
unfoldable pub last_row : ℕ → List Placed → ℕ
last_row d [] = d
last_row d (x ∷ rest) = last_row x.row rest

-- The row that follows row i in an order; n after the last.
unfoldable pub next_row : ℕ → ℕ → List Placed → ℕ
next_row n i [] = n
next_row n i (x ∷ rest) = elim (eqb x.row i) [ true ↦ first_row n rest | false ↦ next_row n i rest ]

-- A word of the settings in the sample table's header.
unfoldable pub setting_word : Settings → Setting → ℕ
setting_word s Bucket = s.bucket

-- A word of the row of sample x, of n in that order.
unfoldable pub sample_word : ℕ → List Placed → Placed → SampleField → ℕ
sample_word n ordered x Tag = x.sample.tag
sample_word n ordered x (Code h) = code_in h x.sample.colour
sample_word n ordered x Next = next_row n x.row ordered

-- The rows of samples, one after the other.
unfoldable pub sample_rows_of : Layout → ℕ → List Placed → List Placed → List ℕ
sample_rows_of L n ordered [] = []
sample_rows_of L n ordered (x ∷ rest) = map (sample_word n ordered x) L.sample ++ sample_rows_of L n ordered rest

-- The words before the first sample row: the count and the settings.
abbrev pub header_words : Layout → ℕ → Settings → List ℕ
header_words L n s = n ∷ map (setting_word s) L.settings

-- The sample table's words: these, and a row for each sample by arrival.
unfoldable pub sample_words : Layout → SampleSet → List ℕ
sample_words L set =
    header_words L (length set.samples) set.settings ++ sample_rows_of L (length set.samples) (order set) (placed set)

-- Octants are numbered from 0, an octant before its children and child 0's whole subtree before child 1's.
-- This is the number of child k, of side 2 ^ j, of the split octant number `at` that holds xs.
unfoldable pub child_row : ℕ → ℕ → ℕ → List Placed → ℕ → ℕ
child_row b j at xs k = suc at + total (λ i. octants_of b j (part j i xs)) k

-- A child's word: its row, 0 where it is not in the tree.
unfoldable pub row_or_none : ℕ → List Placed → ℕ
row_or_none row [] = 0
row_or_none row (x ∷ xs) = row

-- The child word k of the octant number `at`, of side 2 ^ j, that holds xs.
unfoldable pub child_word : ℕ → ℕ → ℕ → List Placed → ℕ → ℕ
child_word b zero at xs k = 0
child_word b (suc j) at xs k = elim (splits b (suc j) xs) [ true ↦ row_or_none (child_row b j at xs k) (part j k xs) | false ↦ 0 ]

-- A word of the row of octant number `at`, of side 2 ^ j, that holds xs.
unfoldable pub octant_word : ℕ → ℕ → ℕ → List Placed → OctantField → ℕ
octant_word b j at xs First = first_row 0 (order_of b j xs)
octant_word b j at xs Last = last_row 0 (order_of b j xs)
octant_word b j at xs Count = length xs
octant_word b j at xs (Child k) = child_word b j at xs k

-- Its row; none where it is not in the tree.
unfoldable pub octant_row : Layout → ℕ → ℕ → ℕ → List Placed → List ℕ
octant_row L b j at [] = []
octant_row L b j at (x ∷ xs) = map (octant_word b j at (x ∷ xs)) L.octant

-- Its row and those of the octants below it.
unfoldable pub octant_rows_of : Layout → ℕ → ℕ → ℕ → List Placed → List ℕ
octant_rows_of L b zero at xs = octant_row L b zero at xs
octant_rows_of L b (suc j) at xs =
    elim (splits b (suc j) xs) [
      | true ↦ octant_row L b (suc j) at xs ++ joined (λ k. octant_rows_of L b j (child_row b j at xs k) (part j k xs)) children
      | false ↦ octant_row L b (suc j) at xs
    ]

-- The octant table's words: the octant count, and the rows from the root on.
unfoldable pub octant_words : Layout → SampleSet → List ℕ
octant_words L set = octants set ∷ octant_rows_of L set.settings.bucket depths 0 (placed set)

-- The words of two tables.
pub record Tables : Type 0 where
  pub samples : List ℕ
  pub octants : List ℕ

-- Two tables from their words.
abbrev pub pair : List ℕ → List ℕ → Tables
pair s o = record { samples = s; octants = o }

-- Both tables of a call, by the slices that it is lent: as they are lent, and as it leaves them.
abbrev pub tables_lent : {A B : Type 0} → Both (MutBor (List ℕ)) A → Both (MutBor (List ℕ)) B → Tables
tables_lent samples octants = pair samples.entry.now octants.entry.now

abbrev pub tables_left : {A B : Type 0} → Both A (MutBor (List ℕ)) → Both B (MutBor (List ℕ)) → Tables
tables_left samples octants = pair samples.exit.now octants.exit.now

-- Both tables of a call that only reads them.
abbrev pub tables_read : {A B : Type 0} → Both (Bor (List ℕ)) A → Both (Bor (List ℕ)) B → Tables
tables_read samples octants = pair samples.entry.now octants.entry.now

-- The tables of a set, at the two lengths. Every word not named is 0.
unfoldable pub tables_for : Layout → SampleSet → ℕ → ℕ → Tables
tables_for L set sample_length octant_length = pair (padded sample_length (sample_words L set)) (padded octant_length (octant_words L set))

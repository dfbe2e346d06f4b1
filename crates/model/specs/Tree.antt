-- The tree (document 01, "The bin", "The tables"): which octants are in it, and the sequence in which they are numbered.
-- An octant of side 2 ^ j is given by j, the depth left below it, by its least colour, and by the samples that it holds.
use Rattle.std.specs.Prelude.{ℕ, zero, suc, ◌^◌, ◌≤◌, ◌<◌, true, false, List, [], ◌∷◌, ◌++◌, map, ◌≡◌, length}
use Rattle.colour.specs.Channels.{Colour}
use Rattle.colour.specs.Colour.{black}
use Rattle.colour.specs.Octant.{depths, children, child_low}
use Rattle.model.specs.Lists.{joined}
use Rattle.model.specs.SampleSet.{SampleSet, Placed, placed, part, splits}
use Rattle.model.specs.Layout.{Layout}
use Rattle.model.specs.Tables.{octant_word}

-- Tree: the root, if the set is not empty, and every non-empty child of a split octant.
pub data InTree (set : SampleSet) : ℕ → Colour → List Placed → Type 0 where
  root : 1 ≤ length set.samples → InTree set depths black (placed set)
  child : {j : ℕ} {low : Colour} {xs : List Placed} (k : ℕ) → k < children → InTree set (suc j) low xs
      → splits set.settings.bucket (suc j) xs ≡ true → 1 ≤ length (part j k xs) → InTree set j (child_low (2 ^ j) k low) (part j k xs)

-- An octant as an element of a list.
pub record Node : Type 0 where
  pub depth_left : ℕ
  pub low : Colour
  pub samples : List Placed

-- An octant from its parts.
abbrev pub node_at : ℕ → Colour → List Placed → Node
node_at j low xs = record { depth_left = j; low = low; samples = xs }

-- Of an octant that is not split: itself, if it holds a sample. One that holds none is not in the tree.
unfoldable pub leaf : ℕ → Colour → List Placed → List Node
leaf j low [] = []
leaf j low (x ∷ xs) = node_at j low (x ∷ xs) ∷ []

-- The octants of the tree at and below one: an octant before its children, and child 0's whole subtree before child 1's.
unfoldable pub tree_of : ℕ → ℕ → Colour → List Placed → List Node
tree_of b zero low xs = leaf zero low xs
tree_of b (suc j) low xs =
    elim (splits b (suc j) xs) [
      | true ↦ node_at (suc j) low xs ∷ joined (λ k. tree_of b j (child_low (2 ^ j) k low) (part j k xs)) children
      | false ↦ leaf (suc j) low xs
    ]

-- The tree of the set, as octants are numbered from 0.
unfoldable pub tree : SampleSet → List Node
tree set = tree_of set.settings.bucket depths black (placed set)

-- The rows of octants that are numbered from i on, one after the other.
unfoldable pub tree_rows : Layout → ℕ → ℕ → List Node → List ℕ
tree_rows L b i [] = []
tree_rows L b i (n ∷ rest) = map (octant_word b n.depth_left i n.samples) L.octant ++ tree_rows L b (suc i) rest

-- The sample set, its tree and its order (document 01, "The bin": bin, octant, walk).
-- An octant of side 2 ^ j is given by j, the depth left below it, and by the samples that it holds, by arrival.
use Rattle.std.specs.Prelude.{ℕ, zero, suc, min, Bool, true, false, ◌&&◌, List, [], ◌∷◌, leb, ltb, eqb, length}
use Rattle.colour.specs.declared.Sample.{Sample}
use Rattle.colour.specs.declared.Settings.{Settings}
use Rattle.colour.specs.Octant.{depths, children, child_number}
use Rattle.model.specs.Lists.{keep, joined, total}

-- What a clear may set: a bucket size b in 1..256.
unfoldable pub settings_good : Settings → Bool
settings_good s = leb 1 s.bucket && leb s.bucket 256

-- Bin: the samples by arrival, with what the last clear set.
pub record SampleSet : Type 0 where
  pub settings : Settings
  pub samples : List Sample

-- A sample with its row: its place by arrival.
pub record Placed : Type 0 where
  pub row : ℕ
  pub sample : Sample

-- Samples by arrival, placed from row i on.
unfoldable pub placed_from : ℕ → List Sample → List Placed
placed_from i [] = []
placed_from i (s ∷ rest) = record { row = i; sample = s } ∷ placed_from (suc i) rest

-- A set's samples with their rows.
unfoldable pub placed : SampleSet → List Placed
placed set = placed_from 0 set.samples

-- Those of an octant's samples that lie in its child k, of side 2 ^ j.
unfoldable pub part : ℕ → ℕ → List Placed → List Placed
part j k xs = keep (λ x. eqb (child_number j x.sample.colour) k) xs

-- An octant is split exactly when it holds more than b samples and its side is over 1.
unfoldable pub splits : ℕ → ℕ → List Placed → Bool
splits b zero xs = false
splits b (suc j) xs = ltb b (length xs)

-- Walk: of a split octant the orders of its children, 0 to 7; of another its samples by arrival.
unfoldable pub order_of : ℕ → ℕ → List Placed → List Placed
order_of b zero xs = xs
order_of b (suc j) xs = elim (splits b (suc j) xs) [ true ↦ joined (λ k. order_of b j (part j k xs)) children | false ↦ xs ]

-- How many octants of the tree are this one and those below it: an octant that holds no sample is not in the tree.
unfoldable pub octants_of : ℕ → ℕ → List Placed → ℕ
octants_of b zero xs = min 1 (length xs)
octants_of b (suc j) xs =
    elim (splits b (suc j) xs) [ true ↦ suc (total (λ k. octants_of b j (part j k xs)) children) | false ↦ min 1 (length xs) ]

-- The order of the set.
unfoldable pub order : SampleSet → List Placed
order set = order_of set.settings.bucket depths (placed set)

-- The octant count of the set.
unfoldable pub octants : SampleSet → ℕ
octants set = octants_of set.settings.bucket depths (placed set)

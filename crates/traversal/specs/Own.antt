-- An octant's own samples, by any words of the two tables: their rows, and whether they are gone through one by one. No word is trusted: a row is read
-- only where the table has it, and no more samples are visited in all than the sample count, clipped to the rows.
use Rattle.std.specs.Prelude.{ℕ, zero, suc, ◌-◌, min, Bool, true, false, ◌||◌, List, [], ◌∷◌, leb, ltb, length}
use Rattle.model.specs.Layout.{Next, First, Count, current, sample_rows}
use Rattle.words.specs.Rows.{sample_field, octant_field, sample_budget}

-- The rows of the samples that are visited from a row on, by their next words: n at most, and none past the table's rows.
unfoldable pub rows_from : List ℕ → ℕ → ℕ → List ℕ
rows_from ws zero row = []
rows_from ws (suc n) row =
    elim (ltb row (sample_rows current (length ws))) [ true ↦ row ∷ rows_from ws n (sample_field current ws row Next) | false ↦ [] ]

-- As many samples as the octant in a row counts, and as may still be visited.
unfoldable pub own_most : List ℕ → List ℕ → ℕ → ℕ → ℕ
own_most ws os row visited = min (octant_field current os row Count) (sample_budget current ws - visited)

-- The octant's own samples, by the next words from its first on, once so many were visited.
unfoldable pub own_rows : List ℕ → List ℕ → ℕ → ℕ → List ℕ
own_rows ws os row visited = rows_from ws (own_most ws os row visited) (octant_field current os row First)

-- Whether an octant of side 2 ^ j is gone through sample by sample: its side is 1, it is taken whole, or it counts no more than the bucket size.
unfoldable pub ends_at : ℕ → Bool → ℕ → ℕ → Bool
ends_at zero whole count bucket = true
ends_at (suc j) whole count bucket = whole || leb count bucket

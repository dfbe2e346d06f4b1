-- An octant's own samples, measured by their next words.
use Prim.Native.Nat.{ℕ, zero, suc, ◌+◌, ◌<◌, min}
use mathlib.Core.Bool.{Bool, true, false}
use mathlib.Core.List.{List, [], ◌∷◌}
use mathlib.Core.Path.{◌≡◌, refl, ap, ap₂, ◌∙◌}
use native.Mathlib.Omega.{arith}
use borrow.Author.Tests.{ltb-true}
use lib.Dec.{ltb}
use lib.ListN.{length}
use Rattle.colour.specs.declared.Probe.{Probe}
use Rattle.colour.specs.Colour.{wrapped}
use Rattle.colour.specs.Probe.{Fine}
use Rattle.colour.proofs.Laws.Channels.{fit, wrapped_range}
use Rattle.colour.proofs.Laws.Distance.{distance_bound}
use Rattle.model.specs.Layout.{Next, current, sample_rows}
use Rattle.words.specs.Rows.{sample_field, sample_in}
use Rattle.words.proofs.Laws.Layout.Places.{rows_few}
use Rattle.traversal.specs.Own.{rows_from, own_rows}
use Rattle.traversal.specs.Search.{Searching, own_search}
use Rattle.traversal.proofs.Laws.Sound.Each.{All}
use Rattle.nearest.specs.Best.{Kept, rank_of, least_from, least_rank, top_rank, taken_rank, own_best, bests}
use Rattle.nearest.specs.Steps.{search_ranked}

module _ (ws : List ℕ) (p : Probe) (rows : List ℕ) where
  -- What was measured, and the rows that are still to come, are all of them.
  pub record Measuring (ahead : List ℕ) (seen best : ℕ) : Type 0 where
    pub least : least_from ws p best ahead ≡ least_from ws p top_rank rows
    pub passed : seen + length ahead ≡ length rows

  pub measuring_begins : {ahead : List ℕ} → ahead ≡ rows → Measuring ahead 0 18446744073709551615
  unfolding top_rank
  measuring_begins e = rw e (record { least = refl; passed = omega arith })

  module _ {ahead : List ℕ} {seen best : ℕ} (g : Measuring ahead seen best) where
    -- Nothing is left.
    pub measuring_ends : ahead ≡ [] → (best ≡ least_from ws p top_rank rows) × (seen ≡ length rows)
    unfolding least_from
    measuring_ends e = (rw e at g.least, omega (arith, rw e at g.passed))

    -- One sample more.
    module _ {row : ℕ} {ahead' : List ℕ} (step : ahead ≡ row ∷ ahead') where
      -- It is one of them.
      pub more : seen < length rows
      more = omega (arith, g.passed, ap length step)

      pub one_more : {rank best' : ℕ} → rank ≡ rank_of ws p row → best' ≡ min best rank → Measuring ahead' (seen + 1) best'
      unfolding least_from
      one_more {rank} {best'} ranked lesser =
          record { least = rw (lesser, ranked) (rw step at g.least); passed = omega (arith, g.passed, ap length step) }

-- No rank of rows of the table is above the top.
rank_most : (ws : List ℕ) (p : Probe) (i : ℕ) → Fine p → i < 4096 → min top_rank (rank_of ws p i) ≡ rank_of ws p i
unfolding rank_of top_rank
rank_most ws p i r h = omega (arith, distance_bound p (wrapped (sample_in current ws i).colour) (fit p.centre r.centre) (fit _ (wrapped_range (sample_in current ws i).colour)))

rows_small : (ws : List ℕ) (n row : ℕ) → All (λ i. i < 4096) (rows_from ws n row)
unfolding rows_from All
rows_small ws zero row = tt
rows_small ws (suc n) row = go (ltb row (sample_rows current (length ws))) refl (rows_small ws n (sample_field current ws row Next))
  where
    go : (r : Bool) → ltb row (sample_rows current (length ws)) ≡ r → All (λ i. i < 4096) (rows_from ws n (sample_field current ws row Next))
        → All (λ i. i < 4096) (rows_from ws (suc n) row)
    go true e ih = rw (e, rows_from) (omega (arith, ltb-true row (sample_rows current (length ws)) e, rows_few (length ws)), ih)
    go false e ih = rw (e, rows_from) tt

least_top : (ws : List ℕ) (p : Probe) (rows : List ℕ) → Fine p → All (λ i. i < 4096) rows → least_from ws p top_rank rows ≡ least_rank ws p rows
unfolding least_from least_rank All
least_top ws p [] r h = refl
least_top ws p (i ∷ rows) r h = ap (λ (n : ℕ). least_from ws p n rows) (rank_most ws p i r h.0)

module _ (ws os : List ℕ) (p : Probe) (fine : Fine p) (row : ℕ) (s : Searching Kept) {best seen : ℕ}
    (g : (best ≡ least_from ws p top_rank (own_rows ws os row s.visited)) × (seen ≡ length (own_rows ws os row s.visited))) where
  own_small : All (λ i. i < 4096) (own_rows ws os row s.visited)
  unfolding own_rows
  own_small = rows_small ws _ _

  pub own_ranked : search_ranked row best seen s ≡ own_search (bests ws p) ws os row s
  unfolding search_ranked own_search own_best
  own_ranked =
      ap₂ (λ (k n : ℕ). record { kept = taken_rank s.kept row k; entered = s.entered; visited = s.visited + n })
      (g.0 ∙ least_top ws p _ fine own_small) g.1

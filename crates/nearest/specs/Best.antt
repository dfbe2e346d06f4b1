-- The closest sample so far (document 01, "Picks": the least d², the earliest in the walk among equals), as what a search keeps.
-- A search may take octants in any sequence. Octant rows are numbered in the order, so of two samples at the same d² in two octants the one whose octant
-- has the lower row is the earlier; within an octant it is the one in the lower sample row.
use Rattle.std.specs.Prelude.{ℕ, Option, Some, None, ◌+◌, ◌*◌, ◌/◌, ◌%◌, min, Bool, true, false, List, [], ◌∷◌, eqb, ltb, length}
use Rattle.colour.specs.declared.Probe.{Probe}
use Rattle.colour.specs.Colour.{distance, wrapped}
use Rattle.model.specs.Layout.{current, sample_rows}
use Rattle.model.specs.Machine.{Answer, nearest_answer}
use Rattle.words.specs.Rows.{sample_in}
use Rattle.traversal.specs.Search.{Store, Searching, search_from}
use Rattle.nearest.specs.declared.best.Best.{Best}

-- What is kept: how far it is, the row of its octant, and its own row.
pub record Kept : Type 0 where
  pub distance : ℕ
  pub octant : ℕ
  pub row : ℕ

-- Whether a sample at d², in an octant row, comes before what is kept: it is closer, or as close in a lower octant row.
unfoldable pub closer : Kept → ℕ → ℕ → Bool
closer kept d octant = elim (eqb d kept.distance) [ true ↦ ltb octant kept.octant | false ↦ ltb d kept.distance ]

-- What is kept once a sample at d² is measured, by its octant's row and its own.
unfoldable pub taken : Kept → ℕ → ℕ → ℕ → Kept
taken kept d octant row =
    elim (closer kept d octant) [ true ↦ record { distance = d; octant = octant; row = row } | false ↦ kept ]

-- The rank of the sample in a row: by how far it is, and then by the row, of which there are 4,096 at most. Words that are no codes are wrapped.
unfoldable pub rank_of : List ℕ → Probe → ℕ → ℕ
rank_of ws p row = distance p (wrapped (sample_in current ws row).colour) * 4096 + row

-- The least of a rank and the ranks of the samples in some rows.
unfoldable pub least_from : List ℕ → Probe → ℕ → List ℕ → ℕ
least_from ws p rank [] = rank
least_from ws p rank (row ∷ rows) = least_from ws p (min rank (rank_of ws p row)) rows

-- Above every rank: 2^64 - 1.
unfoldable pub top_rank : ℕ
top_rank = 18446744073709551615

-- The least rank of rows; if there are none, top_rank.
unfoldable pub least_rank : List ℕ → Probe → List ℕ → ℕ
least_rank ws p [] = top_rank
least_rank ws p (row ∷ rows) = least_from ws p (rank_of ws p row) rows

-- What is kept, once the sample of a rank, of an octant, is taken.
unfoldable pub taken_rank : Kept → ℕ → ℕ → Kept
taken_rank kept octant rank = taken kept (rank / 4096) octant (rank % 4096)

-- What is kept once the samples in some rows, of an octant, are measured: the one of the least rank is taken. If there are no rows, nothing is taken:
-- top_rank says a d² of 2^52 - 1, and no query has an r² that is as much.
unfoldable pub own_best : List ℕ → Probe → Kept → ℕ → List ℕ → Kept
own_best ws p kept octant rows = taken_rank kept octant (least_rank ws p rows)

-- One best is a store.
abbrev pub bests : List ℕ → Probe → Store Kept
bests ws p = record { closer = closer; own = own_best ws p }

-- Before a search: nothing is found, and only what is closer than the limit, r², comes before that.
unfoldable pub unfound : ℕ → Kept
unfound limit = record { distance = limit; octant = 0; row = 0 }

-- The search for one best, within radius r, over any words.
unfoldable pub search_best : List ℕ → List ℕ → Probe → ℕ → Searching Kept
search_best ws os p r = search_from (bests ws p) ws os p (unfound (r * r))

-- What is kept, with its tag. If the table does not have the row, row and tag are 0.
unfoldable pub best_of : List ℕ → Kept → Best
best_of ws k =
    elim (ltb k.row (sample_rows current (length ws))) [
      | true ↦ record { distance = k.distance; row = k.row; tag = (sample_in current ws k.row).tag }
      | false ↦ record { distance = k.distance; row = 0; tag = 0 }
    ]

-- What was found, by the limit that the search began with: nothing, if what is kept is no closer.
unfoldable pub found_of : List ℕ → ℕ → Kept → Option Best
found_of ws limit k = elim (ltb k.distance limit) [ true ↦ Some (best_of ws k) | false ↦ None ]

-- What is found within radius r, on any words.
unfoldable pub best_found : List ℕ → List ℕ → Probe → ℕ → Option Best
best_found ws os p r = found_of ws (r * r) (search_best ws os p r).kept

-- The answer by that: its tag and d², otherwise none, with both 0. `left` is the listing as it is left.
unfoldable pub answer_of : Option Best → List ℕ → Answer
answer_of (Some best) left = nearest_answer 0 true best.tag best.distance left
answer_of None left = nearest_answer 0 false 0 0 left

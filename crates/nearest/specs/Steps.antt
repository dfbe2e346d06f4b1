-- What the functions of the search promise. No call's own promise cites these.
use Rattle.std.specs.Prelude.{ℕ, ◌+◌}
use Rattle.traversal.specs.Search.{Searching}
use Rattle.nearest.specs.declared.best.Search.{Search}
use Rattle.nearest.specs.Best.{Kept, taken_rank}

-- A search as it is lent, and the search that this says.
abbrev pub search_as : Searching Kept → Search
search_as s = record { distance = s.kept.distance; octant = s.kept.octant; row = s.kept.row; entered = s.entered; visited = s.visited }

abbrev pub search_in : Search → Searching Kept
search_in lent =
    record { kept = record { distance = lent.distance; octant = lent.octant; row = lent.row }; entered = lent.entered; visited = lent.visited }

-- What is lent once a search has gone on.
abbrev pub search_after : (Searching Kept → Searching Kept) → Search → Search
search_after goes lent = search_as (goes (search_in lent))

-- So many samples of an octant were measured, and this is their least rank.
unfoldable pub search_ranked : ℕ → ℕ → ℕ → Searching Kept → Searching Kept
search_ranked octant rank seen s = record { kept = taken_rank s.kept octant rank; entered = s.entered; visited = s.visited + seen }

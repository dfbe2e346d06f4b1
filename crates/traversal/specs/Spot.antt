-- A search goes down through the closest child, and looks at its siblings on the way back. Here is where it stands, as the functions have it: an
-- octant's cube, and what each of its channels adds to its closest d². No call's own promise cites these.
use Rattle.std.specs.Prelude.{ℕ, zero, suc, ◌-◌, ◌^◌, ◌<◌, List, ◌≡◌}
use Rattle.colour.specs.declared.Cube.{Cube}
use Rattle.colour.specs.declared.Probe.{Probe}
use Rattle.colour.specs.Probe.{Fine}
use Rattle.colour.specs.Octant.{children, side_at, child_cube, Within}
use Rattle.colour.specs.Nearby.{closest_child}
use Rattle.traversal.specs.Nearby.{near_of}
use Rattle.traversal.specs.declared.spot.Spot.{Spot}
use Rattle.traversal.specs.declared.spot.Fork.{Fork}
use Rattle.traversal.specs.Turns.{in_turn}
use Rattle.traversal.specs.Search.{Store, Searching, child_search, turn_child, search_of}

-- An octant, by its cube.
unfoldable pub spot_at : Probe → Cube → Spot
spot_at p cube = record { cube = cube; near = near_of p cube.side cube.low }

-- The side of an octant's children, and the child that a probe lies in or is closest to.
unfoldable pub fork_of : Probe → Cube → Fork
fork_of p cube =
    record { half = side_at (suc cube.depth); first = closest_child p.centre (side_at (suc cube.depth)) cube.low }

-- The child of turn m: its number, and where it lies.
unfoldable pub turn_number : Probe → Spot → ℕ → ℕ
turn_number p spot m = turn_child p.centre (side_at (suc spot.cube.depth)) spot.cube.low m

unfoldable pub turn_spot : Probe → Spot → ℕ → Spot
turn_spot p spot m = spot_at p (child_cube spot.cube (turn_number p spot m))

-- What the functions know of the octant that they search.
pub record Stood (p : Probe) (spot : Spot) : Type 0 where
  pub fine : Fine p
  pub within : Within spot.cube
  pub near : spot.near ≡ near_of p spot.cube.side spot.cube.low

-- And of one whose children they search.
pub record Forked (p : Probe) (spot : Spot) (fork : Fork) : Type 0 where
  pub stood : Stood p spot
  pub deep : spot.cube.depth < 16
  pub is : fork ≡ fork_of p spot.cube

module _ {S : Type 0} (K : Store S) (ws os : List ℕ) (p : Probe) (row : ℕ) (spot : Spot) where
  -- The search of the octant.
  unfoldable pub search_at : Searching S → Searching S
  search_at s = search_of K ws os p (16 - spot.cube.depth) row spot.cube.low s

  -- Turn m of its children.
  unfoldable pub turn_at : ℕ → Searching S → Searching S
  turn_at m =
      let j : ℕ = 16 - spot.cube.depth - 1 in
      child_search K os p (search_of K ws os p j) (2 ^ j) row spot.cube.low (turn_child p.centre (2 ^ j) spot.cube.low m)

  -- The turns of the closest child's siblings: one, and all of them.
  unfoldable pub sibling_turn : ℕ → Searching S → Searching S
  sibling_turn zero s = s
  sibling_turn (suc m) s = turn_at (suc m) s

  unfoldable pub siblings_at : Searching S → Searching S
  siblings_at s = in_turn sibling_turn children s

  -- What is searched of a split octant: the closest child, then its siblings.
  unfoldable pub split_at : Searching S → Searching S
  split_at s = siblings_at (turn_at 0 s)

-- In `visit::siblings` the siblings before `done` were taken or would change nothing, and the others are still to come. The measure of the recursion is three
-- times the depth left, one more in `split` and two more in `visit`.
use Prim.Native.Nat.{suc, ◌-◌, ◌*◌}
use Rattle.traversal.specs.Places.{children_in}
use Rattle.traversal.proofs.Laws.Search.Path.{Turning}
use Rattle.nearest.specs.Best.{bests}
use Rattle.nearest.specs.Steps.{search_in}
use Rattle.nearest.proofs.visit.+siblings_split_visit.Given as goal

abbrev pub decreases-siblings : goal.decreases-siblings
decreases-siblings l = 3 * (16 - l.at.spot.cube.depth)

abbrev pub decreases-split : goal.decreases-split
decreases-split l = suc (3 * (16 - l.at.spot.cube.depth))

abbrev pub decreases-visit : goal.decreases-visit
decreases-visit l = suc (suc (3 * (16 - l.spot.cube.depth)))

abbrev pub invariant-siblings-loop-turn : goal.invariant-siblings-loop-turn
invariant-siblings-loop-turn l =
    Turning (bests l.asked.tables.samples.now l.at.probe) l.asked.tables.samples.now l.asked.tables.octants.now l.at.probe l.row l.at.spot l.far (search_in l.initial.search).kept.distance (search_in l.initial.search)
    (children_in l.turn-iterator.left) (search_in l.search)

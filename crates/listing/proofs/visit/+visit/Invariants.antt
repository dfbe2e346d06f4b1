-- The children before `done` were visited or are not entered, and the others that overlap are still to come. The measure of the recursion is the depth left.
use Prim.Native.Nat.{◌-◌}
use Rattle.traversal.specs.Places.{children_in}
use Rattle.listing.proofs.Laws.Steps.Turning.{Turning}
use Rattle.listing.proofs.visit.+visit.Given as goal

abbrev pub decreases-visit : goal.decreases-visit
decreases-visit l = 16 - l.cube.depth

abbrev pub invariant-loop-k : goal.invariant-loop-k
invariant-loop-k l =
    Turning l.tables.samples.now l.tables.octants.now l.region (16 - l.fn.cube.depth - 1) l.row l.fn.cube.low l.initial.tally l.initial.listing
    (children_in l.k-iterator.left) l.tally l.listing

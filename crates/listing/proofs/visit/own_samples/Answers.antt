-- `visit::own_samples`: as many samples as the octant counts and as may still be visited, gone through and counted.
use mathlib.Core.Path.{refl}
use native.Mathlib.Omega.{arith}
use Rattle.traversal.proofs.Laws.Cubes.{limit_rows}
use Rattle.listing.proofs.Laws.Steps.Visiting.{own_start, own_room, own_counted}
use Rattle.traversal.proofs.Laws.Rows.{budget_most}
use Rattle.listing.proofs.visit.own_samples.Goals as goal

pub most-most-requires-clause-row_bound : goal.most-most-requires-clause-row_bound
most-most-requires-clause-row_bound c = limit_rows _ _ c.requires.row_bound

pub octant_first-requires : goal.octant_first-requires
octant_first-requires c =
    limit_rows _ _ c.requires.row_bound

pub follow-run-requires : goal.follow-run-requires
follow-run-requires c =
    let k = c.requires.counting in
    own_start _ _ c.args.region.now c.args.whole _ c.args.tally.now _ _ refl c.most-most.ensures k

pub count-requires : goal.count-requires
count-requires c =
    let k = c.requires.counting in
    let room = own_room _ _ c.args.region.now c.args.whole _ c.args.tally.now _ _ _ c.octant_first.ensures c.most-most.ensures c.follow-run.ensures.seen k.limits.visited in
    (k.limits.measured, omega (arith, room, budget_most c.args.tables.now.samples.now))

pub returns : goal.returns
returns c =
    own_counted _ _ _ _ _ _ _ _ _ _ c.octant_first.ensures c.most-most.ensures refl c.follow-run.ensures c.count.ensures

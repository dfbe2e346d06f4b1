-- `leaf::own`: as many samples as the octant counts and as may still be visited, measured.
use Rattle.std.proofs.Common.{rules}
use Rattle.colour.specs.Probe.{Fine}
use mathlib.Core.Path.{◌∙◌, ap}
use native.Mathlib.Omega.{arith}
use Rattle.traversal.specs.Rows.{rows_left}
use Rattle.traversal.proofs.Laws.Rows.{budget_most, own_few, given_own}
use Rattle.traversal.proofs.Laws.Cubes.{limit_rows}
use Rattle.nearest.specs.Steps.{search_as, search_in}
use Rattle.nearest.proofs.Laws.Measuring.{measuring_begins, measuring_ends, more, one_more, own_ranked}
use Rattle.nearest.proofs.leaf.own.Goals as goal

pub overflow_cast-search : goal.overflow_cast-search
overflow_cast-search c =
    omega (arith, c.requires.ready.limits.visited, budget_most c.args.tables.now.samples.now)

pub own_rows-row-items-requires : goal.own_rows-row-items-requires
own_rows-row-items-requires c =
    let pre = c.requires in record { row_bound = limit_rows _ _ pre.octant_bound; visited_bound = omega (arith, pre.ready.limits.visited) }

pub loop-row-init : goal.loop-row-init
loop-row-init c = measuring_begins _ _ _ (ap rows_left c.into_iter-row-iterator.ensures.into_iter_gives ∙ c.own_rows-row-items.ensures)

pub overflow_add-seen : goal.overflow_add-seen
overflow_add-seen c =
    let ws = c.args.tables.now.samples.now in
    omega (arith, more _ _ _ c.loop-row.invariant c.in-Some.ensures.steps, own_few ws c.args.tables.now.octants.now c.args.octant c.args.search.now.visited, budget_most ws)

pub rank-found-requires : goal.rank-found-requires
rank-found-requires c =
    given_own c.args.tables.now.samples.now c.args.tables.now.octants.now c.args.octant c.args.search.now.visited c.into_iter-row-iterator.result
    (ap rows_left c.into_iter-row-iterator.ensures.into_iter_gives ∙ c.own_rows-row-items.ensures)
    c.loop-row.yielded c.loop-row.row-iterator c.loop-row.yielded_by c.next.result c.next.new.self c.in-Some.row c.in-Some.is c.next.ensures.steps

pub loop-row-preserved : goal.loop-row-preserved
loop-row-preserved c = one_more _ _ _ c.loop-row.invariant c.in-Some.ensures.steps c.rank-found.ensures c.lesser-best.ensures

pub take-requires : goal.take-requires
take-requires c =
    omega (arith, c.requires.ready.limits.visited, budget_most c.args.tables.now.samples.now)

pub returns : goal.returns
returns c =
    let ws = c.args.tables.now.samples.now in
    let os = c.args.tables.now.octants.now in
    let fine : Fine c.args.p = record { centre = record { red = search rules; green = search rules; blue = search rules } } in
    c.take.ensures
    ∙ ap search_as
    (own_ranked ws os c.args.p fine c.args.octant (search_in c.args.search.now) (measuring_ends _ _ _ c.loop-row.invariant c.in-None.ensures.steps.0))

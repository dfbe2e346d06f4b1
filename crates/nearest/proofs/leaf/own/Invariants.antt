-- `leaf::own`: what was measured, and what is still to come, are all of the octant's own samples.
use Rattle.traversal.specs.Own.{own_rows}
use Rattle.traversal.specs.Rows.{rows_left}
use Rattle.nearest.proofs.Laws.Measuring.{Measuring}
use Rattle.nearest.proofs.leaf.own.Given as goal

abbrev pub invariant-loop-row : goal.invariant-loop-row
invariant-loop-row l =
    Measuring l.tables.samples.now l.p (own_rows l.tables.samples.now l.tables.octants.now l.octant l.search.visited) (rows_left l.row-iterator) l.seen l.best

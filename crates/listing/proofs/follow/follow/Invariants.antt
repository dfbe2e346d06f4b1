-- `follow::follow`: what was listed and seen, and what is still to come, is the whole run.
use Rattle.traversal.specs.Rows.{rows_left}
use Rattle.listing.proofs.Laws.Steps.Following.{Following}
use Rattle.listing.proofs.follow.follow.Given as goal

abbrev pub invariant-loop-row : goal.invariant-loop-row
invariant-loop-row l =
    Following l.samples l.region l.whole l.first l.count l.start l.initial.listing l.listing (rows_left l.row-iterator) l.seen l.end

-- `rows::close_row`: one row a turn.
use Rattle.samples.proofs.Laws.Moved.{Moved}
use Rattle.samples.proofs.rows.close_row.Given as goal

abbrev pub invariant-loop-i : goal.invariant-loop-i
invariant-loop-i l =
    Moved l.row l.n l.initial.samples l.samples l.i

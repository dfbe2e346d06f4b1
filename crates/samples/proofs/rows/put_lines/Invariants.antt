-- `rows::put_lines`: the rows so far, and the good lines left, are the rows that it leaves.
use Rattle.samples.proofs.Laws.Loaded.Put.{PutSoFar}
use Rattle.samples.proofs.rows.put_lines.Given as goal

abbrev pub invariant-loop-k : goal.invariant-loop-k
invariant-loop-k l =
    PutSoFar l.initial.samples l.n l.sheet l.lines l.room l.samples l.k

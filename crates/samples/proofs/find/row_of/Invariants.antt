-- `find::row_of`: row by row, up to the one with the tag.
use Rattle.samples.proofs.Laws.Tags.{Passed}
use Rattle.samples.proofs.find.row_of.Given as goal

abbrev pub invariant-loop-row : goal.invariant-loop-row
invariant-loop-row l =
    Passed l.samples l.n l.tag l.row

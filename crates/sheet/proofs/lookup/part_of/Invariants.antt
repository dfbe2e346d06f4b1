-- `lookup::part_of`: what was found so far, and the lines left, give the part that is handed back.
use Rattle.sheet.proofs.Laws.Reading.Lookup.{SoFar}
use Rattle.sheet.proofs.lookup.part_of.Given as goal

abbrev pub invariant-loop-k : goal.invariant-loop-k
invariant-loop-k l =
    SoFar l.sheet l.tag l.count l.k l.found

-- `next::all_are`: a next word each turn.
use Rattle.octree.proofs.Laws.Next.{NextsTo}
use Rattle.octree.proofs.next.all_are.Given as goal

abbrev pub invariant-loop-i : goal.invariant-loop-i
invariant-loop-i l = NextsTo l.ordered l.samples l.i

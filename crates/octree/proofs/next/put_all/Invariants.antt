-- `next::put_all`: a next word each turn.
use Rattle.octree.proofs.Laws.Next.{NextsPut}
use Rattle.octree.proofs.next.put_all.Given as goal

abbrev pub invariant-loop-i : goal.invariant-loop-i
invariant-loop-i l = NextsPut l.ordered l.initial.samples l.samples l.i

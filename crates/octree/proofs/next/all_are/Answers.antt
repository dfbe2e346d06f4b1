-- `next::all_are`: a next word each turn.
use mathlib.Core.Path.{refl}
use native.Mathlib.Omega.{arith}
use lib.ListN.{length}
use Rattle.words.proofs.Laws.Layout.Places.{rows_few}
use Rattle.octree.proofs.Laws.Next.{nexts_all}
use Rattle.octree.proofs.next.all_are.Goals as goal

pub row_after-requires : goal.row_after-requires
row_after-requires c = (c.requires.once, (omega (arith, rows_few (length c.args.samples.now), c.requires.few), omega arith))

pub returns : goal.returns
returns c = (λ yes. nexts_all _ _ _ c.requires.once (omega arith) c.loop-i.invariant, λ all. refl)

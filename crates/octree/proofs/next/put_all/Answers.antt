-- `next::put_all`: a next word each turn.
use native.Mathlib.Omega.{arith}
use lib.ListN.{length}
use Rattle.words.proofs.Laws.Layout.Places.{rows_few}
use Rattle.octree.proofs.Laws.Next.{nexts_all, put_more, put_samples}
use Rattle.octree.proofs.next.put_all.Goals as goal

pub row_after-requires : goal.row_after-requires
row_after-requires c = (c.requires.once, (omega (arith, rows_few (length c.args.samples.now), c.requires.few), omega arith))

pub loop-i-preserved : goal.loop-i-preserved
loop-i-preserved c =
    put_more c.loop-i.invariant _ _ _ (omega arith) c.requires.few c.requires.once c.row_of.ensures c.row_after.ensures c.put_next.ensures

pub returns-clause-nexts : goal.returns-clause-nexts
returns-clause-nexts c = nexts_all _ _ _ c.requires.once (omega arith) c.loop-i.invariant.nexts

pub returns-clause-samples : goal.returns-clause-samples
returns-clause-samples c = put_samples c.loop-i.invariant

-- `rows::close_row`: one row a turn.
use native.Mathlib.Omega.{arith}
use Rattle.samples.proofs.Laws.Moved.{moved_more, moved_all}
use Rattle.samples.proofs.rows.close_row.Goals as goal

pub loop-i-preserved : goal.loop-i-preserved
loop-i-preserved c =
    moved_more c.loop-i.invariant c.sample-s.result _ c.loop-i-test.true
    c.requires.1 c.sample-s.ensures c.put_sample.ensures

pub returns : goal.returns
returns c =
    moved_all c.loop-i.invariant (omega arith)

-- `column::put_number`: the places from i on are written, and what is left of the number goes before them.
use Rattle.std.proofs.Common.{◌-◌, arith, length-set}
use Rattle.sheet.specs.Column.{blank}
use Rattle.sheet.proofs.Laws.Writing.Columns.{all_written, digit_more, digit_last}
use Rattle.sheet.proofs.column.put_number.Goals as goal

pub returns-then-left-lt10 : goal.returns-then-left-lt10
unfolding blank
returns-then-left-lt10 c =
    let l = c.loop-i in
    digit_last _ _ l.left l.i (l.i - 1) l.column l.invariant.1 (omega arith) (omega arith) _ c.if-left-lt10.true (c.fill.ensures.after (λ y e. e))

pub loop-i-preserved : goal.loop-i-preserved
loop-i-preserved c =
    let l = c.loop-i in (
      simp length-set l.invariant.0,
      digit_more _ _ l.left l.i (l.i - 1) l.column l.invariant.1 (omega arith) (omega arith) c.if-left-lt10.false,
    )

pub returns : goal.returns
returns c =
    let l = c.loop-i in
    all_written _ _ l.left l.i l.column l.invariant.1 c.loop-i-test.false

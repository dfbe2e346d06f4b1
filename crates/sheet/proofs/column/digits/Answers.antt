-- `column::digits`: what is left to read goes on from the number read so far.
use Rattle.std.proofs.Common.{arith}
use Rattle.sheet.proofs.Laws.Reading.Digits.{digits_stop, digits_more, digits_end}
use Rattle.sheet.proofs.column.digits.Goals as goal

pub returns-in_err-n : goal.returns-in_err-n
returns-in_err-n c =
    let l = c.loop-digit in
    rw c.from_residual.ensures (digits_stop _ _ l.n l.digit-index l.invariant.1 (omega arith) c.in_err-n.ensures)

pub loop-digit-preserved : goal.loop-digit-preserved
loop-digit-preserved c =
    let l = c.loop-digit in
    digits_more _ _ l.n l.digit-index l.invariant.1 (omega arith) _ c.in_ok-n.ensures

pub returns : goal.returns
returns c =
    let l = c.loop-digit in
    digits_end _ _ l.n l.digit-index l.invariant.1 (omega arith) l.invariant.0

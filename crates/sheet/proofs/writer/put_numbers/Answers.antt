-- `writer::put_numbers`: the four numbers are written one after another.
use Rattle.sheet.specs.Computes.{sheet_numbers}
use Rattle.sheet.proofs.Laws.Writing.Lines.{numbers_written}
use Rattle.sheet.proofs.writer.put_numbers.Goals as goal

pub returns : goal.returns
unfolding sheet_numbers
returns c =
    numbers_written c.args.sample _ _ _ _ _
    (rw c.from.ensures at c.put.ensures)
    (rw c.from-2.ensures at c.put-2.ensures)
    (rw c.from-3.ensures at c.put-3.ensures)
    (rw c.from-4.ensures at c.put-4.ensures)

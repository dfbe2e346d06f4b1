-- `line::numbers`: what the columns hold, by laws of Laws.Reading.Lines.
use Rattle.colour.specs.Colour.{Red, Green, Blue, code_in}
use Rattle.sheet.specs.Computes.{sheet_numbers}
use Rattle.sheet.specs.Line.{code_column, line_numbers}
use Rattle.sheet.proofs.Laws.Reading.Lines.{no_tag, no_code, all_numbers}
use Rattle.sheet.proofs.line.numbers.Goals as goal

pub returns-in_err-tag : goal.returns-in_err-tag
unfolding line_numbers code_column sheet_numbers
returns-in_err-tag c =
    rw c.from_residual.ensures (no_tag _ _ _ _ _ c.in_err-tag.ensures)

pub returns-in_err-red : goal.returns-in_err-red
unfolding line_numbers code_column sheet_numbers
returns-in_err-red c =
    rw c.from_residual-in_err-red.ensures (no_code _ _ _ _ _ Red c.in_err-red.ensures)

pub returns-in_err-green : goal.returns-in_err-green
unfolding line_numbers code_column sheet_numbers
returns-in_err-green c =
    rw c.from_residual-in_err-green.ensures (no_code _ _ _ _ _ Green c.in_err-green.ensures)

pub returns-in_err-blue : goal.returns-in_err-blue
unfolding line_numbers code_column sheet_numbers
returns-in_err-blue c =
    rw c.from_residual-in_err-blue.ensures (no_code _ _ _ _ _ Blue c.in_err-blue.ensures)

pub returns : goal.returns
unfolding line_numbers code_column sheet_numbers code_in
returns c =
    all_numbers _ _ _ _ _ _
    c.in_ok-tag.ensures
    (elim [
      | Red ↦ c.in_ok-red.ensures
      | Green ↦ c.in_ok-green.ensures
      | Blue ↦ c.in_ok-blue.ensures
    ])

-- `header::line_count`: each return by the tests that led there, by laws of Laws.Reading.Header.
use Rattle.std.specs.Prelude.{Some}
use mathlib.Core.Path.{sym, ap, ◌∙◌}
use native.Mathlib.Omega.{arith}
use lib.ListN.{take}
use Rattle.sheet.specs.Sheet.{title}
use Rattle.sheet.specs.Computes.{sheet_numbers}
use Rattle.sheet.specs.Column.{newline}
use Rattle.sheet.proofs.Laws.Reading.Digits.{within_some}
use Rattle.sheet.proofs.Laws.Reading.Header.{counted, not_good, not_titled, count_found, count_is}
use Rattle.sheet.proofs.Laws.Text.{same_pointwise}
use Rattle.sheet.proofs.header.line_count.Goals as goal
use Rattle.sheet.proofs.header.line_count.Goals.{then-not-starts_with-via-then-not-starts_with, then-not-starts_with-via-else-not-starts_with+then-sheet-ne10}

pub returns-then-sheet-lt-HEADER_LENGTH : goal.returns-then-sheet-lt-HEADER_LENGTH
unfolding newline sheet_numbers
returns-then-sheet-lt-HEADER_LENGTH c =
    not_good _ (λ n f. omega arith)

pub returns-then-not-starts_with : goal.returns-then-not-starts_with
unfolding title newline sheet_numbers
returns-then-not-starts_with c =
    not_good _ (λ n f.
    elim c.then-not-starts_with.branch [
      | then-not-starts_with-via-then-not-starts_with w ↦ not_titled _ n (sym (same_pointwise title (take 8 c.args.sheet.now)) ∙ sym c.starts_with.ensures.value ∙ w.if-not-starts_with.true) f
      | then-not-starts_with-via-else-not-starts_with+then-sheet-ne10 w ↦ w.if-sheet-ne10.true f.ended
    ])

pub returns-then-lines-sheet : goal.returns-then-lines-sheet
unfolding newline sheet_numbers
returns-then-lines-sheet c =
    not_good _ (λ n f. omega arith)

pub returns-in_err-count : goal.returns-in_err-count
unfolding newline sheet_numbers
returns-in_err-count c =
    rw c.from_residual.ensures (not_good _ (λ n f. count_found _ _ n (sym c.if-lines-sheet.false) f c.in_err-count.ensures))

pub returns-then-count-lines : goal.returns-then-count-lines
unfolding newline sheet_numbers
returns-then-count-lines c =
    not_good _ (λ n f.
    let same = count_is _ _ n (sym c.if-lines-sheet.false) f _ c.in_ok-count.ensures in
    omega arith)

pub returns : goal.returns
unfolding title newline sheet_numbers
returns c =
    sym (counted _ _
    (record {
      titled = sym (same_pointwise _ _) ∙ sym c.starts_with.ensures.value ∙ c.if-not-starts_with.false;
      ended = c.if-sheet-ne10.false;
      count = (within_some _ _ _ c.in_ok-count.ensures).0 ∙ ap Some c.if-count-lines.false;
      whole = sym c.if-lines-sheet.false;
    }))

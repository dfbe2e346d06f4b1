-- `column::digits`: what is left to read goes on from the number read so far.
use Rattle.std.proofs.Common.{◌≡◌, ◌≤◌, drop}
use Rattle.sheet.specs.Column.{digits_after}
use Rattle.sheet.specs.Steps.{within}
use Rattle.sheet.proofs.column.digits.Given as goal

abbrev pub invariant-loop-digit : goal.invariant-loop-digit
invariant-loop-digit l =
    (l.n ≤ l.most) × (within l.most (digits_after 0 l.text) ≡ within l.most (digits_after l.n (drop l.digit-index l.text)))

-- `column::put_number`: the places from i on are written, and what is left of the number goes before them.
use Rattle.std.proofs.Common.{◌≡◌, length, drop, ◌++◌}
use Rattle.sheet.specs.Column.{column_of}
use Rattle.sheet.proofs.column.put_number.Given as goal

abbrev pub invariant-loop-i : goal.invariant-loop-i
invariant-loop-i l =
    (length l.column ≡ length l.initial.column) × (column_of (length l.initial.column) l.n ≡ column_of l.i l.left ++ drop l.i l.column)

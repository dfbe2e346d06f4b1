-- What a run of samples has left.
use Rattle.std.specs.Prelude.{ℕ, List}
use Rattle.traversal.specs.declared.rows.Rows.{Rows}
use Rattle.traversal.specs.Own.{rows_from}

-- The rows that are still to come.
abbrev pub rows_left : Rows → List ℕ
rows_left r = rows_from r.samples.now r.left r.row

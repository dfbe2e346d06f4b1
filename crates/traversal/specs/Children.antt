-- The children of an octant, by any words of the octant table. Every traversal asks for them here.
use Rattle.std.specs.Prelude.{ℕ, List}
use Rattle.model.specs.Layout.{Child, current}
use Rattle.words.specs.Rows.{octant_field}

-- The row of child k of the octant in a row, or 0 if there is none: row 0 is the root, which is no child. It may be any row, also one past the table's.
unfoldable pub child_at : List ℕ → ℕ → ℕ → ℕ
child_at os row k = octant_field current os row (Child k)

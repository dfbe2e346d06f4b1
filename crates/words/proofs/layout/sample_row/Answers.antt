-- `layout::sample_row`: a row of the table.
use native.Mathlib.Omega.{arith}
use Rattle.words.proofs.Laws.Layout.Places.{row_room, row_at}
use Rattle.words.proofs.layout.sample_row.Goals as goal

pub sample_start-requires : goal.sample_start-requires
sample_start-requires c =
    omega (arith, row_room _ _ c.requires)

pub returns-clause-whole : goal.returns-clause-whole
returns-clause-whole c =
    omega (arith, row_at _ _ _ c.requires c.sample_start.ensures)

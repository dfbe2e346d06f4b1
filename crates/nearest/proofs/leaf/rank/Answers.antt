-- How far it is, and its row.
use native.Mathlib.Omega.{arith}
use Rattle.words.proofs.Laws.Layout.Places.{row_room}
use Rattle.words.specs.Rows.{sample_in}
use Rattle.nearest.specs.Best.{rank_of}
use Rattle.nearest.proofs.leaf.rank.Goals as goal

pub overflow_add-result : goal.overflow_add-result
overflow_add-result c =
    omega (arith, c.squared.ensures.bounded, (row_room _ _ c.requires).1)

pub returns : goal.returns
unfolding rank_of sample_in
returns c =
    rw (c.squared.ensures.is, c.wrapped.ensures, c.colour.ensures)

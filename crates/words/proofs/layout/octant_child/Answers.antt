-- `layout::octant_child`: a word of the row.
use native.Mathlib.Omega.{arith}
use Rattle.model.specs.Layout.{Child}
use Rattle.words.proofs.Laws.Layout.Places.{octant_place, octant_in}
use Rattle.words.proofs.layout.octant_child.Goals as goal

pub returns : goal.returns
unfolding octant_place
returns c = octant_in (Child _) c.args.octants.now _ _ (omega arith) c.octant_row-at.ensures.is

-- `rows::RefSliceU32Rows::pass`: the row lent is the front of the part from there on.
use mathlib.Core.Path.{refl}
use Rattle.sheet.proofs.Laws.Parts.{part_tail}
use Rattle.words.proofs.Laws.Layout.Octants.{octant_row_length}
use Rattle.octree.proofs.rows.RefSliceU32Rows.pass.Goals as goal

pub returns : goal.returns
returns c =
    let o = c.args.octant.now in
    record { kept = refl; says = rw (octant_row_length o.first o.last o.count o.children) (rw (part_tail c.args.self.now.now c.args.at) at c.octant_is.ensures) }

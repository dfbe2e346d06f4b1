-- `next::row_after`: the row of the entry after it is the next word of its sample.
use mathlib.Core.Path.{◌∙◌}
use native.Mathlib.Omega.{arith}
use Rattle.octree.proofs.Laws.Next.{after_entry, after_last, next_is}
use Rattle.octree.proofs.next.row_after.Goals as goal

pub returns-then-i-ordered : goal.returns-then-i-ordered
returns-then-i-ordered c =
    let es = c.args.ordered.now in
    c.row_of.ensures ∙ (after_entry _ es c.args.i c.if-i-ordered.true ∙ next_is es c.args.i c.requires.0 c.requires.1.1)

pub returns-else-i-ordered : goal.returns-else-i-ordered
returns-else-i-ordered c =
    let es = c.args.ordered.now in
    after_last _ es c.args.i (omega (arith, c.if-i-ordered.false)) ∙ next_is es c.args.i c.requires.0 c.requires.1.1

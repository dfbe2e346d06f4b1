-- What the octant says of its samples stays, the children before k are passed, and their rows behind the place of the octant's own. The measure of the recursion is the depth left.
use Prim.Native.Nat.{◌+◌, ◌-◌}
use mathlib.Core.Bool.{true}
use Rattle.model.specs.Layout.{current, octant_width}
use Rattle.model.specs.Lists.{joined}
use Rattle.order.specs.Entries.{view}
use Rattle.octree.specs.Steps.{Says}
use Rattle.octree.proofs.Laws.Rows.Passed.{Opened, Passed, child_rows}
use Rattle.octree.proofs.rows.+pass_all.Given as goal

abbrev pub decreases-pass_all : goal.decreases-pass_all
decreases-pass_all g l = l.left

abbrev pub invariant-loop-k : goal.invariant-loop-k
invariant-loop-k g l = record {
  says : Says l.octant.first l.octant.last l.octant.count l.part;
  opened : Opened l.bucket l.left l.number l.part (g.R.Rows.lent l.initial.rows - l.at) l.size-items;
  passed : Passed l.bucket (l.left - 1) l.number (view l.part) l.octant.children l.used l.from l.k;
  given : g.R.Rows.passed l.initial.rows (l.at + octant_width current)
      (joined (child_rows l.bucket (l.left - 1) l.number (view l.part)) l.k) true l.rows;
}

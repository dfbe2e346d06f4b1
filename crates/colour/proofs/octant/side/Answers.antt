-- The table is the computed list of the 17 sides.
use borrow.Author.Rules.{rules}
use Rattle.colour.specs.Octant.{depths, side_at}
use Rattle.colour.proofs.Laws.Table.{values_from, rule}
use Rattle.colour.proofs.octant.side.Goals as goal

pub returns-clause-is : goal.returns-clause-is
unfolding values_from side_at depths
returns-clause-is c = rule side_at 17 c.args.depth (search rules)

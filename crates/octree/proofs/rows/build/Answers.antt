-- `rows::build`: what is passed is written.
use Rattle.std.proofs.Common.{rules}
use Rattle.octree.proofs.Laws.Rows.Ends.{ends_written}
use Rattle.octree.proofs.rows.build.Goals as goal

pub returns-clause-rows : goal.returns-clause-rows
returns-clause-rows c =
    rw c.unwrap_or.ensures
    (ends_written c.args.bucket c.args.left c.args.number c.args.part.now c.pass_all.result (search rules) c.pass_all.ensures.octants
    c.pass_all.ensures.rows.1)

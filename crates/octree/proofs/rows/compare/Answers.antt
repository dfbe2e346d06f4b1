-- `rows::compare`: what is passed is compared.
use Rattle.octree.proofs.Laws.Rows.Ends.{ends_told}
use Rattle.octree.proofs.rows.compare.Goals as goal

pub returns : goal.returns
returns c =
    ends_told c.args.bucket c.args.left c.args.number c.args.part.now c.pass_all.result c.pass_all.ensures.octants c.pass_all.ensures.rows

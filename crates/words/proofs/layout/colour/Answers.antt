-- `layout::colour`: the code words of the row.
use Rattle.words.proofs.Laws.Layout.Places.{colour_in}
use Rattle.words.proofs.layout.colour.Goals as goal

pub returns : goal.returns
returns c = colour_in c.args.samples.now _ _ c.sample_row-at.ensures.is

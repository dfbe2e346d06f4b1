-- `overlap::ball_overlapping`: the halves are the region's, so the mask is that of the children that overlap.
use mathlib.Core.Path.{ap}
use Rattle.colour.specs.declared.Region.TheVariants.{Ball}
use Rattle.colour.specs.Colour.{code_in}
use Rattle.colour.specs.Steps.{share, limit_of}
use Rattle.colour.specs.Nearby.{Gaps, gaps_of}
use Rattle.colour.proofs.Laws.Halves.{mask_overlaps}
use Rattle.colour.proofs.overlap.ball_overlapping.Goals as goal

pub returns-clause-is : goal.returns-clause-is
unfolding code_in share limit_of gaps_of
returns-clause-is c =
    let g = c.gaps_of.ensures.is in
    mask_overlaps (Ball _ _) _ _
    (ap (λ (v : Gaps). v.red) g)
    (ap (λ (v : Gaps). v.green) g)
    (ap (λ (v : Gaps). v.blue) g)
    c.square.ensures
    c.mask.ensures.is

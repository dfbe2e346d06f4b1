-- The eight bits are the definition's mask written out; they sum to 255 at most.
use Rattle.colour.specs.Colour.{sum_of}
use Rattle.colour.specs.Octant.{bit_weight}
use Rattle.colour.specs.Steps.{half_at, of_channel, child_sum, child_below}
use Rattle.colour.proofs.Laws.Halves.{mask_bits}
use Rattle.colour.proofs.overlap.mask.Goals as goal

pub returns-clause-is : goal.returns-clause-is
unfolding child_below child_sum sum_of half_at of_channel bit_weight
returns-clause-is c =
    rw (
      c.bit.ensures.is,
      c.bit-2.ensures.is,
      c.bit-3.ensures.is,
      c.bit-4.ensures.is,
      c.bit-5.ensures.is,
      c.bit-6.ensures.is,
      c.bit-7.ensures.is,
      c.bit-8.ensures.is,
    )
    (mask_bits _)

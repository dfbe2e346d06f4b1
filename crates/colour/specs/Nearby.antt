-- How far the children of an octant are from a probe, and which of them a colour is closest to.
use Rattle.std.specs.Prelude.{ℕ, ◌+◌, leb}
use Rattle.colour.specs.Channels.{Colour}
use Rattle.colour.specs.declared.Channels.{Channels}
use Rattle.colour.specs.declared.Probe.{Probe}
use Rattle.colour.specs.declared.overlap.Halves.{Halves}
use Rattle.colour.specs.Colour.{code_in, sum_of}
use Rattle.colour.specs.Octant.{bit_weight}
use Rattle.colour.specs.Mask.{bit_if}
use Rattle.colour.specs.Steps.{closest_square, halves_of, Small}

-- The child, of side s, of the octant at low that a colour lies in or is closest to: in each channel the upper half if the code is at the middle or past it.
unfoldable pub closest_child : Colour → ℕ → Colour → ℕ
closest_child c s low = sum_of (λ h. bit_if (leb (code_in h low + s) (code_in h c)) (bit_weight h))

-- Six squares, two for each channel.
abbrev pub Gaps : Type 0
Gaps = Channels Halves

-- What each half of each channel adds to the closest d² of a child, of side s, of the octant at low.
unfoldable pub gaps_of : Probe → ℕ → Colour → Gaps
gaps_of p s low =
    record {
      red = halves_of (closest_square p.centre.red) s low.red;
      green = halves_of (closest_square p.centre.green) s low.green;
      blue = halves_of (closest_square p.centre.blue) s low.blue;
    }

-- All are squares of codes at most.
pub record SmallGaps (g : Gaps) : Type 0 where
  pub red : Small g.red
  pub green : Small g.green
  pub blue : Small g.blue

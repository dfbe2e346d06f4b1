-- How far the children of an octant are from a probe, channel by channel.
use Rattle.std.specs.Prelude.{ℕ, ◌+◌, ◌-◌, ◌*◌, ◌/◌, ◌%◌, ◌≤◌, Bool, true, false, ◌&&◌, leb, ltb}
use Rattle.colour.specs.Channels.{Colour}
use Rattle.colour.specs.declared.Probe.{Probe}
use Rattle.traversal.specs.Squares.{Squares}
use Rattle.colour.specs.Colour.{Channel, code_in, sum_of}
use Rattle.colour.specs.Octant.{bit_weight, children}
use Rattle.colour.specs.Mask.{by_bit, mask_of}
use Rattle.colour.specs.Steps.{closest_square}

-- The square of one channel, and squares by channel.
unfoldable pub square_in : Channel → Squares → ℕ
square_in Channel.Red v = v.red
square_in Channel.Green v = v.green
square_in Channel.Blue v = v.blue

unfoldable pub squares_by : (Channel → ℕ) → Squares
squares_by f = record { red = f Channel.Red; green = f Channel.Green; blue = f Channel.Blue }

-- Their sum.
unfoldable pub sum_by : Squares → ℕ
sum_by v = sum_of (λ h. square_in h v)

-- What each channel of the octant of side s at low adds to its closest d² (`near_sum` of proofs/Laws/Nearby.antt).
unfoldable pub near_of : Probe → ℕ → Colour → Squares
near_of p s low = squares_by (λ h. closest_square (code_in h p.centre) s (code_in h low))

-- How far a code is from the far half: the half on the other side of the middle.
unfoldable pub far_gap : ℕ → ℕ → ℕ
far_gap x middle = elim (leb middle x) [ true ↦ x - middle + 1 | false ↦ middle - x ]

unfoldable pub far_square : ℕ → ℕ → ℕ
far_square x middle = far_gap x middle * far_gap x middle

-- What the far halves of an octant at low, whose children have side s, add.
unfoldable pub far_of : Probe → ℕ → Colour → Squares
far_of p s low = squares_by (λ h. far_square (code_in h p.centre) (code_in h low + s))

-- At turn m: the far half in the channels of the bits of m, and the near half, which is as far as the whole octant, in the others.
unfoldable pub turned_by : Squares → Squares → ℕ → Squares
turned_by near far m = squares_by (λ h. by_bit (m / bit_weight h % 2) (square_in h near) (square_in h far))

-- Whether turn m is a sibling's, and its child is no farther than the most.
unfoldable pub turn_within : ℕ → Squares → Squares → ℕ → Bool
turn_within most near far m = ltb 0 m && leb (sum_by (turned_by near far m)) most

-- Those turns, as a mask.
unfoldable pub turn_mask : ℕ → Squares → Squares → ℕ
turn_mask most near far = mask_of (turn_within most near far) children

-- All are at most 65,536².
pub record SmallSquares (v : Squares) : Type 0 where
  pub red : v.red ≤ 4294967296
  pub green : v.green ≤ 4294967296
  pub blue : v.blue ≤ 4294967296

-- Each near square is at most the far one, and the far ones are at most 65,536².
pub record NearFar (near far : Squares) : Type 0 where
  pub red : near.red ≤ far.red
  pub green : near.green ≤ far.green
  pub blue : near.blue ≤ far.blue
  pub small : SmallSquares far

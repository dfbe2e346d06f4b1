-- What only inner functions promise: how the eight children's tests share what is worked out for the two halves of a channel.
use Rattle.std.specs.Prelude.{ℕ, zero, suc, ◌+◌, ◌*◌, ◌/◌, ◌%◌, ◌≤◌, Bool, true, false, ◌&&◌, leb, ltb}
use Rattle.colour.specs.declared.Channels.{Channels}
use Rattle.colour.specs.declared.Region.{Region}
use Rattle.colour.specs.declared.Region.TheVariants.{Ball, Box}
use Rattle.colour.specs.declared.overlap.Halves.{Halves}
use Rattle.colour.specs.Colour.{Channel, code_in, sum_of, apart}
use Rattle.colour.specs.Octant.{last_code, bit_weight}
use Rattle.colour.specs.Region.{closest_code, farthest_code}

-- What the s codes from low add to the d² of the closest colour to a centre with the code x.
unfoldable pub closest_square : ℕ → ℕ → ℕ → ℕ
closest_square x s low = apart x (closest_code low (last_code s low) x) * apart x (closest_code low (last_code s low) x)

-- What they add to that of the farthest.
unfoldable pub farthest_square : ℕ → ℕ → ℕ → ℕ
farthest_square x s low = apart x (farthest_code low (last_code s low) x) * apart x (farthest_code low (last_code s low) x)

-- 0 for yes, 1 for no.
unfoldable pub noes : Bool → ℕ
noes true = 0
noes false = 1

-- 0 if some of the s codes from low is in a box's codes from a to b, and 1 if none is.
unfoldable pub missed : ℕ → ℕ → ℕ → ℕ → ℕ
missed a b s low = noes (leb a (last_code s low) && leb low b)

-- What the s codes from low of a channel add, for either region.
unfoldable pub share : Region → Channel → ℕ → ℕ → ℕ
share (Ball p r) h s low = closest_square (code_in h p.centre) s low
share (Box a b) h s low = missed (code_in h a) (code_in h b) s low

-- An octant overlaps if its channels add up to less than this (`overlaps_shares` of proofs/Laws/Halves.antt).
unfoldable pub limit_of : Region → ℕ
limit_of (Ball p r) = r * r
limit_of (Box a b) = 1

-- f of the lower and of the upper half of a channel, whose s + s codes start at low.
unfoldable pub halves_of : (ℕ → ℕ → ℕ) → ℕ → ℕ → Halves
halves_of f s low = record { lower = f s low; upper = f s (low + s) }

-- The half of a bit: 1 is the upper one.
unfoldable pub half_at : Halves → ℕ → ℕ
half_at v zero = v.lower
half_at v (suc b) = v.upper

-- The one of a channel.
unfoldable pub of_channel : Channels Halves → Channel → Halves
of_channel v Channel.Red = v.red
of_channel v Channel.Green = v.green
of_channel v Channel.Blue = v.blue

-- What the halves of child k add up to.
unfoldable pub child_sum : (Channel → Halves) → ℕ → ℕ
child_sum halves k = sum_of (λ h. half_at (halves h) (k / bit_weight h % 2))

-- Whether they add up to less than a limit.
unfoldable pub child_below : (Channel → Halves) → ℕ → ℕ → Bool
child_below halves limit k = ltb (child_sum halves k) limit

-- Both are squares of codes at most, so that three of them fit 64 bits.
pub record Small (v : Halves) : Type 0 where
  pub lower : v.lower ≤ 4294836225
  pub upper : v.upper ≤ 4294836225

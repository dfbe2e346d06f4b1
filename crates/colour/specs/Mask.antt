-- A mask is a number whose bit k answers a test of k; here, whether child k of an octant overlaps a region.
use Rattle.std.specs.Prelude.{ℕ, zero, suc, ◌+◌, ◌^◌, Bool, true, false}
use Rattle.colour.specs.Channels.{Colour}
use Rattle.colour.specs.declared.Region.{Region}
use Rattle.colour.specs.Octant.{children, child_low}
use Rattle.colour.specs.Region.{overlaps}

-- A bit of a weight, if a test says yes.
unfoldable pub bit_if : Bool → ℕ → ℕ
bit_if t w = elim t [ true ↦ w | false ↦ 0 ]

-- The first if a bit is 0, else the second.
unfoldable pub by_bit : {T : Type 0} → ℕ → T → T → T
by_bit zero lower upper = lower
by_bit (suc b) lower upper = upper

-- The number whose bit k is set exactly where f k says so, for k below n.
unfoldable pub mask_of : (ℕ → Bool) → ℕ → ℕ
mask_of f zero = 0
mask_of f (suc n) = mask_of f n + bit_if (f n) (2 ^ n)

-- The children, of side s, of the octant at low that overlap a region, as a mask.
unfoldable pub overlap_mask : Region → ℕ → Colour → ℕ
overlap_mask R s low = mask_of (λ k. overlaps R s (child_low s k low)) children

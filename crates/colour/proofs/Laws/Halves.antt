-- The eight children's tests by the two halves of each channel.
use Prim.Native.Nat.{ℕ, zero, suc, ◌+◌, ◌*◌, ◌/◌, ◌%◌, ◌<◌, ◌≤◌}
use mathlib.Core.Bool.{Bool, true, false, not, ◌&&◌}
use mir.Val.{bool_byte}
use mathlib.Core.Path.{◌≡◌, refl, sym, ap, ◌∙◌}
use native.Mathlib.Nat.{zero-add}
use native.Mathlib.Omega.{arith}
use lib.Dec.{ltb}
use Rattle.colour.specs.Channels.{Colour}
use Rattle.colour.specs.declared.Channels.{Channels}
use Rattle.colour.specs.declared.Probe.{Probe}
use Rattle.colour.specs.declared.Region.{Region}
use Rattle.colour.specs.declared.Region.TheVariants.{Ball, Box}
use Rattle.colour.specs.declared.overlap.Halves.{Halves}
use Rattle.colour.specs.Colour.{Channel, Red, Green, Blue, code_in, each, sum_of, apart, distance}
use Rattle.colour.specs.Octant.{bit_weight, children, child_low}
use Rattle.colour.specs.Region.{closest, overlaps}
use Rattle.colour.specs.Mask.{bit_if, mask_of, overlap_mask}
use Rattle.colour.specs.Steps.{closest_square, noes, missed, share, limit_of, halves_of, half_at, of_channel, child_sum, child_below}
use Rattle.colour.proofs.Laws.Channels.{sum_same, code_by}
use Rattle.colour.proofs.Laws.Octants.{child_code}
use Rattle.colour.proofs.Laws.Mask.{mask_same}

-- Every channel says yes exactly where there is no no.
each_noes : (f : Channel → Bool) → each f ≡ ltb (sum_of (λ h. noes (f h))) 1
unfolding each sum_of noes
each_noes f = go (f Red) (f Green) (f Blue)
  where
    go : (r g b : Bool) → r && g && b ≡ ltb (noes r + noes g + noes b) 1
    go true true true = refl
    go true true false = refl
    go true false true = refl
    go true false false = refl
    go false true true = refl
    go false true false = refl
    go false false true = refl
    go false false false = refl

-- d² to an octant's closest colour is what its channels add up to.
pub closest_shares : (p : Probe) (s : ℕ) (low : Colour)
    → distance p (closest p.centre s low) ≡ sum_of (λ h. closest_square (code_in h p.centre) s (code_in h low))
unfolding closest_square distance closest
closest_shares p s low = sum_same _ _ (λ h. ap (λ (n : ℕ). apart (code_in h p.centre) n * apart (code_in h p.centre) n) (code_by _ h))

-- An octant overlaps a region exactly where its channels add up to less than the region's limit.
pub overlaps_shares : (R : Region) (s : ℕ) (low : Colour) → overlaps R s low ≡ ltb (sum_of (λ h. share R h s (code_in h low))) (limit_of R)
unfolding overlaps share limit_of missed
overlaps_shares (Ball p r) s low = ap (λ (n : ℕ). ltb n (r * r)) (closest_shares p s low)
overlaps_shares (Box a b) s low = each_noes _

-- The half of a bit starts at low, or s above it.
half_at_lem : (f : ℕ → ℕ → ℕ) (s low n : ℕ) → half_at (halves_of f s low) (n % 2) ≡ f s (low + n % 2 * s)
unfolding half_at halves_of
half_at_lem f s low n = go (n % 2) (omega arith)
  where
    go : (b : ℕ) → b < 2 → half_at (halves_of f s low) b ≡ f s (low + b * s)
    go zero h = ap (f s) (omega arith)
    go (suc zero) h = ap (f s) (omega arith)
    go (suc (suc b)) h = absurd (omega arith)

-- A child's sum is what its own channels add up to.
pub child_sum_lem : (f : Channel → ℕ → ℕ → ℕ) (s : ℕ) (low : Colour) (halves : Channel → Halves) → ((h : Channel) → halves h ≡ halves_of (f h) s (code_in h low))
    → (k : ℕ) → child_sum halves k ≡ sum_of (λ h. f h s (code_in h (child_low s k low)))
unfolding child_sum
child_sum_lem f s low halves e k =
    sum_same _ _
    (λ h. ap (λ (v : Halves). half_at v (k / bit_weight h % 2)) (e h) ∙ half_at_lem (f h) s (code_in h low) (k / bit_weight h)
    ∙ ap (f h s) (sym (child_code s k low h)))

-- The children whose halves add up to less than the limit are those that overlap.
module _ (R : Region) (s : ℕ) (low : Colour) where
  child_below_lem : (halves : Channel → Halves) → ((h : Channel) → halves h ≡ halves_of (share R h) s (code_in h low))
      → (k : ℕ) → child_below halves (limit_of R) k ≡ overlaps R s (child_low s k low)
  unfolding child_below
  child_below_lem halves e k = ap (λ (n : ℕ). ltb n (limit_of R)) (child_sum_lem (share R) s low halves e k) ∙ sym (overlaps_shares R s (child_low s k low))

  -- A mask by halves that are known to be the region's, and by its limit.
  pub mask_overlaps : {halves : Channels Halves} {limit m : ℕ}
      → halves.red ≡ halves_of (share R Red) s (code_in Red low)
      → halves.green ≡ halves_of (share R Green) s (code_in Green low)
      → halves.blue ≡ halves_of (share R Blue) s (code_in Blue low)
      → limit ≡ limit_of R
      → m ≡ mask_of (child_below (of_channel halves) limit) children
      → m ≡ overlap_mask R s low
  unfolding overlap_mask of_channel
  mask_overlaps {halves} r g b l e =
      e ∙ ap (λ (n : ℕ). mask_of (child_below (of_channel halves) n) children) l
      ∙ mask_same _ _ children (λ k h. child_below_lem (of_channel halves) (elim [ Red ↦ r | Green ↦ g | Blue ↦ b ]) k)

-- A mask of the eight children, bit by bit.
pub mask_bits : (f : ℕ → Bool)
    → bit_if (f 0) 1 + bit_if (f 1) 2 + bit_if (f 2) 4 + bit_if (f 3) 8 + bit_if (f 4) 16 + bit_if (f 5) 32 + bit_if (f 6) 64 + bit_if (f 7) 128 ≡ mask_of f children
unfolding mask_of children bit_if
mask_bits f = simp zero-add

-- The byte of a test that is turned round.
pub noes_byte : (b : Bool) → bool_byte (not b) ≡ noes b
unfolding noes
noes_byte true = refl
noes_byte false = refl

pub noes_most : (b : Bool) → bool_byte (not b) ≤ 1
noes_most true = omega arith
noes_most false = omega arith

-- No bit, by a test that is known.
pub bit_no : {t : Bool} (w : ℕ) → t ≡ false → 0 ≡ bit_if t w
unfolding bit_if
bit_no w e = sym (ap (λ (t : Bool). bit_if t w) e)

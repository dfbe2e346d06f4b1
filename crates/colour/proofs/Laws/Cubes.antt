-- The cubes that stand for octants in the functions (document 01, "Colours and octants"): their sides, and that the root and the children are octants.
use Prim.Native.Nat.{ℕ, suc, ◌+◌, ◌-◌, ◌/◌, ◌^◌, ◌≤◌, ◌<◌}
use mathlib.Core.Path.{◌≡◌, refl, ap, ◌∙◌, subst⁻¹}
use native.Mathlib.Nat.{two-pow-succ, pow-le-pow_right}
use native.Mathlib.Omega.{arith}
use lib.Pow.{pow_pos}
use Rattle.colour.specs.declared.Cube.{Cube}
use Rattle.colour.specs.Colour.{Channel, code_in, black}
use Rattle.colour.specs.Octant.{depths, side_at, bit_weight, children, Octant, root, child, child_cube, root_cube, Within}
use Rattle.colour.proofs.Laws.Channels.{code_by}
use Rattle.colour.proofs.Laws.Octants.{octant_lies, child_code, bit_piece}

-- "The sides at depths 0 to 16": the root's is 65,536, the last is 1, none is 0.
pub side_root : side_at 0 ≡ 65536
unfolding side_at depths
side_root = refl

pub side_last : side_at depths ≡ 1
unfolding side_at depths
side_last = refl

pub side_pos : (d : ℕ) → 1 ≤ side_at d
unfolding side_at
side_pos d = pow_pos (depths - d)

-- "Eight children of side s/2."
pub side_half : (d : ℕ) → d < depths → side_at d ≡ side_at (suc d) + side_at (suc d)
unfolding side_at depths
side_half d h = ap (λ (j : ℕ). 2 ^ j) e ∙ two-pow-succ (16 - suc d)
  where
    e : 16 - d ≡ suc (16 - suc d)
    e = omega arith

pub side_most : (d : ℕ) → side_at d ≤ 65536
unfolding side_at depths
side_most d = let h : 16 - d ≤ 16 = omega arith in pow-le-pow_right (omega arith) h

-- A cube has a code in each channel, and none past the last code.
pub room : (c : Cube) → Within c → (h : Channel) → (1 ≤ c.side) × (code_in h c.low + c.side ≤ 65536)
room c w h = omega (arith, w.sized, w.low h, side_pos c.depth)

-- Two children, of side s, stand side by side within their parent.
pub child_room : (c : Cube) (s : ℕ) → Within c → c.depth < 16 → s ≡ side_at (suc c.depth) → (h : Channel)
    → (1 ≤ s) × (code_in h c.low + (s + s) ≤ 65536)
unfolding depths
child_room c s w d e h = omega (arith, e, w.sized, w.low h, side_half c.depth d, side_pos (suc c.depth))

-- The same, channel by channel.
pub cube_room : (c : Cube) → Within c → (1 ≤ c.side) × ((c.low.red + c.side ≤ 65536) × ((c.low.green + c.side ≤ 65536) × (c.low.blue + c.side ≤ 65536)))
unfolding code_in
cube_room c w =
    let red = room c w Channel.Red in
    let green = room c w Channel.Green in
    let blue = room c w Channel.Blue in (red.0, (red.1, (green.1, blue.1)))

pub parent_room : (c : Cube) (s : ℕ) → Within c → c.depth < 16 → s ≡ side_at (suc c.depth)
    → (1 ≤ s) × ((c.low.red + (s + s) ≤ 65536) × ((c.low.green + (s + s) ≤ 65536) × (c.low.blue + (s + s) ≤ 65536)))
unfolding code_in
parent_room c s w d e =
    let red = child_room c s w d e Channel.Red in
    let green = child_room c s w d e Channel.Green in
    let blue = child_room c s w d e Channel.Blue in (red.0, (red.1, (green.1, blue.1)))

pub child_within : (c : Cube) (k : ℕ) → Within c → c.depth < 16 → Within (child_cube c k)
unfolding child_cube depths
child_within c k w d = record {
  depth = omega arith;
  sized = refl;
  low = λ h. rw (child_code (side_at (suc c.depth)) k c.low h)
      (omega (arith, w.sized, w.low h, side_half c.depth d, bit_piece (k / bit_weight h) (side_at (suc c.depth))));
}

pub root_within : Within root_cube
unfolding root_cube black side_at depths
root_within = record { depth = omega arith; sized = refl; low = λ h. rw (code_by (λ g. 0) h) (omega arith) }

-- A cube that is equal to one within the root lies within it.
pub is_within : {c d : Cube} → d ≡ c → Within c → (d ≡ c) × Within d
is_within e w = (e, subst⁻¹ Within e w)

-- A cube that is an octant, with its side.
pub record IsOctant (c : Cube) : Type 0 where
  pub depth : c.depth ≤ depths
  pub sized : c.side ≡ side_at c.depth
  pub octant : Octant (depths - c.depth) c.low

-- The root's cube is one, and so is each child's of an octant of side over 1.
pub root_cube_lem : IsOctant root_cube
unfolding root_cube depths
root_cube_lem = record { depth = omega arith; sized = refl; octant = root }

pub child_cube_lem : (c : Cube) (k : ℕ) → IsOctant c → c.depth < depths → k < children → IsOctant (child_cube c k)
unfolding child_cube side_at depths
child_cube_lem c k o h b = record { depth = h; sized = refl; octant = child k b (rw e at o.octant) }
  where
    e : 16 - c.depth ≡ suc (16 - suc c.depth)
    e = omega arith

-- Such a cube is what the functions ask for.
pub octant_within : (c : Cube) → IsOctant c → Within c
unfolding side_at
octant_within c o = record { depth = o.depth; sized = o.sized; low = λ h. rw o.sized ((octant_lies o.octant).fits h) }

-- Octants (document 01, "Colours and octants"). An octant is given by its side s, or by j where the side is 2 ^ j, and its least colour.
use Rattle.std.specs.Prelude.{ℕ, suc, ◌+◌, ◌-◌, ◌*◌, ◌/◌, ◌%◌, ◌^◌, ◌≤◌, ◌<◌, Bool, ◌&&◌, ◌≡◌, leb, ltb}
use Rattle.colour.specs.Channels.{Colour}
use Rattle.colour.specs.declared.Cube.{Cube}
use Rattle.colour.specs.Colour.{Channel, code_in, colour_by, each, sum_of, black}

-- The depth of an octant of side 1; so many depths lie below the root.
unfoldable pub depths : ℕ
depths = 16

-- The side at a depth, 0 to 16 (the paper's table of sides).
unfoldable pub side_at : ℕ → ℕ
side_at depth = 2 ^ (depths - depth)

-- Whether a colour lies in the octant of side s at low. Half-open: the code low + s is the next octant's.
unfoldable pub cube_holds : ℕ → Colour → Colour → Bool
cube_holds s low c = each (λ h. leb (code_in h low) (code_in h c) && ltb (code_in h c) (code_in h low + s))

-- The greatest code of an octant in a channel in which its least is low.
unfoldable pub last_code : ℕ → ℕ → ℕ
last_code s low = low + s - 1

-- The weight of a channel's bit in a child number.
unfoldable pub bit_weight : Channel → ℕ
bit_weight Channel.Red = 1
bit_weight Channel.Green = 2
bit_weight Channel.Blue = 4

-- The bit of a code among octants of side 2 ^ j: 1 where it falls in the upper half of the octant of twice that side.
unfoldable pub bit_at : ℕ → ℕ → ℕ
bit_at j x = x / 2 ^ j % 2

-- Child number: red bit + 2 × green bit + 4 × blue bit. It is the number of the child of side 2 ^ j in which a colour lies.
unfoldable pub child_number : ℕ → Colour → ℕ
child_number j c = sum_of (λ h. bit_weight h * bit_at j (code_in h c))

-- An octant of side over 1 has eight children, 0 to 7.
unfoldable pub children : ℕ
children = 8

-- The least colour of child k, of side s, of the octant at low.
unfoldable pub child_low : ℕ → ℕ → Colour → Colour
child_low s k low = colour_by (λ h. code_in h low + k / bit_weight h % 2 * s)

-- The octants: the root, which is all colours, and the eight children of an octant of side over 1.
pub data Octant : ℕ → Colour → Type 0 where
  root : Octant depths black
  child : {j : ℕ} {low : Colour} (k : ℕ) → k < children → Octant (suc j) low → Octant j (child_low (2 ^ j) k low)

-- The cubes that stand for octants in the functions: child k of a cube, and the root.
unfoldable pub child_cube : Cube → ℕ → Cube
child_cube c k = record { low = child_low (side_at (suc c.depth)) k c.low; depth = suc c.depth; side = side_at (suc c.depth) }

-- The root: all colours, depth 0.
unfoldable pub root_cube : Cube
root_cube = record { low = black; depth = 0; side = side_at 0 }

-- A cube that lies within the root and has the side of its depth: what the functions ask of a cube.
pub record Within (c : Cube) : Type 0 where
  pub depth : c.depth ≤ depths
  pub sized : c.side ≡ side_at c.depth
  pub low : (h : Channel) → code_in h c.low + c.side ≤ 65536

-- Octants by their rows and by the cubes that stand for them in the functions.
use Prim.Native.Nat.{ℕ, suc, ◌-◌, ◌^◌, ◌<◌}
use mathlib.Core.List.{List}
use mathlib.Core.Path.{◌≡◌, ap, ◌∙◌}
use native.Mathlib.Omega.{arith}
use lib.ListN.{length}
use Rattle.colour.specs.declared.Cube.{Cube}
use Rattle.colour.specs.Octant.{depths, side_at, child_cube}
use Rattle.model.specs.Layout.{current, octant_rows}
use Rattle.words.specs.Rows.{octant_limit}

-- An octant row below the limit is in the table.
pub limit_rows : (os : List ℕ) (row : ℕ) → row < octant_limit current os → row < octant_rows current (length os)
unfolding octant_limit
limit_rows os row h = omega arith

-- The children's side.
pub half_is : (cube : Cube) (half : ℕ) → half ≡ side_at (suc cube.depth) → half ≡ 2 ^ (16 - cube.depth - 1)
unfolding side_at depths
half_is cube half told = told ∙ ap (λ (n : ℕ). 2 ^ n) (omega arith)

-- A child lies one deeper.
pub child_depth : (cube : Cube) (k : ℕ) (child : Cube) → child ≡ child_cube cube k → child.depth ≡ suc cube.depth
unfolding child_cube
child_depth cube k child e = ap (λ (x : Cube). x.depth) e

-- `octant::child`: each least code, the depth and the side are the definition's.
use native.Mathlib.Numerals.{add-one}
use Rattle.colour.specs.Colour.{code_in, colour_by}
use Rattle.colour.specs.Octant.{bit_weight, child_low, child_cube}
use Rattle.colour.proofs.Laws.Cubes.{child_within, is_within}
use Rattle.colour.proofs.octant.child.Goals as goal

pub returns : goal.returns
unfolding child_cube child_low colour_by code_in bit_weight
returns c =
    let p = c.args.parent in
    let s = c.splits-splits.ensures in
    let both = is_within
    (rw (
      c.child_code.ensures,
      c.child_code-2.ensures,
      c.child_code-3.ensures,
      s.red.0,
      s.red.1,
      s.green.0,
      s.green.1,
      s.blue.0,
      s.blue.1,
      p.halved,
      add-one p.cube.depth,
    ))
    (child_within p.cube c.args.k p.within p.deep) in record { is = both.0; within = both.1 }

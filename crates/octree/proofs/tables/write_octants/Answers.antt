-- `tables::write_octants`: rows, count, zeros.
use Prim.Native.Nat.{◌-◌}
use mathlib.Core.Path.{◌≡◌, refl, ◌∙◌}
use native.Mathlib.Omega.{arith}
use borrow.Rule.Slice.PartMut.{put_mid, same_len_mid}
use lib.ListN.{length}
use Rattle.colour.specs.Octant.{depths}
use Rattle.words.proofs.Laws.Layout.Places.{octants_first}
use Rattle.octree.proofs.Laws.Tables.Octants.{Fitting, fitting, octants_end, whole_rooted, octants_written}
use Rattle.octree.proofs.tables.write_octants.Goals as goal
use Rattle.octree.proofs.tables.write_octants.Goals.{After-build-used}

-- The rows that are written find their place, and the table keeps its length.
fits : (c : After-build-used) → Fitting c.args.bucket c.args.ordered.now c.args.octants.now c.build-used.result
unfolding depths
fits c = let counted = c.build-used.ensures.octants in fitting _ _ _ _ c.requires.0 c.requires.1 counted (omega (arith, counted, c.requires.3))

whole : (c : After-build-used)
    → length (put_mid c.octant_start-start.result (length c.args.octants.now - c.octant_start-start.result) c.args.octants.now c.build-used.new.rows)
    ≡ length c.args.octants.now
whole c =
    let start = c.octant_start-start.result in
    same_len_mid start (length c.args.octants.now - start) c.args.octants.now c.build-used.new.rows c.build-used.auto.rows

pub offset_bounds-octants-start : goal.offset_bounds-octants-start
offset_bounds-octants-start c =
    omega (arith, c.octant_start-start.ensures, octants_first)

pub slice_bounds-build-count : goal.slice_bounds-build-count
slice_bounds-build-count c =
    omega (arith, c.octant_start-start.ensures, octants_first, c.requires.0)

pub slice_bounds-build-start : goal.slice_bounds-build-start
slice_bounds-build-start c =
    omega (arith, c.octant_start-start.ensures, octants_first, c.requires.0)

pub build-used-requires : goal.build-used-requires
unfolding depths
build-used-requires c =
    let a = c.args in
    let p = c.requires in
    whole_rooted (fitting a.bucket a.ordered.now a.octants.now _ p.0 p.1 refl p.3) _ c.octant_start-start.ensures p.2

pub offset_bounds-octants-from : goal.offset_bounds-octants-from
offset_bounds-octants-from c =
    omega (arith, (octants_end (fits (goal.at.offset_bounds-octants-from c).After-build-used) _ c.octant_start-from.ensures).small)

pub slice_bounds-clear-count : goal.slice_bounds-clear-count
slice_bounds-clear-count c =
    let at = (goal.at.slice_bounds-clear-count c).After-build-used in
    omega (arith, (octants_end (fits at) _ c.octant_start-from.ensures).within, c.put_count.auto.octants, whole at)

pub slice_bounds-clear-start : goal.slice_bounds-clear-start
slice_bounds-clear-start c =
    let at = (goal.at.slice_bounds-clear-start c).After-build-used in
    omega (arith, (octants_end (fits at) _ c.octant_start-from.ensures).within, c.put_count.auto.octants, whole at)

pub returns : goal.returns
unfolding depths
returns c =
    let at = (goal.at.returns c).After-build-used in
    octants_written (fits at) c.octant_start-start.ensures c.build-used.new.rows c.build-used.ensures.rows c.put_count.ensures (c.put_count.auto.octants ∙ whole at)
    c.octant_start-from.ensures c.clear.ensures

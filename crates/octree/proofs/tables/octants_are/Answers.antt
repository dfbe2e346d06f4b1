-- `tables::octants_are`: the count, the rows, then the zeros after them.
use mathlib.Core.Path.{sym, ◌∙◌}
use native.Mathlib.Omega.{arith}
use Rattle.colour.specs.Octant.{depths}
use Rattle.words.proofs.Laws.Layout.Places.{octants_first}
use Rattle.octree.proofs.Laws.Tables.Octants.{Fitting, fitting, told_end, whole_rooted, count_other, rows_other, octants_tell}
use Rattle.octree.proofs.tables.octants_are.Goals as goal
use Rattle.octree.proofs.tables.octants_are.Goals.{Start}

fits : (c : Start) → Fitting c.args.bucket c.args.ordered.now c.args.tables.now.octants.now c.args.count
unfolding depths
fits c = fitting _ _ _ _ c.args.tables.now.octants_headed c.requires.0 c.requires.2 c.requires.3

pub returns-then-count : goal.returns-then-count
returns-then-count c =
    count_other (fits (goal.at.returns-then-count c).Start) (λ e. c.if-count.true (c.count.ensures ∙ e))

pub offset_bounds-octants-start : goal.offset_bounds-octants-start
offset_bounds-octants-start c =
    omega (arith, c.octant_start-start.ensures, octants_first)

pub slice_bounds-compare-count : goal.slice_bounds-compare-count
slice_bounds-compare-count c =
    omega (arith, c.octant_start-start.ensures, octants_first, c.args.tables.now.octants_headed)

pub slice_bounds-compare-start : goal.slice_bounds-compare-start
slice_bounds-compare-start c =
    omega (arith, c.octant_start-start.ensures, octants_first, c.args.tables.now.octants_headed)

pub compare-requires : goal.compare-requires
unfolding depths
compare-requires c =
    whole_rooted (fits (goal.at.compare-requires c).Start) _ c.octant_start-start.ensures c.requires.1

pub returns-in_default : goal.returns-in_default
unfolding depths
returns-in_default c =
    rows_other (fits (goal.at.returns-in_default c).Start) c.octant_start-start.ensures c.compare.ensures
    c.in_default.is

pub offset_bounds-octants-from : goal.offset_bounds-octants-from
unfolding depths
offset_bounds-octants-from c =
    omega (arith, (told_end (fits (goal.at.offset_bounds-octants-from c).Start) c.compare.ensures c.in-Some.is _ c.octant_start-from.ensures).small)

pub slice_bounds-are_zero-count : goal.slice_bounds-are_zero-count
unfolding depths
slice_bounds-are_zero-count c =
    (told_end (fits (goal.at.slice_bounds-are_zero-count c).Start) c.compare.ensures c.in-Some.is _ c.octant_start-from.ensures).within

pub slice_bounds-are_zero-start : goal.slice_bounds-are_zero-start
unfolding depths
slice_bounds-are_zero-start c =
    (told_end (fits (goal.at.slice_bounds-are_zero-start c).Start) c.compare.ensures c.in-Some.is _ c.octant_start-from.ensures).within

pub returns : goal.returns
unfolding depths
returns c =
    octants_tell (fits (goal.at.returns c).Start) c.octant_start-start.ensures c.compare.ensures
    c.in-Some.is (sym c.count.ensures ∙ c.if-count.false) _ c.octant_start-from.ensures c.are_zero.result
    c.are_zero.ensures

-- `tables::samples_are`: next words, then the zeros after the rows.
use mathlib.Core.Bool.{not}
use mathlib.Core.Path.{ap, refl}
use native.Mathlib.Omega.{arith}
use Rattle.words.proofs.Laws.Layout.Places.{samples_end}
use Rattle.octree.proofs.Laws.Tables.Samples.{nexts_other, rest_tells}
use Rattle.octree.proofs.tables.samples_are.Goals as goal

pub returns-else-all_are : goal.returns-else-all_are
returns-else-all_are c =
    let p = c.requires in
    rw c.if-all_are.false
    (nexts_other _ _ _ c.args.tables.now.samples_headed p.0.few p.1 c.all_are.result (ap not c.if-all_are.false) c.all_are.ensures)

pub sample_start-from-requires : goal.sample_start-from-requires
sample_start-from-requires c =
    let p = c.requires in
    (samples_end _ _ _ c.args.tables.now.samples_headed p.0.few refl).few

pub offset_bounds-tables-from : goal.offset_bounds-tables-from
offset_bounds-tables-from c =
    let p = c.requires in
    omega (arith, (samples_end _ _ _ c.args.tables.now.samples_headed p.0.few c.sample_start-from.ensures).small)

pub slice_bounds-are_zero-count : goal.slice_bounds-are_zero-count
slice_bounds-are_zero-count c =
    let p = c.requires in
    (samples_end _ _ _ c.args.tables.now.samples_headed p.0.few c.sample_start-from.ensures).within

pub slice_bounds-are_zero-start : goal.slice_bounds-are_zero-start
slice_bounds-are_zero-start c =
    let p = c.requires in
    (samples_end _ _ _ c.args.tables.now.samples_headed p.0.few c.sample_start-from.ensures).within

pub returns-then-all_are : goal.returns-then-all_are
returns-then-all_are c =
    let p = c.requires in
    rest_tells _ _ _ c.args.tables.now.samples_headed p.0.few p.1 _ c.sample_start-from.ensures (c.all_are.ensures.0 c.if-all_are.true) c.are_zero.result
    c.are_zero.ensures

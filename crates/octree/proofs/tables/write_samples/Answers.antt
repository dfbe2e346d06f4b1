-- `tables::write_samples`: next words, header, zeros.
use mathlib.Core.Path.{refl}
use native.Mathlib.Omega.{arith}
use lib.ListN.{length}
use Rattle.words.proofs.Laws.Layout.Places.{samples_end}
use Rattle.octree.proofs.Laws.Tables.Samples.{samples_written}
use Rattle.octree.proofs.tables.write_samples.Goals as goal

pub overflow_cast-n : goal.overflow_cast-n
overflow_cast-n c =
    omega (arith, (samples_end (length c.args.samples.now) _ _ c.requires.0 c.requires.1.few refl).few)

pub sample_start-from-requires : goal.sample_start-from-requires
sample_start-from-requires c =
    (samples_end (length c.args.samples.now) _ _ c.requires.0 c.requires.1.few refl).few

pub offset_bounds-samples-from : goal.offset_bounds-samples-from
offset_bounds-samples-from c =
    omega (arith, (samples_end (length c.args.samples.now) _ _ c.requires.0 c.requires.1.few c.sample_start-from.ensures).small)

pub slice_bounds-clear-count : goal.slice_bounds-clear-count
slice_bounds-clear-count c =
    let end = samples_end (length c.args.samples.now) _ _ c.requires.0 c.requires.1.few c.sample_start-from.ensures in
    omega (arith, end.within, c.put_header.auto.samples, c.put_all.auto.samples)

pub slice_bounds-clear-start : goal.slice_bounds-clear-start
slice_bounds-clear-start c =
    let end = samples_end (length c.args.samples.now) _ _ c.requires.0 c.requires.1.few c.sample_start-from.ensures in
    omega (arith, end.within, c.put_header.auto.samples, c.put_all.auto.samples)

pub returns : goal.returns
returns c =
    samples_written c.args.samples.now c.put_all.new.samples _ _ _ c.requires.0 c.requires.1.few c.put_all.auto.samples c.put_all.ensures.nexts
    c.put_all.ensures.samples c.put_header.ensures c.sample_start-from.ensures c.clear.ensures

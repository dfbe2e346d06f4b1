-- `tables::same_tables`: the samples are judged, then both tables compared.
use mathlib.Core.Bool.{not}
use mathlib.Core.Path.{ap, sym, ◌∙◌}
use native.Mathlib.Omega.{arith}
use lib.ListN.{length}
use Rattle.words.proofs.Laws.Layout.Places.{rows_few}
use Rattle.octree.proofs.Laws.Tables.Judged.{unfit, not_fitting, judged_once, judged_few, judged_ordered, judged_octants, judged_room, samples_differ, tables_tell}
use Rattle.octree.proofs.tables.same_tables.Goals as goal

pub judge-requires : goal.judge-requires
judge-requires c =
    let h = c.requires.headed in
    (omega (arith, h.few, rows_few (length c.args.tables.now.samples.now)), h.space)

pub returns-in_default : goal.returns-in_default
returns-in_default c =
    not_fitting c.requires c.judge.ensures (unfit c.judge.result _ c.in_default.is)

pub samples_are-requires : goal.samples_are-requires
samples_are-requires c =
    let h = c.requires.headed in
    let few = judged_few c.requires c.judge.ensures c.in-Ok.is c.judge.auto.entries in
    let once = judged_once c.requires c.judge.ensures c.in-Ok.is c.judge.auto.entries in
    (record { few = few; once = once }, h.counted ∙ sym c.judge.auto.entries)

pub returns-else-samples_are : goal.returns-else-samples_are
returns-else-samples_are c =
    rw c.if-samples_are.false
    (samples_differ c.requires c.judge.ensures c.in-Ok.is c.judge.auto.entries c.samples_are.result (ap not c.if-samples_are.false)
    c.samples_are.ensures)

pub octants_are-requires : goal.octants_are-requires
octants_are-requires c =
    let few = judged_few c.requires c.judge.ensures c.in-Ok.is c.judge.auto.entries in
    let ordered = judged_ordered c.requires c.judge.ensures c.in-Ok.is c.judge.auto.entries in
    let octants = judged_octants c.requires c.judge.ensures c.in-Ok.is c.judge.auto.entries in
    let room = judged_room c.requires c.judge.ensures c.in-Ok.is c.judge.auto.entries in
    (omega (arith, few, rows_few (length c.args.tables.now.samples.now)), ordered, octants, room)

pub returns-then-samples_are : goal.returns-then-samples_are
returns-then-samples_are c =
    tables_tell c.requires c.judge.ensures c.in-Ok.is c.judge.auto.entries (c.samples_are.ensures.0 c.if-samples_are.true)
    c.octants_are.result c.octants_are.ensures

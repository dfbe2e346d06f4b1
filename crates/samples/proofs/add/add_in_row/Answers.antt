-- `add::add_in_row`: the sample in its row, both tables rebuilt, or the row emptied again.
use mathlib.Core.Path.{ap}
use native.Mathlib.Omega.{arith}
use lib.ListN.{length}
use Rattle.words.proofs.Laws.Layout.Places.{rows_few}
use Rattle.colour.specs.Refusal.{answer_number}
use Rattle.samples.proofs.Laws.Meets.{changed_refused}
use Rattle.samples.proofs.Laws.Added.{sample_added, octants_refused}
use Rattle.samples.proofs.Laws.Shown.{headers_there, space_for}
use Rattle.samples.proofs.add.add_in_row.Goals as goal

pub settings-settings-requires : goal.settings-settings-requires
settings-settings-requires c =
    (headers_there _ _ c.requires.sound).0

pub overflow_add-n : goal.overflow_add-n
overflow_add-n c =
    omega (arith, c.requires.row, rows_few (length c.args.samples.now))

pub rebuild-requires : goal.rebuild-requires
rebuild-requires c =
    space_for _ _ c.requires.sound _ _ c.put_sample.auto.samples (omega (arith, c.requires.row))

pub returns-in_default : goal.returns-in_default
returns-in_default c =
    octants_refused c.args.s c.args.n c.args.samples.now c.args.octants.now c.requires _ c.settings-settings.ensures _ c.put_sample.ensures _ _ _
    c.rebuild.ensures _ c.put_sample-in_default.ensures (changed_refused _ _ c.in_default.is)

pub returns : goal.returns
returns c =
    sample_added c.args.s c.args.n c.args.samples.now c.args.octants.now c.requires _ c.settings-settings.ensures _ c.put_sample.ensures _ _ _
    c.rebuild.ensures (ap answer_number c.in-Ok.is)

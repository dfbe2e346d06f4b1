-- `rebuild::write_fitting`: judged, then written.
use native.Mathlib.Omega.{arith}
use lib.ListN.{length}
use Rattle.words.proofs.Laws.Layout.Places.{rows_few}
use Rattle.colour.proofs.Laws.Refused.{passed_on}
use Rattle.samples.proofs.Laws.Rebuilt.{refused_room, fit_to_write, with_room}
use Rattle.samples.proofs.rebuild.write_fitting.Goals as goal

pub judge-requires : goal.judge-requires
judge-requires c =
    (omega (arith, c.requires.spaced.few, rows_few (length c.args.samples.now)), c.requires.spaced.space)

pub returns-in_err-judge : goal.returns-in_err-judge
returns-in_err-judge c =
    let j = c.judge in
    refused_room _ c.args.samples.now c.args.octants.now c.args.entries.now _ c.requires _ j.result j.ensures _ c.in_err-judge.was _
    (passed_on c.in_err-judge.field-0.0 c.from_residual.result c.from_residual.ensures.1)

pub write-requires : goal.write-requires
write-requires c =
    let j = c.judge in
    fit_to_write _ c.args.samples.now c.args.octants.now c.args.entries.now _ c.requires _ j.result j.ensures _ c.in_ok-judge.was j.auto.entries

pub returns : goal.returns
returns c =
    let j = c.judge in
    with_room _ c.args.samples.now c.args.octants.now c.args.entries.now _ c.requires _ j.result j.ensures _ c.in_ok-judge.was j.auto.entries _ c.write.ensures

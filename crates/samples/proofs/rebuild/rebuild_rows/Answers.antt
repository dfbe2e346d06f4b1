-- `rebuild::rebuild_rows`: question 4 by filling in the entries.
use mathlib.Core.Bool.{false}
use Rattle.std.specs.Result.{is_ok}
use Rattle.colour.specs.Refusal.{refusal_number, answer_number}
use Rattle.colour.proofs.Laws.Refused.{passed_on}
use mathlib.Core.Path.{refl, ap, ◌∙◌}
use Rattle.samples.proofs.Laws.Rebuilt.{at_number, no_codes, with_codes}
use Rattle.samples.proofs.rebuild.rebuild_rows.Goals as goal

pub returns-in_err-fill : goal.returns-in_err-fill
returns-in_err-fill c =
    let no = c.in_err-fill.ensures in
    at_number (ap answer_number (passed_on c.in_err-fill.field-0.0 c.from_residual.result c.from_residual.ensures.1) ∙ ap refusal_number no.refusal)
    (no_codes _ _ c.args.samples.now c.args.octants.now false refl no.made.complete)

pub returns : goal.returns
returns c =
    let f = c.fill in
    let w = c.write_fitting in
    with_codes _ _ c.args.samples.now c.args.octants.now f.new.entries f.auto.entries (f.ensures.made.in_range (ap is_ok c.in_ok-fill.was)) _ _ w.ensures

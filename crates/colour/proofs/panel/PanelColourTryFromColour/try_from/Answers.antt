-- Codes to floats: a colour in range is shown, and another refused.
use mathlib.Core.Path.{sym, ◌∙◌}
use Rattle.colour.specs.Panel.{floats_if, shown_colour}
use Rattle.colour.proofs.Floats.Answers.{fit_told, fit_refused, floats_meet}
use Rattle.colour.proofs.Laws.Refused.{passed_on}
use Rattle.colour.proofs.panel.PanelColourTryFromColour.try_from.Goals as goal

pub returns-in_err-try_from : goal.returns-in_err-try_from
unfolding floats_if
returns-in_err-try_from c =
    let no = fit_refused _ _ _ (sym c.try_from.ensures ∙ c.in_err-try_from.was) in
    floats_meet _ _ (passed_on c.in_err-try_from.field-0.0 c.from_residual.result c.from_residual.ensures.1 ∙ rw (no.0, no.1))

pub returns : goal.returns
unfolding floats_if shown_colour
returns c =
    let yes = fit_told _ _ _ (sym c.try_from.ensures ∙ c.in_ok-try_from.was) in
    let m = c.map.ensures in floats_meet _ _ (rw (yes.0, yes.1, ← m.red.is, ← m.green.is, ← m.blue.is))

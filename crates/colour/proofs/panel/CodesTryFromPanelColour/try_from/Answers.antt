-- Floats to codes: what a try of each channel comes to, and the paper's answer.
use mathlib.Core.Path.{sym, ◌∙◌}
use Rattle.colour.proofs.Floats.Answers.{codes_tried, codes_meet}
use Rattle.colour.proofs.Laws.Refused.{passed_on}
use Rattle.colour.proofs.panel.CodesTryFromPanelColour.try_from.Goals as goal

pub returns-in_err-red : goal.returns-in_err-red
returns-in_err-red c =
    codes_meet _ _ (passed_on c.in_err-red.field-0.0 c.from_residual.result c.from_residual.ensures.1 ∙ sym c.in_err-red.was ∙ codes_tried _ _ c.try_map.ensures)

pub returns : goal.returns
returns c = codes_meet _ _ (sym c.in_ok-red.was ∙ codes_tried _ _ c.try_map.ensures)

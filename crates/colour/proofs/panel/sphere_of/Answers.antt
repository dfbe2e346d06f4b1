-- `panel::sphere_of`: what the codes and the radius tell, by laws of Floats.Queries.
use mathlib.Core.Path.{sym, ◌∙◌}
use Rattle.colour.proofs.Floats.Queries.{no_centre, no_radius, sphere_yes}
use Rattle.colour.proofs.Laws.Refused.{passed_on}
use Rattle.colour.proofs.panel.sphere_of.Goals as goal

pub returns-in_err-c : goal.returns-in_err-c
returns-in_err-c c =
    passed_on c.in_err-c.field-0.0 c.from_residual.result c.from_residual.ensures.1
    ∙ no_centre _ _ _ (sym c.try_from.ensures.1 ∙ c.in_err-c.was)

pub returns-in_err-r : goal.returns-in_err-r
returns-in_err-r c =
    passed_on c.in_err-r.field-0.0 c.from_residual-in_err-r.result c.from_residual-in_err-r.ensures.1
    ∙ no_radius _ _ _ (sym c.radius_code.ensures ∙ c.in_err-r.was)

pub returns : goal.returns
returns c =
    sphere_yes _ _ _ _
    (sym c.try_from.ensures.1 ∙ c.in_ok-c.was)
    (sym c.radius_code.ensures ∙ c.in_ok-r.was)

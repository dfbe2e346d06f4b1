-- A query taken apart: what `sphere_of` and `box_asked` tell, by laws of Floats.Queries.
use mathlib.Core.Path.{refl, sym, ap, ◌∙◌}
use Rattle.colour.specs.declared.Query.TheVariants.{Ball, Nearest}
use Rattle.colour.specs.declared.Region.TheVariants as R
use Rattle.colour.specs.declared.panel.Wanted.TheVariants as W
use Rattle.colour.specs.Query.{query_good, in_codes, asked_of}
use Rattle.colour.proofs.Floats.Queries.{asked_meets, sphere_asked, sphere_not_asked}
use Rattle.colour.proofs.Laws.Refused.{passed_on}
use Rattle.colour.proofs.panel.WantedTryFromQuery.try_from.Goals as goal

pub returns-in_err-p-in-Ball : goal.returns-in_err-p-in-Ball
unfolding query_good
returns-in_err-p-in-Ball c =
    asked_meets _ _
    (passed_on c.in_err-p-in-Ball.field-0.0 c.from_residual.result c.from_residual.ensures.1
    ∙ sym (ap asked_of c.in-Ball.is
    ∙ sphere_not_asked (Ball _ _) _ _ refl _ (sym c.sphere_of.ensures ∙ c.in_err-p-in-Ball.was)))

pub returns-in_err-p-in-Nearest : goal.returns-in_err-p-in-Nearest
unfolding query_good
returns-in_err-p-in-Nearest c =
    asked_meets _ _
    (passed_on c.in_err-p-in-Nearest.field-0.0 c.from_residual-in_err-p-in-Nearest.result c.from_residual-in_err-p-in-Nearest.ensures.1
    ∙ sym (ap asked_of c.in-Nearest.is
    ∙ sphere_not_asked (Nearest _ _) _ _ refl _ (sym c.sphere_of-in-Nearest.ensures ∙ c.in_err-p-in-Nearest.was)))

pub returns-in_ok-p-in-Ball : goal.returns-in_ok-p-in-Ball
unfolding query_good in_codes
returns-in_ok-p-in-Ball c =
    asked_meets _ _
    (sym (ap asked_of c.in-Ball.is
    ∙ sphere_asked (Ball _ _) _ _ refl (λ k n. W.Listed (R.Ball k n)) refl _ _ (sym c.sphere_of.ensures ∙ c.in_ok-p-in-Ball.was)))

pub returns-in-Box : goal.returns-in-Box
returns-in-Box c =
    asked_meets _ _ (c.box_asked.ensures ∙ sym (ap asked_of c.in-Box.is))

pub returns-in_ok-p-in-Nearest : goal.returns-in_ok-p-in-Nearest
unfolding query_good in_codes
returns-in_ok-p-in-Nearest c =
    asked_meets _ _
    (sym (ap asked_of c.in-Nearest.is
    ∙ sphere_asked (Nearest _ _) _ _ refl W.Nearest refl _ _ (sym c.sphere_of-in-Nearest.ensures ∙ c.in_ok-p-in-Nearest.was)))

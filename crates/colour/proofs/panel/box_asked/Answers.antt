-- `panel::box_asked`: what the codes of both colours tell, and `at_most`, by laws of Floats.Queries.
use mathlib.Core.Path.{sym, ◌∙◌}
use Rattle.colour.proofs.Floats.Queries.{no_low, no_high, box_yes, box_no}
use Rattle.colour.proofs.Laws.Refused.{passed_on}
use Rattle.colour.proofs.panel.box_asked.Goals as goal

pub returns-in_err-l : goal.returns-in_err-l
returns-in_err-l c =
    passed_on c.in_err-l.field-0.0 c.from_residual.result c.from_residual.ensures.1
    ∙ sym (no_low _ _ _ (sym c.try_from.ensures.1 ∙ c.in_err-l.was))

pub returns-in_err-h : goal.returns-in_err-h
returns-in_err-h c =
    passed_on c.in_err-h.field-0.0 c.from_residual-in_err-h.result c.from_residual-in_err-h.ensures.1
    ∙ sym (no_high _ _ _ (sym c.try_from-2.ensures.1 ∙ c.in_err-h.was))

pub returns-then-at_most : goal.returns-then-at_most
returns-then-at_most c =
    rw (c.from.ensures, c.from-then-at_most.ensures) (sym
    (box_yes _ _ _ _
    (sym c.try_from.ensures.1 ∙ c.in_ok-l.was)
    (sym c.try_from-2.ensures.1 ∙ c.in_ok-h.was)
    (sym c.at_most.ensures ∙ c.if-at_most.true)))

pub returns-else-at_most : goal.returns-else-at_most
returns-else-at_most c =
    sym
    (box_no _ _ _ _
    (sym c.try_from.ensures.1 ∙ c.in_ok-l.was)
    (sym c.try_from-2.ensures.1 ∙ c.in_ok-h.was)
    (sym c.at_most.ensures ∙ c.if-at_most.false))

-- `ask::nearest`: the answer of each question in turn, with any listing.
use mathlib.Core.Path.{sym, ap, ◌∙◌}
use Rattle.std.specs.Prelude.{Result, Option}
use Rattle.colour.specs.declared.refusal.Refusal.{Refusal}
use Rattle.colour.proofs.Laws.Refused.{passed_on}
use Rattle.model.specs.Sound.{long_enough}
use Rattle.nearest.specs.declared.best.Best.{Best}
use Rattle.nearest.specs.Best.{answer_of}
use Rattle.query.specs.declared.answers.Reply.{Reply}
use Rattle.query.specs.Answers.{reply_answer, of_kind}
use Rattle.query.proofs.Laws.Asked.{refusal_kind, near_short, near_refused, near_found, near_meets}
use Rattle.query.proofs.ask.nearest.Goals as goal

pub returns-then-not-long_enough : goal.returns-then-not-long_enough
unfolding long_enough
returns-then-not-long_enough c =
    let both = near_meets _ _ _ _ (near_short _ _ _ (sym c.long_enough.ensures ∙ c.if-not-long_enough.true)) in record { meets = both.0; bounds = both.1; kind = refusal_kind _ _ }

pub returns-in_err-p : goal.returns-in_err-p
unfolding long_enough
returns-in_err-p c =
    let long = sym c.long_enough.ensures ∙ c.if-not-long_enough.false in
    let e = passed_on c.in_err-p.field-0.0 c.from_residual.result c.from_residual.ensures.1 in
    let both = near_meets _ _ _ _ (λ l. ap (λ (r : Result Reply Refusal). reply_answer r l) e ∙ near_refused _ _ _ long _ (sym c.sphere_of.ensures ∙ c.in_err-p.was) l) in record { meets = both.0; bounds = both.1; kind = ap (of_kind _) e ∙ refusal_kind _ _ }

pub returns : goal.returns
unfolding long_enough
returns c =
    let long = sym c.long_enough.ensures ∙ c.if-not-long_enough.false in
    let both = near_meets _ _ _ _ (near_found _ _ _ long _ _ (sym c.sphere_of.ensures ∙ c.in_ok-p.was) (λ l. c.of_best.ensures.is l ∙ ap (λ (o : Option Best). answer_of o l) c.nearest.ensures)) in record { meets = both.0; bounds = both.1; kind = c.of_best.ensures.kind }

-- `ask::ask`: the answer of each question in turn.
use mathlib.Core.Path.{sym, ap, ◌∙◌}
use Rattle.std.specs.Prelude.{Option, Ok}
use Rattle.model.specs.Sound.{long_enough}
use Rattle.nearest.specs.declared.best.Best.{Best}
use Rattle.nearest.specs.Best.{answer_of}
use Rattle.query.specs.Answers.{raw_wanted}
use Rattle.query.proofs.Laws.Asked.{asked_lists, asked_finds, of_kind_lem, refusal_kind, short_named, refused_named, wanted_named, reply_meets}
use Rattle.query.proofs.ask.ask.Goals as goal

pub returns-then-not-long_enough : goal.returns-then-not-long_enough
unfolding long_enough
returns-then-not-long_enough c =
    let both = reply_meets _ _ _ _ _ _ (short_named _ _ _ (sym c.long_enough.ensures ∙ c.if-not-long_enough.true)) (refusal_kind _ _) in record { meets = both.0; bounds = both.1.0; kind = both.1.1 }

pub returns-in-Ok-Listed : goal.returns-in-Ok-Listed
unfolding long_enough raw_wanted
returns-in-Ok-Listed c =
    let long = sym c.long_enough.ensures ∙ c.if-not-long_enough.false in
    let is = sym c.try_from.ensures.1 ∙ c.in-Ok-Listed.is ∙ ap Ok c.in-Ok-Listed.field-0-is in
    let both = reply_meets _ _ _ _ _ _
    (wanted_named _ _ _ long is (c.of_listed.ensures.is _ ∙ c.list.ensures))
    (of_kind_lem c.of_listed.result (asked_lists _ _ is) c.of_listed.ensures.kind) in record { meets = both.0; bounds = both.1.0; kind = both.1.1 }

pub returns-in-Ok-Nearest : goal.returns-in-Ok-Nearest
unfolding long_enough raw_wanted
returns-in-Ok-Nearest c =
    let long = sym c.long_enough.ensures ∙ c.if-not-long_enough.false in
    let l = c.args.listing.now in
    let is = sym c.try_from.ensures.1 ∙ c.in-Ok-Nearest.is ∙ ap Ok c.in-Ok-Nearest.field-0-is in
    let both = reply_meets _ _ _ _ _ _
    (wanted_named _ _ _ long is
    (c.of_best.ensures.is l ∙ ap (λ (o : Option Best). answer_of o l) c.nearest.ensures))
    (of_kind_lem (Ok c.of_best.result) (asked_finds _ _ _ is) c.of_best.ensures.kind) in record { meets = both.0; bounds = both.1.0; kind = both.1.1 }

pub returns-in-Err : goal.returns-in-Err
unfolding long_enough
returns-in-Err c =
    let long = sym c.long_enough.ensures ∙ c.if-not-long_enough.false in
    let both = reply_meets _ _ _ _ _ _ (refused_named _ _ _ long _ (sym c.try_from.ensures.1 ∙ c.in-Err.is)) (refusal_kind _ _) in record { meets = both.0; bounds = both.1.0; kind = both.1.1 }

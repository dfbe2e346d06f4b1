-- `clear::clear`: questions 1 and 3 as asked, and the tables that write gives for no samples.
use mathlib.Core.Path.{sym, ◌∙◌}
use Rattle.model.specs.Sound.{long_enough}
use Rattle.model.specs.Meets.{Meets}
use Rattle.samples.specs.Answers.{changed_answer}
use Rattle.samples.proofs.Laws.Cleared.{refused_short_lem, refused_settings, accepted, empty_writable}
use Rattle.samples.proofs.clear.clear.Goals as goal

pub returns-then-not-long_enough : goal.returns-then-not-long_enough
unfolding Meets changed_answer long_enough
returns-then-not-long_enough c =
    refused_short_lem _ _ _ (sym c.long_enough.ensures ∙ c.if-not-long_enough.true)

pub returns-then-not-settings_fit : goal.returns-then-not-settings_fit
unfolding Meets changed_answer long_enough
returns-then-not-settings_fit c =
    refused_settings _ _ _
    (sym c.long_enough.ensures ∙ c.if-not-long_enough.false)
    (sym c.settings_fit.ensures ∙ c.if-not-settings_fit.true)

pub write-requires : goal.write-requires
unfolding long_enough
write-requires c =
    let a = c.args in
    empty_writable _ a.samples.now a.octants.now (sym c.long_enough.ensures ∙ c.if-not-long_enough.false)

pub returns : goal.returns
unfolding Meets changed_answer long_enough
returns c =
    accepted _ _ _ _
    (sym c.long_enough.ensures ∙ c.if-not-long_enough.false)
    (sym c.settings_fit.ensures ∙ c.if-not-settings_fit.false)
    c.write.ensures

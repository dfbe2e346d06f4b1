-- `rebuild_tables`: questions 1, 3 and 6, then the rows.
use mathlib.Core.Path.{sym, ◌∙◌}
use native.Mathlib.Omega.{arith}
use Rattle.model.specs.Sound.{long_enough}
use Rattle.rebuild.proofs.Laws.Asked.{says_1, says_3, says_6, then_told}
use Rattle.rebuild.proofs.rebuild_tables.Goals as goal

pub returns-then-not-long_enough : goal.returns-then-not-long_enough
unfolding long_enough
returns-then-not-long_enough c =
    says_1 _ _ _ _ (sym c.long_enough.ensures ∙ c.if-not-long_enough.true)

pub returns-then-not-settings_fit : goal.returns-then-not-settings_fit
unfolding long_enough
returns-then-not-settings_fit c =
    says_3 _ _ _ _ (sym c.long_enough.ensures ∙ c.if-not-long_enough.false) (sym c.settings_fit.ensures ∙ c.if-not-settings_fit.true)

pub returns-then-sample_rows-n : goal.returns-then-sample_rows-n
unfolding long_enough
returns-then-sample_rows-n c =
    says_6 _ _ _ _
    (sym c.long_enough.ensures ∙ c.if-not-long_enough.false)
    (sym c.settings_fit.ensures ∙ c.if-not-settings_fit.false)
    (omega (arith, c.sample_rows.ensures.is, c.if-sample_rows-n.true))

pub returns : goal.returns
unfolding long_enough
returns c =
    then_told c.args.settings c.args.n c.args.samples.now c.args.octants.now
    (sym c.long_enough.ensures ∙ c.if-not-long_enough.false)
    (sym c.settings_fit.ensures ∙ c.if-not-settings_fit.false)
    (omega (arith, c.sample_rows.ensures.is, c.if-sample_rows-n.false))
    _ _
    c.rebuild.ensures

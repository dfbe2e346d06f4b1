-- `tables::check`: the header's tests, then whether the tables hold the set that they say.
use Prim.Native.Nat.{◌≤◌}
use mathlib.Core.Path.{sym, ap, ◌∙◌}
use native.Mathlib.Omega.{arith}
use lib.ListN.{length}
use Rattle.model.specs.SampleSet.{settings_good}
use Rattle.model.specs.Sound.{long_enough}
use Rattle.model.proofs.Tables.Numbers.{current_numbers}
use Rattle.words.proofs.Laws.Layout.Places.{rows_few}
use Rattle.octree.proofs.Laws.Tables.Check.{too_short, settings_out, rows_over, both_long, checked, places_first}
use Rattle.octree.proofs.tables.check.Goals as goal

pub returns-then-not-long_enough : goal.returns-then-not-long_enough
unfolding long_enough
returns-then-not-long_enough c =
    too_short _ _ (sym c.long_enough.ensures ∙ c.if-not-long_enough.true)

pub returns-then-not-settings_fit : goal.returns-then-not-settings_fit
returns-then-not-settings_fit c =
    settings_out _ _ (ap settings_good (sym c.settings-settings.ensures) ∙ sym c.settings_fit.ensures ∙ c.if-not-settings_fit.true)

pub count-n-requires : goal.count-n-requires
unfolding long_enough
count-n-requires c =
    let a = c.args in
    omega (arith, current_numbers.sample_header_is, (both_long a.samples.now a.octants.now (sym c.long_enough.ensures ∙ c.if-not-long_enough.false)).0)

pub returns-then-sample_rows-n : goal.returns-then-sample_rows-n
returns-then-sample_rows-n c =
    rows_over _ _ (omega (arith, c.sample_rows.ensures.is, c.count-n.ensures, c.if-sample_rows-n.true))

pub returns : goal.returns
unfolding long_enough
returns c =
    let n = c.count-n in
    let few = rows_few (length c.args.samples.now) in
    let small : n.result ≤ 4096 = omega (arith, few, c.sample_rows.ensures.is, c.if-sample_rows-n.false) in
    checked _ _ _ _ _ (sym c.long_enough.ensures ∙ c.if-not-long_enough.false) n.ensures c.settings-settings.ensures
    (omega (arith, c.sample_rows.ensures.is, c.if-sample_rows-n.false)) (places_first _ small) (sym c.settings_fit.ensures ∙ c.if-not-settings_fit.false)
    c.hold.result c.hold.ensures

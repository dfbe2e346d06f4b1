-- `rebuild::rows_accepted`: tags, codes, then octants.
use mathlib.Core.Path.{sym, ◌∙◌}
use Rattle.colour.proofs.Laws.Refused.{no_err_ok}
use native.Mathlib.Omega.{arith}
use lib.ListN.{length}
use Rattle.words.proofs.Laws.Layout.Places.{rows_few}
use Rattle.samples.proofs.Laws.Accepted.{accepted_by}
use Rattle.samples.proofs.rebuild.rows_accepted.Goals as goal

pub judge-requires : goal.judge-requires
judge-requires c = (
  omega (arith, rows_few (length c.args.samples.now), c.requires.0, c.all_apart.auto.tags, c.fill.auto.entries),
  omega (arith, c.requires.1, c.all_apart.auto.tags, c.all_apart.auto.scratch, c.fill.auto.entries),
)

pub returns : goal.returns
returns c =
    let apart = c.all_apart.ensures.0 c.if-not-all_apart.false in
    let ok = no_err_ok c.fill.result (sym c.is_err.ensures.value ∙ c.if-is_err.false) in
    accepted_by _ _ c.args.octants _ _ c.all_apart.auto.tags c.fill.new.entries _ c.fill.auto.entries c.requires.0 (c.fill.ensures.made.entries ok)
    c.judge.result c.judge.ensures c.is_ok.result c.is_ok.ensures.value apart (c.fill.ensures.made.in_range ok)

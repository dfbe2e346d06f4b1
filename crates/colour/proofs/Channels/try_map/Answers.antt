-- `Channels::try_map`: each exit is a case of `Tried`.
use mathlib.Core.Path.{sym, subst}
use Rattle.colour.specs.Channels.{Tried, all, red, green, blue}
use Rattle.colour.proofs.Laws.Refused.{passed_on}
use Rattle.colour.proofs.Channels.try_map.Goals as goal

pub returns-in_err-red : goal.returns-in_err-red
returns-in_err-red g c =
    subst (Tried (goal.F-post g c.args.f) c.args.self) (sym (passed_on c.in_err-red.field-0.0 c.from_residual.result c.from_residual.ensures.1)) (red _ c.in_err-red.ensures)

pub returns-in_err-green : goal.returns-in_err-green
returns-in_err-green g c =
    subst (Tried (goal.F-post g c.args.f) c.args.self) (sym (passed_on c.in_err-green.field-0.0 c.from_residual-in_err-green.result c.from_residual-in_err-green.ensures.1)) (green _ _ c.in_ok-red.ensures c.in_err-green.ensures)

pub returns-in_err-blue : goal.returns-in_err-blue
returns-in_err-blue g c =
    subst (Tried (goal.F-post g c.args.f) c.args.self) (sym (passed_on c.in_err-blue.field-0.0 c.from_residual-in_err-blue.result c.from_residual-in_err-blue.ensures.1)) (blue _ _ _ c.in_ok-red.ensures c.in_ok-green.ensures c.in_err-blue.ensures)

pub returns : goal.returns
returns g c = all _ c.in_ok-red.ensures c.in_ok-green.ensures c.in_ok-blue.ensures

-- None, or the seven bits.
use native.Mathlib.Omega.{arith}
use Rattle.traversal.proofs.Laws.Nearby.{turns_none}
use Rattle.traversal.proofs.nearby.turns.Goals as goal

pub returns-then-most-least : goal.returns-then-most-least
returns-then-most-least c =
    let inner = c.min.ensures in
    let outer = c.min-least.ensures in
    turns_none _ _ _ c.min-least.result (omega (arith, outer, inner)) (omega (arith, outer, inner)) (omega (arith, outer)) c.if-most-least.true

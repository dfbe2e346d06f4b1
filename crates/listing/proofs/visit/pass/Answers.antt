-- `visit::pass`: the root is visited, or nothing is.
use native.Mathlib.Omega.{arith}
use Rattle.listing.proofs.Laws.Steps.Passing.{pass_within, fresh_counting, root_barred, root_apart, root_visited}
use Rattle.listing.proofs.visit.pass.Goals as goal

pub visit-requires-clause-counting : goal.visit-requires-clause-counting
visit-requires-clause-counting c =
    let l = c.octant_limit-limit in
    fresh_counting _ _ c.args.region.now _ c.requires.blank (omega (arith, l.ensures, l.type_inv))

pub returns-then-overlaps : goal.returns-then-overlaps
returns-then-overlaps c =
    let both = pass_within _ _ _
    (root_visited _ _ _ _ c.requires.blank _ c.root-all.ensures.is _ _ c.octant_limit-limit.ensures c.may_enter.ensures _ c.overlaps.ensures
    c.if-may_enter.true c.if-overlaps.true c.visit.ensures) in record { visited = both.0; bounded = both.1 }

pub returns-else-overlaps : goal.returns-else-overlaps
returns-else-overlaps c =
    let both = pass_within _ _ _ (root_apart _ _ _ _ c.requires.blank _ c.root-all.ensures.is _ _ c.octant_limit-limit.ensures c.may_enter.ensures _ c.overlaps.ensures c.if-overlaps.false) in record { visited = both.0; bounded = both.1 }

pub returns-else-may_enter : goal.returns-else-may_enter
returns-else-may_enter c =
    let both = pass_within _ _ _ (root_barred _ _ _ _ c.requires.blank _ c.root-all.ensures.is _ _ c.octant_limit-limit.ensures c.may_enter.ensures c.if-may_enter.false) in record { visited = both.0; bounded = both.1 }

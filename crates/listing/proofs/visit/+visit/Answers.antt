-- `visit::visit`: the children before `done` were visited or are not entered, and the others that overlap are still to come.
use Prim.Native.Nat.{ℕ, suc, ◌-◌, ◌<◌}
use mathlib.Core.Path.{◌≡◌, ap, ◌∙◌}
use native.Mathlib.Omega.{arith}
use Rattle.colour.specs.declared.Cube.{Cube}
use Rattle.colour.specs.Mask.{overlap_mask}
use Rattle.colour.specs.Octant.{depths, side_at, child_cube}
use Rattle.traversal.specs.Places.{children_in}
use Rattle.traversal.specs.declared.children.Children.{Children}
use Rattle.traversal.proofs.Laws.Places.{NextChild}
use Rattle.listing.specs.Steps.{tally_in, Counting}
use Rattle.listing.proofs.Laws.Steps.Turning.{meets, allowed, allowed_is, turning_begins, turning_ends, turning_barred, turning_visited, turning_counting, is_first}
use Rattle.traversal.proofs.Laws.Cubes.{limit_rows, child_depth}
use Rattle.listing.proofs.Laws.Steps.Visiting.{allowed_row, entered_counting, own_visited, deep, turns_visited, mask_is, child_visited}
use Rattle.listing.proofs.visit.+visit.Goals as goal
use Rattle.listing.proofs.visit.+visit.Goals.{After-enter, Else-ends, After-parent_of-parent, In-Some, After-may_enter}

after_enter : (t : ℕ) (c : After-enter t) → Counting c.args.tables.now.samples.now c.args.tables.now.octants.now c.enter.new.self
after_enter t c =
    let p = c.requires in
    entered_counting _ _ c.args.region.now _ _ _ _ p.within p.counting p.next_bound.0 p.next_bound.1 c.enter.ensures

-- A split octant has depths below it, and its children have half its side.
deep_at : (t : ℕ) (c : Else-ends t) → c.args.cube.depth < 16
deep_at t c =
    let p = c.requires in
    deep _ _ c.args.region.now _ _ _ _ p.within p.counting p.next_bound.0 p.next_bound.1 c.enter.ensures c.inside-whole.result c.ends.result
    c.inside-whole.ensures c.ends.ensures c.if-ends.false

halved : (t : ℕ) (c : After-parent_of-parent t) → c.parent_of-parent.result.half ≡ side_at (suc c.args.cube.depth)
halved t c = c.parent_of-parent.result.halved ∙ ap (λ (x : Cube). side_at (suc x.depth)) c.parent_of-parent.ensures

-- The child that is next.
found : (t : ℕ) (c : In-Some t)
    → NextChild (meets c.args.tables.now.samples.now c.args.tables.now.octants.now c.args.region.now (16 - c.args.cube.depth - 1) c.args.row c.args.cube.low)
    c.loop-k.invariant.done c.in-Some.k (children_in c.next.new.self.left)
found t c = is_first _ _ _ _ _ _ c.loop-k.invariant c.in-Some.ensures.steps

-- Whether it may be entered.
permitted : (t : ℕ) (c : After-may_enter t)
    → allowed c.args.tables.now.samples.now c.args.tables.now.octants.now c.args.region.now (16 - c.args.cube.depth - 1) c.args.row c.args.cube.low
    c.in-Some.k (tally_in c.loop-k.tally)
    ≡ c.may_enter.result
permitted t c =
    allowed_is _ _ _ _ _ _ c.loop-k.invariant c.in-Some.ensures.steps _ _ _ c.child_at-next.ensures
    c.octant_limit-limit.ensures c.may_enter.ensures

pub ends-requires : goal.ends-requires
unfolding depths
ends-requires t c = (limit_rows _ _ c.requires.next_bound.1, c.requires.within.depth)

pub own_samples-requires-clause-counting : goal.own_samples-requires-clause-counting
own_samples-requires-clause-counting t c = after_enter t (goal.at.own_samples-requires-clause-counting t c).After-enter

pub returns-then-ends : goal.returns-then-ends
returns-then-ends t c =
    let p = c.requires in
    own_visited _ _ _ _ _ _ _ p.within p.counting p.next_bound.0 p.next_bound.1 c.enter.ensures c.inside-whole.result c.ends.result
    c.inside-whole.ensures c.ends.ensures c.if-ends.true c.own_samples.ensures

pub parent_of-parent-requires-clause-deep : goal.parent_of-parent-requires-clause-deep
parent_of-parent-requires-clause-deep t c = deep_at t (goal.at.parent_of-parent-requires-clause-deep t c).Else-ends

pub loop-k-init : goal.loop-k-init
loop-k-init t c =
    let at = goal.at.loop-k-init t c in
    turning_begins _ _ _ _ _ _ _ _ _ _
    (ap (λ (x : Children). children_in x.left) c.into_iter-k-iterator.ensures.into_iter_gives ∙ c.children_in-k-items.ensures)
    (mask_is c.args.cube _ (halved t at.After-parent_of-parent) _ _ (c.overlapping.ensures.is ∙ ap (λ (x : Cube). overlap_mask c.args.region.now c.parent_of-parent.result.half x.low) c.parent_of-parent.ensures))

pub child_at-next-requires : goal.child_at-next-requires
child_at-next-requires t c =
    (limit_rows _ _ c.requires.next_bound.1, (found t (goal.at.child_at-next-requires t c).In-Some).below)

pub visit-requires : goal.visit-requires
visit-requires t c =
    let at = goal.at.visit-requires t c in
    let e = c.child.ensures.is ∙ ap (λ (x : Cube). child_cube x c.in-Some.k) c.parent_of-parent.ensures in
    let r = allowed_row _ _ _ _ _ c.may_enter.ensures c.if-may_enter.true c.octant_limit-limit.ensures in (
      omega (arith, c.decreases, deep_at t at.Else-ends, child_depth c.args.cube _ _ e),
      (c.child.ensures.within, (turning_counting _ _ _ _ _ _ c.loop-k.invariant (after_enter t at.After-enter), r)),
    )

pub loop-k-preserved-then-may_enter : goal.loop-k-preserved-then-may_enter
loop-k-preserved-then-may_enter t c =
    let at = goal.at.loop-k-preserved-then-may_enter t c in
    turning_visited _ _ _ _ _ _ c.loop-k.invariant c.in-Some.ensures.steps
    (permitted t at.After-may_enter ∙ c.if-may_enter.true)
    (child_visited c.args.cube _ (halved t at.After-parent_of-parent) _ _ _ _ _ _ _
    (c.child.ensures.is ∙ ap (λ (x : Cube). child_cube x c.in-Some.k) c.parent_of-parent.ensures) c.child_at-next.ensures c.visit.ensures)

pub loop-k-preserved : goal.loop-k-preserved
loop-k-preserved t c =
    let at = goal.at.loop-k-preserved t c in
    turning_barred _ _ _ _ _ _ c.loop-k.invariant c.in-Some.ensures.steps
    (permitted t at.After-may_enter ∙ c.if-may_enter.false)

pub returns : goal.returns
returns t c =
    let p = c.requires in
    turns_visited _ _ _ _ _ _ _ p.within p.counting p.next_bound.0 p.next_bound.1 c.enter.ensures c.inside-whole.result c.ends.result
    c.inside-whole.ensures c.ends.ensures c.if-ends.false (turning_ends _ _ _ _ _ _ c.loop-k.invariant c.in-None.ensures.steps.0)

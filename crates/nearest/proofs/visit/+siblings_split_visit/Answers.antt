-- `visit::visit`, `visit::split` and `visit::siblings`: the closest child first, then the siblings that are still close enough; the search is the
-- definition's.
use Prim.Native.Nat.{ℕ}
use mathlib.Core.List.{List}
use mathlib.Core.Path.{◌≡◌, refl, sym, ap, ap₂, ◌∙◌, subst}
use native.Mathlib.Omega.{arith}
use Rattle.colour.specs.declared.Probe.{Probe}
use Rattle.colour.specs.Octant.{depths}
use Rattle.traversal.specs.Squares.{Squares}
use Rattle.traversal.specs.declared.spot.Spot.{Spot}
use Rattle.traversal.specs.declared.spot.Fork.{Fork}
use Rattle.traversal.specs.Nearby.{sum_by, turn_within, far_of, SmallSquares}
use Rattle.traversal.specs.Children.{child_at}
use Rattle.traversal.specs.Places.{children_in}
use Rattle.traversal.specs.declared.children.Children.{Children}
use Rattle.traversal.specs.Search.{Searching, search_entering, own_search}
use Rattle.traversal.specs.Spot.{Stood, Forked, turn_spot, search_at, turn_at, siblings_at, split_at}
use Rattle.traversal.proofs.Laws.Places.{NextChild}
use Rattle.traversal.proofs.Laws.Cubes.{limit_rows}
use Rattle.traversal.proofs.Laws.Nearby.{sum_is, sum_fits}
use Rattle.traversal.proofs.Laws.Search.Keeps.{entering_within, still_ready}
use Rattle.traversal.proofs.Laws.Search.Spots.{first_small, kid_small, kid_turn, kid_first, far_rising, turn_small}
use Rattle.traversal.proofs.Laws.Search.Spots.{Told, turn_told, told_barred, told_entered, told_room, told_stood, told_depth, search_own, search_deep, search_split, turn_at_within}
use Rattle.traversal.proofs.Laws.Search.Path.{Siblings, turning_begins, next_is, turning_barred, turning_visited, turning_ends}
use Rattle.nearest.specs.Best.{Kept, bests}
use Rattle.traversal.specs.Steps.{SearchReady}
use Rattle.nearest.specs.declared.best.Search.{Search}
use Rattle.nearest.specs.declared.visit.Asked.{Asked}
use Rattle.nearest.specs.Steps.{search_as, search_in, search_after}
use Rattle.nearest.proofs.Laws.Closer.{best_steady, best_beyond}
use Rattle.nearest.proofs.Laws.Starting.{lent_ready}
use Rattle.nearest.proofs.visit.+siblings_split_visit.Goals as goal
use Rattle.nearest.proofs.visit.+siblings_split_visit.Goals.{siblings-In-Some, siblings-After-reaches, split-After-reaches, split-Joined-reaches, split-then-reaches, split-else-reaches, visit-After-enter}

-- What is known of the siblings when the loop begins.
known : (ws : List ℕ) (lent : Search) {p : Probe} {spot : Spot} {fork : Fork} {far : Squares} → Forked p spot fork → far ≡ far_of p fork.half spot.cube.low
    → Siblings (bests ws p) p spot fork far (search_in lent).kept.distance (search_in lent)
known ws lent f e =
    record { forked = f; far_is = e; beyond = best_beyond (search_in lent).kept; steady = best_steady _ _ }

-- What is lent once an octant was visited, by a probe.
abbrev after_visit : Asked → ℕ → Spot → Search → Probe → Search
after_visit asked row spot lent q =
    search_after (search_at (bests asked.tables.samples.now q) asked.tables.samples.now asked.tables.octants.now q row spot) lent

turning : (t : ℕ) (c : siblings-In-Some t) → SearchReady c.args.asked.now.tables.samples.now c.args.asked.now.tables.octants.now (search_in c.loop-turn.search)
turning t c = still_ready c.requires.ready c.loop-turn.invariant.limits

-- The sibling that is next, and what is told of its turn.
found : (t : ℕ) (c : siblings-In-Some t)
    → NextChild (turn_within (search_in c.args.search.now).kept.distance c.args.at.spot.near c.far-far.result) c.loop-turn.invariant.done c.in-Some.turn
    (children_in c.next.new.self.left)
found t c =
    next_is (known c.args.asked.now.tables.samples.now c.args.search.now c.args.at.forked c.far-far.ensures) c.loop-turn.invariant c.in-Some.ensures.steps

told : (t : ℕ) (c : siblings-After-reaches t) {to : Spot} → to ≡ turn_spot c.args.at.probe c.args.at.spot c.in-Some.turn
    → Told (bests c.args.asked.now.tables.samples.now c.args.at.probe) c.args.asked.now.tables.samples.now c.args.asked.now.tables.octants.now c.args.at.probe c.args.row c.args.at.spot c.in-Some.turn
    (search_in c.loop-turn.search) c.child_at-next.result to c.reaches.result
told t c e =
    turn_told (c.child_at-next.ensures ∙ ap (child_at c.args.asked.now.tables.octants.now c.args.row) (kid_turn c.args.at.forked _)) e
    (c.sum.ensures ∙ sum_is _ ∙ ap sum_by (c.sibling_near-near.ensures ∙ ap (λ (x : Spot). x.near) (sym e)))
    c.args.asked.now.limit_is (c.reaches.ensures c.args.asked.now.tables.samples.now c.args.at.probe)

pub siblings-turns-requires : goal.siblings-turns-requires
siblings-turns-requires t c = far_rising c.args.at.forked c.far-far.ensures

pub siblings-loop-turn-init : goal.siblings-loop-turn-init
siblings-loop-turn-init t c =
    turning_begins _ _ _ _ _ _ _ _ _ c.requires.ready.limits
    (ap (λ (x : Children). children_in x.left) c.into_iter-turn-iterator.ensures.into_iter_gives ∙ c.children_in-turn-items.ensures)
    c.turns.ensures

pub siblings-child_at-next-requires : goal.siblings-child_at-next-requires
siblings-child_at-next-requires t c =
    let f = found t (goal.at.siblings-child_at-next-requires t c).In-Some in
    (limit_rows _ _ c.requires.row_bound, kid_small c.args.at.forked _ f.below)

pub siblings-sum-requires : goal.siblings-sum-requires
siblings-sum-requires t c =
    sum_fits (subst SmallSquares (sym c.sibling_near-near.ensures) (turn_small c.args.at.forked _))

pub siblings-visit-requires : goal.siblings-visit-requires
siblings-visit-requires t c =
    let at = goal.at.siblings-visit-requires t c in
    let f = c.args.at.forked in
    let d = subst (Told _ _ _ _ _ _ _ _ _ _) c.if-reaches.true (told t at.After-reaches c.sibling.ensures) in (
      omega (arith, c.decreases, told_depth d f, f.deep),
      ((subst (λ (q : Probe). Stood q c.sibling.result) c.requires.same (told_stood d f), (told_room d).0), (turning t at.In-Some, (told_room d).1)),
    )

pub siblings-loop-turn-preserved-then-reaches : goal.siblings-loop-turn-preserved-then-reaches
siblings-loop-turn-preserved-then-reaches t c =
    let at = goal.at.siblings-loop-turn-preserved-then-reaches t c in
    turning_visited (known c.args.asked.now.tables.samples.now c.args.search.now c.args.at.forked c.far-far.ensures) c.loop-turn.invariant c.in-Some.ensures.steps (subst (Told _ _ _ _ _ _ _ _ _ _) c.if-reaches.true (told t at.After-reaches c.sibling.ensures)) (ap search_in (c.visit.ensures ∙ ap (after_visit c.args.asked.now c.child_at-next.result c.sibling.result c.loop-turn.search) (sym c.requires.same)))

pub siblings-loop-turn-preserved : goal.siblings-loop-turn-preserved
siblings-loop-turn-preserved t c =
    let at = goal.at.siblings-loop-turn-preserved t c in
    turning_barred (known c.args.asked.now.tables.samples.now c.args.search.now c.args.at.forked c.far-far.ensures) c.loop-turn.invariant c.in-Some.ensures.steps (subst (Told _ _ _ _ _ _ _ _ _ _) c.if-reaches.false (told t at.After-reaches refl))

pub siblings-returns : goal.siblings-returns
siblings-returns t c =
    ap search_as
    (turning_ends (known c.args.asked.now.tables.samples.now c.args.search.now c.args.at.forked c.far-far.ensures) c.loop-turn.invariant c.in-None.ensures.steps.0)

-- What is told of turn 0.
closest : (t : ℕ) (c : split-After-reaches t)
    → Told (bests c.args.asked.now.tables.samples.now c.args.at.probe) c.args.asked.now.tables.samples.now c.args.asked.now.tables.octants.now c.args.at.probe c.args.row c.args.at.spot 0 (search_in c.args.search.now)
    c.child_at-next.result c.closest-to.result c.reaches.result
closest t c =
    turn_told
    (c.child_at-next.ensures ∙ ap (child_at c.args.asked.now.tables.octants.now c.args.row) (kid_first c.args.at.forked))
    c.closest-to.ensures (c.sum.ensures ∙ sum_is _) c.args.asked.now.limit_is (c.reaches.ensures c.args.asked.now.tables.samples.now c.args.at.probe)

-- Whether or not it was entered, turn 0 was taken.
first_turn : (t : ℕ) (c : split-Joined-reaches t)
    → Told (bests c.args.asked.now.tables.samples.now c.args.at.probe) c.args.asked.now.tables.samples.now c.args.asked.now.tables.octants.now c.args.at.probe c.args.row c.args.at.spot 0 (search_in c.args.search.now)
    c.child_at-next.result c.closest-to.result c.reaches.result
    → c.if-reaches.search
    ≡ search_after (turn_at (bests c.args.asked.now.tables.samples.now c.args.at.probe) c.args.asked.now.tables.samples.now c.args.asked.now.tables.octants.now c.args.at.probe c.args.row c.args.at.spot 0) c.args.search.now
first_turn t c d =
    elim c.if-reaches.branch [
      | split-then-reaches w ↦
          w.search-is ∙ w.visit.ensures
          ∙ ap (after_visit c.args.asked.now c.child_at-next.result c.closest-to.result c.args.search.now) (sym c.requires.same)
          ∙ ap search_as (sym (told_entered (subst (Told _ _ _ _ _ _ _ _ _ _) w.if-reaches.true d)))
      | split-else-reaches w ↦
          w.search-is ∙ ap search_as (sym (told_barred (subst (Told _ _ _ _ _ _ _ _ _ _) w.if-reaches.false d)))
    ]

pub split-child_at-next-requires : goal.split-child_at-next-requires
split-child_at-next-requires t c =
    (limit_rows _ _ c.requires.row_bound, first_small c.args.at.forked)

pub split-sum-requires : goal.split-sum-requires
split-sum-requires t c =
    sum_fits (subst (λ (x : Spot). SmallSquares x.near) (sym c.closest-to.ensures) (turn_small c.args.at.forked 0))

pub split-visit-requires : goal.split-visit-requires
split-visit-requires t c =
    let f = c.args.at.forked in
    let d = subst (Told _ _ _ _ _ _ _ _ _ _) c.if-reaches.true (closest t (goal.at.split-visit-requires t c).After-reaches) in (
      omega (arith, c.decreases, told_depth d f, f.deep),
      ((subst (λ (q : Probe). Stood q c.closest-to.result) c.requires.same (told_stood d f), (told_room d).0), (c.requires.ready, (told_room d).1)),
    )

pub split-siblings-requires : goal.split-siblings-requires
split-siblings-requires t c =
    let at = goal.at.split-siblings-requires t c in (
      omega (arith, c.decreases),
      (
        c.requires.same,
        (
          c.requires.row_bound,
          lent_ready c.requires.ready _ (first_turn t at.Joined-reaches (closest t at.After-reaches))
              (turn_at_within (bests c.args.asked.now.tables.samples.now c.args.at.probe) c.args.asked.now.tables.samples.now c.args.asked.now.tables.octants.now c.args.at.probe c.args.row c.args.at.spot 0 c.requires.ready.limits),
        ),
      ),
    )

pub split-returns : goal.split-returns
unfolding split_at
split-returns t c =
    let at = goal.at.split-returns t c in
    c.siblings.ensures
    ∙ ap (λ (u : Searching Kept). search_as (siblings_at (bests c.args.asked.now.tables.samples.now c.args.at.probe) c.args.asked.now.tables.samples.now c.args.asked.now.tables.octants.now c.args.at.probe c.args.row c.args.at.spot u))
    (ap search_in (first_turn t at.Joined-reaches (closest t at.After-reaches)))

-- What is lent once the octant is entered.
went_in : (t : ℕ) (c : visit-After-enter t) → search_in c.enter.new.self ≡ search_entering (search_in c.args.search.now)
went_in t c = ap search_in c.enter.ensures

still : (t : ℕ) (c : visit-After-enter t) → SearchReady c.args.asked.now.tables.samples.now c.args.asked.now.tables.octants.now (search_in c.enter.new.self)
still t c =
    lent_ready c.requires.ready _ c.enter.ensures
    (entering_within (bests c.args.asked.now.tables.samples.now c.args.asked.now.probe) c.args.asked.now.tables.samples.now c.args.asked.now.tables.octants.now c.args.asked.now.probe _ c.requires.search_bound c.requires.ready.limits)

pub visit-ends-requires : goal.visit-ends-requires
unfolding depths
visit-ends-requires t c = (limit_rows _ _ c.requires.stood.1, c.requires.stood.0.within.depth)

pub visit-own-requires-clause-ready : goal.visit-own-requires-clause-ready
visit-own-requires-clause-ready t c = still t (goal.at.visit-own-requires-clause-ready t c).After-enter

pub visit-returns-then-ends : goal.visit-returns-then-ends
visit-returns-then-ends t c =
    let ws = c.args.asked.now.tables.samples.now in
    let os = c.args.asked.now.tables.octants.now in
    c.own.ensures
    ∙ ap search_as
    (ap (own_search (bests ws c.args.asked.now.probe) ws os c.args.row) (went_in t (goal.at.visit-returns-then-ends t c).After-enter)
    ∙ sym (search_own (bests ws c.args.asked.now.probe) ws os c.args.asked.now.probe c.args.row c.args.spot _ (sym c.ends.ensures ∙ c.if-ends.true)))

pub visit-new-requires : goal.visit-new-requires
visit-new-requires t c =
    let ws = c.args.asked.now.tables.samples.now in
    let os = c.args.asked.now.tables.octants.now in
    record {
      stood = c.requires.stood.0;
      deep = search_deep (bests ws c.args.asked.now.probe) ws os c.args.asked.now.probe c.args.row c.args.spot (search_in c.args.search.now) (sym c.ends.ensures ∙ c.if-ends.false);
    }

pub visit-split-requires : goal.visit-split-requires
visit-split-requires t c = (
  omega (arith, c.decreases, ap (λ (x : Spot). x.cube.depth) c.new.ensures.spot),
  (c.new.ensures.probe, (c.requires.stood.1, still t (goal.at.visit-split-requires t c).After-enter)),
)

pub visit-returns : goal.visit-returns
visit-returns t c =
    let ws = c.args.asked.now.tables.samples.now in
    let os = c.args.asked.now.tables.octants.now in
    c.split.ensures
    ∙ ap₂ (λ (q : Probe) (x : Spot). search_after (split_at (bests ws q) ws os q c.args.row x) c.enter.new.self) c.new.ensures.probe c.new.ensures.spot
    ∙ ap search_as
    (ap (split_at (bests ws c.args.asked.now.probe) ws os c.args.asked.now.probe c.args.row c.args.spot) (went_in t (goal.at.visit-returns t c).After-enter)
    ∙ sym (search_split (bests ws c.args.asked.now.probe) ws os c.args.asked.now.probe c.args.row c.args.spot _ (sym c.ends.ensures ∙ c.if-ends.false)))

-- The loop over the siblings of the closest child: those before `done` were taken or would change nothing, and the others are still to come. A sibling that is
-- farther than what was kept when the mask was made never comes before what is kept later.
use Prim.Native.Nat.{ℕ, zero, suc, ◌≤◌, ◌<◌}
use mathlib.Core.Bool.{Bool, true, false}
use mathlib.Core.List.{List, [], ◌∷◌}
use mathlib.Core.Logic.{inl, inr}
use mathlib.Core.Path.{◌≡◌, refl, sym, ap, ◌∙◌, subst}
use native.Mathlib.Nat.{eq-or-lt_of_le}
use native.Mathlib.Omega.{arith}
use borrow.Author.Tests.{le-leb}
use Rattle.colour.specs.declared.Probe.{Probe}
use Rattle.traversal.specs.Squares.{Squares}
use Rattle.colour.specs.Octant.{children}
use Rattle.colour.specs.Mask.{mask_of}
use Rattle.traversal.specs.Nearby.{far_of, sum_by, turn_within, turn_mask}
use Rattle.colour.proofs.Laws.Mask.{from, mask_same}
use Rattle.traversal.proofs.Laws.Nearby.{turn_farther}
use Rattle.model.specs.Layout.{current}
use Rattle.words.specs.Rows.{octant_limit, sample_budget}
use Rattle.traversal.specs.declared.spot.Spot.{Spot}
use Rattle.traversal.specs.declared.spot.Fork.{Fork}
use Rattle.traversal.specs.Children.{child_at}
use Rattle.traversal.specs.Places.{children_in}
use Rattle.traversal.specs.Turns.{in_turn}
use Rattle.traversal.specs.Search.{Store, Searching}
use Rattle.traversal.specs.Steps.{SearchWithin}
use Rattle.traversal.specs.Spot.{turn_number, turn_spot, Forked, search_at, turn_at, sibling_turn, siblings_at}
use Rattle.traversal.proofs.Laws.Places.{NextChild, next_child, no_child}
use Rattle.traversal.proofs.Laws.Search.Keeps.{Steady, search_within, search_past}
use Rattle.traversal.proofs.Laws.Search.Spots.{turned_near, turn_passed, Told, told_barred, told_entered, told_room}

-- Turns that change nothing may be left out.
turns_skipped : {A : Type 0} (F : ℕ → A → A) (a : A) (p n : ℕ) → p ≤ n → ((i : ℕ) → p ≤ i → i < n → F i (in_turn F p a) ≡ in_turn F p a)
    → in_turn F n a ≡ in_turn F p a
unfolding in_turn
turns_skipped F a p zero h e = let none : 0 ≡ p = omega arith in ap (λ (i : ℕ). in_turn F i a) none
turns_skipped F a p (suc n) h e =
    elim (eq-or-lt_of_le {n = p} {m = suc n} h) [
      | inl s ↦ ap (λ (i : ℕ). in_turn F i a) (sym s)
      | inr s ↦ ap (F n) (turns_skipped F a p n (omega arith) (λ i x y. e i x (omega arith))) ∙ e n (omega arith) (omega arith)
    ]

-- Where the loop stands, with the search as it was before it, and the most that a sibling may be away.
pub record Turning {S : Type 0} (K : Store S) (ws os : List ℕ) (p : Probe) (row : ℕ) (spot : Spot) (far : Squares) (most : ℕ) (start : Searching S) (ahead : List ℕ)
    (s : Searching S) : Type 0 where
  pub done : ℕ
  pub some : 1 ≤ done
  pub few : done ≤ 8
  pub left : ahead ≡ children_in (mask_of (from done (turn_within most spot.near far)) 8)
  pub so_far : s ≡ in_turn (sibling_turn K ws os p row spot) done start
  pub past : (d at : ℕ) → K.closer start.kept d at ≡ false → K.closer s.kept d at ≡ false
  pub limits : SearchWithin (sample_budget current ws) (octant_limit current os) s

module _ {S : Type 0} (K : Store S) (ws os : List ℕ) (p : Probe) (row : ℕ) (spot : Spot) (far : Squares) (most : ℕ) (start : Searching S) where
  -- Before the loop no sibling was taken.
  pub turning_begins : {ahead : List ℕ} {mask : ℕ} → SearchWithin (sample_budget current ws) (octant_limit current os) start → ahead ≡ children_in mask
      → mask ≡ turn_mask most spot.near far → Turning K ws os p row spot far most start ahead start
  unfolding turn_mask turn_within children in_turn sibling_turn
  turning_begins limits given e =
      record {
        done = 1;
        some = omega arith;
        few = omega arith;
        left = given ∙ ap children_in (e ∙ mask_same f (from 1 f) 8 (λ i h. same i));
        so_far = refl;
        past = λ d at h. h;
        limits = limits;
      }
    where
      f : ℕ → Bool
      f = turn_within most spot.near far

      same : (i : ℕ) → f i ≡ from 1 f i
      same zero = refl
      same (suc i) = rw (le-leb 1 (suc i) (omega arith))

-- What is known when the loop begins: the octant is split, these are its far halves, and nothing past the most comes before what is kept, now or later.
pub record Siblings {S : Type 0} (K : Store S) (p : Probe) (spot : Spot) (fork : Fork) (far : Squares) (most : ℕ) (start : Searching S) : Type 0 where
  pub forked : Forked p spot fork
  pub far_is : far ≡ far_of p fork.half spot.cube.low
  pub beyond : (d at : ℕ) → most < d → K.closer start.kept d at ≡ false
  pub steady : Steady K

module _ {S : Type 0} {K : Store S} {ws os : List ℕ} {p : Probe} {row : ℕ} {spot : Spot} {fork : Fork} {far : Squares} {most : ℕ} {start : Searching S}
    (known : Siblings K p spot fork far most start) {ahead : List ℕ} {s : Searching S} (g : Turning K ws os p row spot far most start ahead s) where
  abbrev turn : ℕ → Searching S → Searching S
  turn = sibling_turn K ws os p row spot

  abbrev inside : ℕ → Bool
  inside = turn_within most spot.near far

  sibling_is : (i : ℕ) → 1 ≤ i → (u : Searching S) → turn i u ≡ turn_at K ws os p row spot i u
  unfolding sibling_turn
  sibling_is zero h u = absurd (omega arith)
  sibling_is (suc i) h u = refl

  -- A sibling that is not in the mask changes nothing.
  passed : (i : ℕ) → 1 ≤ i → inside i ≡ false → turn i s ≡ s
  passed i h e =
      let gap : ℕ = sum_by (turn_spot p spot i).near in
      let at : ℕ = child_at os row (turn_number p spot i) in
      let more : most < gap = omega (arith, turn_farther most spot.near far i h e, ap sum_by (turned_near known.forked known.far_is i)) in
      sibling_is i h s ∙ turn_passed K ws os p row spot i s (g.past gap at (known.beyond gap at more))

  up_to : (k : ℕ) → g.done ≤ k → ((i : ℕ) → g.done ≤ i → i < k → inside i ≡ false) → in_turn turn k start ≡ s
  up_to k h e =
      turns_skipped turn start g.done k h (λ i a b. ap (turn i) (sym g.so_far) ∙ passed i (omega (arith, g.some)) (e i a b) ∙ g.so_far)
      ∙ sym g.so_far

  -- All were taken.
  pub turning_ends : ahead ≡ [] → s ≡ siblings_at K ws os p row spot start
  unfolding siblings_at children
  turning_ends none = sym (up_to 8 g.few (no_child inside g.done g.left none))

  -- The next one.
  module _ {k : ℕ} {ahead' : List ℕ} (step : ahead ≡ k ∷ ahead') where
    pub next_is : NextChild (turn_within most spot.near far) g.done k ahead'
    next_is = next_child inside g.done g.left step

    one_more : in_turn turn (suc k) start ≡ turn_at K ws os p row spot k s
    unfolding in_turn
    one_more = ap (turn k) (up_to k next_is.least next_is.skipped) ∙ sibling_is k (omega (arith, g.some, next_is.least)) s

    -- It is not entered.
    pub turning_barred : {next : ℕ} {to : Spot} → Told K ws os p row spot k s next to false → Turning K ws os p row spot far most start ahead' s
    turning_barred t =
        record {
          done = suc k;
          some = omega arith;
          few = next_is.below;
          left = next_is.rest;
          so_far = sym (one_more ∙ told_barred t);
          past = g.past;
          limits = g.limits;
        }

    -- It was visited.
    pub turning_visited : {next : ℕ} {to : Spot} → Told K ws os p row spot k s next to true → {s' : Searching S} → s' ≡ search_at K ws os p next to s
        → Turning K ws os p row spot far most start ahead' s'
    unfolding search_at
    turning_visited t is =
        let room : s.entered < octant_limit current os = (told_room t).1 in
        record {
          done = suc k;
          some = omega arith;
          few = next_is.below;
          left = next_is.rest;
          so_far = is ∙ sym (one_more ∙ told_entered t);
          past = λ d at h. ap (λ (u : Searching S). K.closer u.kept d at) is ∙ search_past K known.steady ws os p d at _ _ _ s room (g.past d at h);
          limits =
              subst (SearchWithin (sample_budget current ws) (octant_limit current os)) (sym is) (search_within K ws os p _ _ _ s room g.limits);
        }

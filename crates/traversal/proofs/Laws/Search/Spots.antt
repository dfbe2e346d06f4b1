-- The octants that a search goes through, as the functions have them: what is known of a child, and what its turn comes to.
use Prim.Native.Nat.{ℕ, zero, suc, ◌+◌, ◌-◌, ◌^◌, ◌≤◌, ◌<◌}
use mathlib.Core.Bool.{Bool, true, false, true≢false}
use mathlib.Core.List.{List}
use mathlib.Core.Path.{◌≡◌, refl, sym, ap, ap₂, ◌∙◌, subst}
use native.Mathlib.Numerals.{sub-one}
use native.Mathlib.Omega.{arith}
use borrow.Author.Tests.{lt-ltb, le-ltb}
use lib.Bits.{bit_xor, xor_zero_r}
use Rattle.colour.specs.Channels.{Colour}
use Rattle.colour.specs.declared.Cube.{Cube}
use Rattle.colour.specs.declared.Probe.{Probe}
use Rattle.traversal.specs.Squares.{Squares}
use Rattle.colour.specs.Colour.{Channel, code_in, distance}
use Rattle.colour.specs.Probe.{Fine}
use Rattle.colour.specs.Octant.{depths, children, side_at, child_low, child_cube, root_cube}
use Rattle.colour.specs.Region.{closest}
use Rattle.colour.specs.Nearby.{closest_child}
use Rattle.traversal.specs.Nearby.{near_of, far_of, turned_by, sum_by, NearFar, SmallSquares}
use Rattle.colour.proofs.Laws.Cubes.{side_half, child_room, child_within, root_within}
use Rattle.traversal.proofs.Laws.Nearby.{closest_child_small, child_near, near_far, near_sum, turned_none, turned_small}
use Rattle.model.specs.Layout.{Count, current}
use Rattle.words.specs.Rows.{settings_in, octant_field, octant_limit, sample_budget}
use Rattle.traversal.specs.declared.spot.Spot.{Spot}
use Rattle.traversal.specs.declared.spot.Fork.{Fork}
use Rattle.traversal.specs.Own.{ends_at}
use Rattle.traversal.specs.Children.{child_at}
use Rattle.traversal.specs.Turns.{in_turn}
use Rattle.traversal.specs.Search.{Store, Searching, no_search, search_entering, own_search, reaches, child_search, turn_child, search_of, search_from}
use Rattle.traversal.specs.Steps.{SearchWithin}
use Rattle.traversal.specs.Spot.{spot_at, fork_of, turn_number, turn_spot, Stood, Forked, search_at, turn_at, sibling_turn, siblings_at, split_at}
use Rattle.traversal.proofs.Laws.Cubes.{half_is}
use Rattle.traversal.proofs.Laws.Search.Turns.{xor_below}
use Rattle.traversal.proofs.Laws.Search.Entered.{reaches_farther, reaches_room, child_barred, child_entered}
use Rattle.traversal.proofs.Laws.Search.Keeps.{turn_within_lem}

-- The root's spot is known.
pub root_stood : (p : Probe) → Fine p → Stood p (spot_at p root_cube)
unfolding spot_at
root_stood p fine = record { fine = fine; within = root_within; near = refl }

module _ {p : Probe} {spot : Spot} {fork : Fork} (f : Forked p spot fork) where
  abbrev half : ℕ
  half = side_at (suc spot.cube.depth)

  abbrev low : Colour
  low = spot.cube.low

  pub fork_half : fork.half ≡ side_at (suc spot.cube.depth)
  unfolding fork_of
  fork_half = ap (λ (x : Fork). x.half) f.is

  fork_first : fork.first ≡ closest_child p.centre half low
  unfolding fork_of
  fork_first = ap (λ (x : Fork). x.first) f.is

  -- The children's numbers.
  pub first_small : fork.first < 8
  first_small = omega (arith, fork_first, closest_child_small p.centre half low)

  pub kid_small : (m : ℕ) → m < 8 → bit_xor fork.first m < 8
  kid_small m h = xor_below fork.first first_small m h

  pub kid_turn : (m : ℕ) → bit_xor fork.first m ≡ turn_number p spot m
  unfolding turn_number turn_child
  kid_turn m = ap (λ (n : ℕ). bit_xor n m) fork_first

  pub kid_first : fork.first ≡ turn_number p spot 0
  kid_first = sym (xor_zero_r fork.first) ∙ kid_turn 0

  -- What the octant adds, by its children's side.
  near_is : spot.near ≡ near_of p (half + half) low
  unfolding depths
  near_is =
      let whole : spot.cube.side ≡ half + half = omega (arith, f.stood.within.sized, side_half spot.cube.depth f.deep) in
      f.stood.near ∙ ap (λ (s : ℕ). near_of p s low) whole

  room : (h : Channel) → (1 ≤ half) × (code_in h low + (half + half) ≤ 65536)
  room = child_room spot.cube half f.stood.within f.deep refl

  -- What its far halves add.
  module _ {far : Squares} (is-far : far ≡ far_of p fork.half spot.cube.low) where
    far_is : far ≡ far_of p half low
    far_is = is-far ∙ ap (λ (s : ℕ). far_of p s low) fork_half

    pub far_rising : NearFar spot.near far
    far_rising =
        subst (λ (x : Squares). NearFar x far) (sym near_is)
        (subst (λ (x : Squares). NearFar (near_of p (half + half) low) x) (sym far_is) (near_far p half low f.stood.fine room))

    -- What the child of turn m adds.
    pub turned_near : (m : ℕ) → turned_by spot.near far m ≡ (turn_spot p spot m).near
    unfolding turn_spot turn_number spot_at child_cube turn_child
    turned_near m = ap₂ (λ (x y : Squares). turned_by x y m) near_is far_is ∙ sym (child_near p half low m (room Channel.Red).0)

  -- At turn 0 that is what the octant adds.
  pub closest_near : spot.near ≡ (turn_spot p spot 0).near
  closest_near = sym (turned_none spot.near (far_of p fork.half low)) ∙ turned_near {far = far_of p fork.half low} refl 0

  -- A spot whose parts are the child's.
  pub spot_is : (m : ℕ) {k : ℕ} {cube : Cube} {near : Squares} → k ≡ turn_number p spot m → cube ≡ child_cube spot.cube k → near ≡ (turn_spot p spot m).near
      → record { cube = cube; near = near } ≡ turn_spot p spot m
  unfolding turn_spot spot_at
  spot_is m e c n = rw (c, n, e)

  -- It adds no more than three squares that fit.
  pub turn_small : (m : ℕ) → SmallSquares (turn_spot p spot m).near
  turn_small m =
      let far : Squares = far_of p fork.half low in
      subst SmallSquares (turned_near {far = far} refl m) (turned_small spot.near far m (far_rising {far = far} refl))

  -- A child is known, and lies one deeper.
  turn_stood : (m : ℕ) → Stood p (turn_spot p spot m)
  unfolding turn_spot spot_at
  turn_stood m = record { fine = f.stood.fine; within = child_within spot.cube _ f.stood.within f.deep; near = refl }

  turn_depth : (m : ℕ) → (turn_spot p spot m).cube.depth ≡ suc spot.cube.depth
  unfolding turn_spot spot_at child_cube
  turn_depth m = refl

-- A turn, by whether the child is entered.
module _ {S : Type 0} (K : Store S) (ws os : List ℕ) (p : Probe) (row : ℕ) (spot : Spot) (m : ℕ) (u : Searching S) where
  abbrev Reached : Bool → Type 0
  Reached r = reaches K (octant_limit current os) (child_at os row (turn_number p spot m)) (sum_by (turn_spot p spot m).near) u ≡ r

  -- The same by the side of the children as a power of 2.
  abbrev j : ℕ
  j = 16 - spot.cube.depth - 1

  abbrev kid : ℕ → ℕ
  kid s = turn_child p.centre s spot.cube.low m

  abbrev kid_low : ℕ → Colour
  kid_low s = child_low s (turn_child p.centre s spot.cube.low m) spot.cube.low

  abbrev entered : ℕ → Bool
  entered s =
      reaches K (octant_limit current os) (child_at os row (turn_child p.centre s spot.cube.low m))
      (distance p (closest p.centre s (child_low s (turn_child p.centre s spot.cube.low m) spot.cube.low))) u

  sized : side_at (suc spot.cube.depth) ≡ 2 ^ j
  sized = half_is spot.cube (side_at (suc spot.cube.depth)) refl

  same_reach : (r : Bool) → Reached r → entered (2 ^ j) ≡ r
  unfolding turn_spot turn_number spot_at child_cube
  same_reach r e =
      let half : ℕ = side_at (suc spot.cube.depth) in
      ap entered (sym sized) ∙ ap (λ (d : ℕ). reaches K (octant_limit current os) (child_at os row (kid half)) d u) (sym (near_sum p half (kid_low half))) ∙ e

  -- What it comes to.
  turn_barred : Reached false → turn_at K ws os p row spot m u ≡ u
  unfolding turn_at
  turn_barred e = child_barred K os p (search_of K ws os p j) (2 ^ j) row spot.cube.low (kid (2 ^ j)) u (same_reach false e)

  turn_entered : Reached true → turn_at K ws os p row spot m u ≡ search_at K ws os p (child_at os row (turn_number p spot m)) (turn_spot p spot m) u
  unfolding turn_at search_at turn_spot turn_number spot_at child_cube
  turn_entered e =
      let deeper : 16 - spot.cube.depth - 1 ≡ 16 - suc spot.cube.depth = omega arith in
      child_entered K os p (search_of K ws os p j) (2 ^ j) row spot.cube.low (kid (2 ^ j)) u (same_reach true e)
      ∙ ap (λ (s : ℕ). search_of K ws os p j (child_at os row (kid s)) (kid_low s) u) (sym sized)
      ∙ ap (λ (i : ℕ). search_of K ws os p i (child_at os row (turn_number p spot m)) (turn_spot p spot m).cube.low u) deeper

-- A turn of a child that does not come before what is kept changes nothing.
pub turn_passed : {S : Type 0} (K : Store S) (ws os : List ℕ) (p : Probe) (row : ℕ) (spot : Spot) (m : ℕ) (u : Searching S)
    → K.closer u.kept (sum_by (turn_spot p spot m).near) (child_at os row (turn_number p spot m)) ≡ false → turn_at K ws os p row spot m u ≡ u
turn_passed K ws os p row spot m u e = turn_barred K ws os p row spot m u (reaches_farther K (octant_limit current os) _ _ u e)

-- What the functions tell of turn m: the child's row, its spot, and whether it is entered.
pub record Told {S : Type 0} (K : Store S) (ws os : List ℕ) (p : Probe) (row : ℕ) (spot : Spot) (m : ℕ) (u : Searching S) (next : ℕ) (to : Spot) (r : Bool)
    : Type 0 where
  pub next_is : next ≡ child_at os row (turn_number p spot m)
  pub to_is : to ≡ turn_spot p spot m
  pub reached : reaches K (octant_limit current os) (child_at os row (turn_number p spot m)) (sum_by (turn_spot p spot m).near) u ≡ r

module _ {S : Type 0} {K : Store S} {ws os : List ℕ} {p : Probe} {row : ℕ} {spot : Spot} {m : ℕ} {u : Searching S} {next : ℕ} {to : Spot} {r : Bool} where
  pub turn_told : next ≡ child_at os row (turn_number p spot m) → to ≡ turn_spot p spot m → {d limit : ℕ} → d ≡ sum_by to.near → limit ≡ octant_limit current os
      → r ≡ reaches K limit next d u → Told K ws os p row spot m u next to r
  turn_told n t {d} {limit} e l w =
      record {
        next_is = n;
        to_is = t;
        reached =
            sym (w ∙ ap (λ (x : ℕ). reaches K x next d u) l
            ∙ ap₂ (λ (x y : ℕ). reaches K (octant_limit current os) x y u) n (e ∙ ap (λ (x : Spot). sum_by x.near) t));
      }

module _ {S : Type 0} {K : Store S} {ws os : List ℕ} {p : Probe} {row : ℕ} {spot : Spot} {m : ℕ} {u : Searching S} {next : ℕ} {to : Spot} where
  pub told_barred : Told K ws os p row spot m u next to false → turn_at K ws os p row spot m u ≡ u
  told_barred t = turn_barred K ws os p row spot m u t.reached

  module _ (t : Told K ws os p row spot m u next to true) where
    pub told_entered : turn_at K ws os p row spot m u ≡ search_at K ws os p next to u
    told_entered =
        turn_entered K ws os p row spot m u t.reached
        ∙ sym (ap₂ (λ (x : ℕ) (y : Spot). search_at K ws os p x y u) t.next_is t.to_is)

    pub told_room : (next < octant_limit current os) × (u.entered < octant_limit current os)
    told_room =
        let room = reaches_room K (octant_limit current os) _ _ u t.reached in
        (subst (λ (n : ℕ). n < octant_limit current os) (sym t.next_is) room.0, room.1)

    pub told_stood : {fork : Fork} → Forked p spot fork → Stood p to
    told_stood f = subst (Stood p) (sym t.to_is) (turn_stood f m)

    pub told_depth : {fork : Fork} → Forked p spot fork → to.cube.depth ≡ suc spot.cube.depth
    told_depth f = ap (λ (x : Spot). x.cube.depth) t.to_is ∙ turn_depth f m

-- What an octant's search is, by whether it is gone through sample by sample.
module _ {S : Type 0} (K : Store S) (ws os : List ℕ) (p : Probe) (row : ℕ) (spot : Spot) (s : Searching S) where
  abbrev ends : ℕ → Bool
  ends left = ends_at left false (octant_field current os row Count) (settings_in current ws).bucket

  abbrev pub EndsHere : Bool → Type 0
  EndsHere r = ends_at (16 - spot.cube.depth) false (octant_field current os row Count) (settings_in current ws).bucket ≡ r

  pub search_own : EndsHere true → search_at K ws os p row spot s ≡ own_search K ws os row (search_entering s)
  unfolding search_at search_of
  search_own e = go (16 - spot.cube.depth) e
    where
      go : (left : ℕ) → ends left ≡ true → search_of K ws os p left row spot.cube.low s ≡ own_search K ws os row (search_entering s)
      go zero e = refl
      go (suc left) e = rw (e, search_of)

  -- A split octant has depths below it, and its search is the turn of the closest child and then those of the siblings.
  pub search_deep : EndsHere false → spot.cube.depth < 16
  unfolding ends_at
  search_deep e = omega (arith, go (16 - spot.cube.depth) e)
    where
      go : (left : ℕ) → ends left ≡ false → 1 ≤ left
      go zero e = absurd (true≢false e)
      go (suc left) e = omega arith

  abbrev turns : ℕ → ℕ → Searching S → Searching S
  turns j m = child_search K os p (search_of K ws os p j) (2 ^ j) row spot.cube.low (turn_child p.centre (2 ^ j) spot.cube.low m)

  all_turns : EndsHere false → search_at K ws os p row spot s ≡ in_turn (turn_at K ws os p row spot) children (search_entering s)
  unfolding search_at search_of turn_at ends_at
  all_turns e = go (16 - spot.cube.depth) e
    where
      go : (left : ℕ) → ends left ≡ false → search_of K ws os p left row spot.cube.low s ≡ in_turn (turns (left - 1)) children (search_entering s)
      go zero e = absurd (true≢false e)
      go (suc left) e = rw (sub-one, e, search_of)

  siblings_after : (n : ℕ) (u : Searching S)
      → in_turn (turn_at K ws os p row spot) (suc n) u ≡ in_turn (sibling_turn K ws os p row spot) (suc n) (turn_at K ws os p row spot 0 u)
  unfolding in_turn sibling_turn
  siblings_after zero u = refl
  siblings_after (suc n) u = ap (turn_at K ws os p row spot (suc n)) (siblings_after n u)

  pub search_split : EndsHere false → search_at K ws os p row spot s ≡ split_at K ws os p row spot (search_entering s)
  unfolding split_at siblings_at children
  search_split e = all_turns e ∙ siblings_after 7 (search_entering s)

-- The whole search, by whether the root is there.
module _ {S : Type 0} (K : Store S) (ws os : List ℕ) (p : Probe) (start : S) where
  pub search_nothing : octant_limit current os ≤ 0 → search_from K ws os p start ≡ no_search start
  unfolding search_from
  search_nothing h = rw (le-ltb 0 (octant_limit current os) h, search_from)

  pub search_root : 0 < octant_limit current os → search_from K ws os p start ≡ search_at K ws os p 0 (spot_at p root_cube) (no_search start)
  unfolding search_from search_at spot_at root_cube depths
  search_root h = rw (lt-ltb 0 (octant_limit current os) h, search_from)

-- A turn stays within the bounds.
pub turn_at_within : {S : Type 0} (K : Store S) (ws os : List ℕ) (p : Probe) (row : ℕ) (spot : Spot) (m : ℕ) {u : Searching S}
    → SearchWithin (sample_budget current ws) (octant_limit current os) u
    → SearchWithin (sample_budget current ws) (octant_limit current os) (turn_at K ws os p row spot m u)
unfolding turn_at
turn_at_within K ws os p row spot m {u} h = turn_within_lem K ws os p _ row spot.cube.low _ u h

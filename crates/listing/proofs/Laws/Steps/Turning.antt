-- The loop over the children that overlap: those before `done` were visited or found not to be entered, and the others are still to
-- come.
use Prim.Native.Nat.{ℕ, suc, ◌+◌, ◌^◌, ◌≤◌}
use mathlib.Core.Bool.{Bool, true, false, ◌&&◌}
use mathlib.Core.List.{List, [], ◌∷◌, ◌++◌}
use mathlib.Core.Path.{◌≡◌, refl, sym, ap, ap₂, ◌∙◌, subst}
use native.Mathlib.Nat.{add-zero}
use native.Mathlib.Omega.{arith}
use lib.Dec.{leb, ltb}
use lib.ListN.{length, length-append}
use lib.Seq.{sets}
use Rattle.colour.specs.Channels.{Colour}
use Rattle.colour.specs.declared.Region.{Region}
use Rattle.colour.specs.Octant.{children, child_low}
use Rattle.colour.specs.Mask.{mask_of, overlap_mask}
use Rattle.colour.specs.Region.{overlaps}
use Rattle.colour.proofs.Laws.Mask.{from, mask_start}
use Rattle.model.specs.Layout.{current}
use Rattle.words.specs.Rows.{octant_limit, sample_budget}
use Rattle.traversal.specs.Children.{child_at}
use Rattle.traversal.specs.Places.{children_in}
use Rattle.traversal.proofs.Laws.Places.{NextChild, next_child, no_child}
use Rattle.listing.specs.Pass.{Tally, Visit, nothing, and_then, visit_each, child_visit, visit_of}
use Rattle.listing.specs.declared.tally.Tally as Lent
use Rattle.listing.specs.Steps.{TallyWithin, tally_of, tally_in, Counting, Visited}
use Rattle.listing.proofs.Laws.Pass.Turns.{then_nothing, turn_more, turn_none, turns_skipped, apart_from, barred, let_in, turned_off, turned_in}
use Rattle.listing.proofs.Laws.Pass.Bounds.{Bounded, turns_bounded, child_bounded, visit_bounded}

sets_append : (l : List ℕ) (i : ℕ) (a b : List ℕ) → sets l i (a ++ b) ≡ sets (sets l i a) (i + length a) b
sets_append l i [] b = ap (λ (k : ℕ). sets l k b) (sym (add-zero i))
sets_append l i (x ∷ a) b = sets_append _ (suc i) a b ∙ ap (λ (k : ℕ). sets (sets l i (x ∷ a)) k b) (omega arith)

-- A visit that was made leaves a tally within the bounds.
module _ {ws os : List ℕ} {lent : Lent.Tally} (c : Counting ws os lent) where
  pub visited_counting : {v : Visit} {lent' : Lent.Tally} {listing listing' : List ℕ}
      → Bounded (sample_budget current ws) (octant_limit current os) (tally_in lent) v → Visited v lent listing lent' listing' → Counting ws os lent'
  visited_counting {v} {lent'} b d =
      let said : tally_in lent' ≡ v.after = ap tally_in d.tally in
      record {
        small = c.small;
        limits = subst (TallyWithin (sample_budget current ws) (octant_limit current os)) (sym said) b.limits;
        listed = omega (arith, ap (λ (t : Lent.Tally). t.listed) d.tally, ap (λ (t : Lent.Tally). t.visited) d.tally, c.listed, b.listed);
      }

-- Nothing was visited; one visit after another.
pub visited_nothing : (lent : Lent.Tally) (listing : List ℕ) → Visited (nothing (tally_in lent)) lent listing lent listing
unfolding nothing
visited_nothing lent listing =
    record { tally = ap (λ (n : ℕ). tally_of n (tally_in lent)) (sym (add-zero lent.listed)); tags = refl }

visited_then : (f : Tally → Visit) {v : Visit} {lent₀ lent lent' : Lent.Tally} {listing₀ listing listing' : List ℕ} → Visited v lent₀ listing₀ lent listing
    → Visited (f v.after) lent listing lent' listing' → Visited (and_then v f) lent₀ listing₀ lent' listing'
unfolding and_then
visited_then f {v} {lent₀} {lent} {lent'} {listing₀} {listing} {listing'} d e =
    let n : ℕ = lent₀.listed in
    let w : Visit = f v.after in
    let many : lent.listed ≡ n + length v.tags = ap (λ (t : Lent.Tally). t.listed) d.tally in
    record {
      tally =
          e.tally
          ∙ ap (λ (k : ℕ). tally_of k w.after) (omega (arith, many, length-append v.tags w.tags));
      tags =
          e.tags
          ∙ ap₂ (λ (l : List ℕ) (k : ℕ). sets l k w.tags) d.tags many
          ∙ sym (sets_append listing₀ n v.tags w.tags);
    }

module _ (ws os : List ℕ) (R : Region) (j row : ℕ) (low : Colour) where
  -- Whether child k overlaps, and its visit where it is entered.
  abbrev pub meets : ℕ → Bool
  meets k = overlaps R (2 ^ j) (child_low (2 ^ j) k low)

  abbrev pub turn : ℕ → Tally → Visit
  turn = child_visit os R (visit_of ws os R j) (2 ^ j) row low

  -- The row of child k, and whether it may be entered.
  abbrev pub at : ℕ → ℕ
  at k = child_at os row k

  abbrev pub allowed : ℕ → Tally → Bool
  allowed k u = leb u.next (at k) && ltb (at k) (octant_limit current os)

  turn_apart : (k : ℕ) → meets k ≡ false → (u : Tally) → turn k u ≡ nothing u
  turn_apart k e u = turned_off os R _ (2 ^ j) row low k u (apart_from os R (2 ^ j) (child_low (2 ^ j) k low) (at k) u e)

  turn_barred : (k : ℕ) (u : Tally) → allowed k u ≡ false → turn k u ≡ nothing u
  turn_barred k u e = turned_off os R _ (2 ^ j) row low k u (barred os R (2 ^ j) (child_low (2 ^ j) k low) (at k) u e)

  turn_entered : (k : ℕ) (u : Tally) → meets k ≡ true → allowed k u ≡ true → turn k u ≡ visit_of ws os R j (at k) (child_low (2 ^ j) k low) u
  turn_entered k u m e = turned_in os R _ (2 ^ j) row low k u (let_in os R (2 ^ j) (child_low (2 ^ j) k low) (at k) u m e)

  -- Where the loop stands, with a tally and a listing as they were before it.
  pub record Turning (lent₀ : Lent.Tally) (listing₀ : List ℕ) (ahead : List ℕ) (lent : Lent.Tally) (listing : List ℕ) : Type 0 where
    pub done : ℕ
    pub few : done ≤ 8
    pub left : ahead ≡ children_in (mask_of (from done meets) 8)
    pub visited : Visited (visit_each turn done (tally_in lent₀)) lent₀ listing₀ lent listing

  pub turning_begins : (lent : Lent.Tally) (listing ahead : List ℕ) (mask : ℕ) → ahead ≡ children_in mask → mask ≡ overlap_mask R (2 ^ j) low
      → Turning lent listing ahead lent listing
  unfolding overlap_mask children
  turning_begins lent listing ahead mask given e =
      record {
        done = 0;
        few = omega arith;
        left = given ∙ ap children_in (e ∙ sym (mask_start meets 8));
        visited = subst (λ (v : Visit). Visited v lent listing lent listing) (sym (turn_none turn (tally_in lent))) (visited_nothing lent listing);
      }

  module _ {lent₀ lent : Lent.Tally} {listing₀ listing ahead : List ℕ} (g : Turning lent₀ listing₀ ahead lent listing) where
    -- All that overlap were taken.
    pub turning_ends : ahead ≡ [] → Visited (visit_each turn children (tally_in lent₀)) lent₀ listing₀ lent listing
    unfolding children
    turning_ends none =
        subst (λ (v : Visit). Visited v lent₀ listing₀ lent listing)
        (sym (turns_skipped turn (tally_in lent₀) g.done 8 g.few
        (λ i a b u. turn_apart i (no_child meets g.done g.left none i a b) u)))
        g.visited

    -- The next one.
    module _ {k : ℕ} {ahead' : List ℕ} (step : ahead ≡ k ∷ ahead') where
      pub is_first : NextChild meets g.done k ahead'
      is_first = next_child meets g.done g.left step

      -- Whether it may be entered, as the function says.
      pub allowed_is : (row' limit : ℕ) (r : Bool) → row' ≡ at k → limit ≡ octant_limit current os
          → r ≡ (leb (tally_in lent).next row' && ltb row' limit) → allowed k (tally_in lent) ≡ r
      allowed_is row' limit r e f told = sym (told ∙ ap₂ (λ (x y : ℕ). leb (tally_in lent).next x && ltb x y) e f)

      up_to : visit_each turn k (tally_in lent₀) ≡ visit_each turn g.done (tally_in lent₀)
      up_to = turns_skipped turn (tally_in lent₀) g.done k is_first.least (λ i a b u. turn_apart i (is_first.skipped i a b) u)

      tally_so_far : tally_in lent ≡ (visit_each turn g.done (tally_in lent₀)).after
      tally_so_far = ap tally_in g.visited.tally

      -- It may not be entered.
      pub turning_barred : allowed k (tally_in lent) ≡ false → Turning lent₀ listing₀ ahead' lent listing
      turning_barred e =
          let v : Visit = visit_each turn k (tally_in lent₀) in
          let same : visit_each turn (suc k) (tally_in lent₀) ≡ visit_each turn g.done (tally_in lent₀) =
          turn_more turn (tally_in lent₀) k
          ∙ then_nothing v (turn k) (turn_barred k v.after (ap (allowed k) (ap (λ (w : Visit). w.after) up_to ∙ sym tally_so_far) ∙ e))
          ∙ up_to in
          record {
            done = suc k;
            few = is_first.below;
            left = is_first.rest;
            visited = subst (λ (w : Visit). Visited w lent₀ listing₀ lent listing) (sym same) g.visited;
          }

      -- It was visited.
      pub turning_visited : {lent' : Lent.Tally} {listing' : List ℕ} → allowed k (tally_in lent) ≡ true
          → Visited (visit_of ws os R j (at k) (child_low (2 ^ j) k low) (tally_in lent)) lent listing lent' listing'
          → Turning lent₀ listing₀ ahead' lent' listing'
      turning_visited {lent'} {listing'} e d =
          let v : Visit = visit_each turn g.done (tally_in lent₀) in
          let own : Visited (turn k v.after) lent listing lent' listing' =
          subst (λ (u : Tally). Visited (turn k u) lent listing lent' listing') tally_so_far
          (subst (λ (w : Visit). Visited w lent listing lent' listing') (sym (turn_entered k (tally_in lent) is_first.is e)) d) in
          let same : visit_each turn (suc k) (tally_in lent₀) ≡ and_then v (turn k) =
          turn_more turn (tally_in lent₀) k ∙ ap (λ (w : Visit). and_then w (turn k)) up_to in
          record {
            done = suc k;
            few = is_first.below;
            left = is_first.rest;
            visited = subst (λ (w : Visit). Visited w lent₀ listing₀ lent' listing') (sym same) (visited_then (turn k) g.visited own);
          }

    -- The tally is within the bounds.
    pub turning_counting : Counting ws os lent₀ → Counting ws os lent
    turning_counting c =
        visited_counting c
        (turns_bounded (sample_budget current ws) (octant_limit current os) turn
        (child_bounded ws os R (visit_of ws os R j) (2 ^ j) row low (λ a l u. visit_bounded ws os R j a l u)) g.done (tally_in lent₀) c.limits)
        g.visited

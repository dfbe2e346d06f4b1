-- On sound tables the visit of an octant lists its samples that are in the region, in the order, and enters and measures what document 01 says.
use Prim.Native.Nat.{ℕ, zero, suc, ◌+◌, ◌^◌, ◌≤◌, ◌<◌}
use mathlib.Core.Bool.{Bool, true, false, ◌||◌, true≢false}
use mathlib.Core.List.{List, [], ◌∷◌, ◌++◌}
use mathlib.Core.Path.{◌≡◌, refl, sym, ap, ap₂, ◌∙◌, subst}
use native.Mathlib.Numerals.{sub-one}
use native.Mathlib.Omega.{arith}
use borrow.Author.Tests.{lt-ltb, le-ltb, leb-true, leb-false}
use lib.Dec.{leb}
use lib.ListN.{length}
use Rattle.colour.specs.declared.Settings.{Settings}
use Rattle.colour.specs.Channels.{Colour}
use Rattle.colour.specs.declared.Region.{Region}
use Rattle.colour.specs.Octant.{children, child_low}
use Rattle.colour.specs.Region.{overlaps, inside}
use Rattle.model.specs.Lists.{keep, joined, total}
use Rattle.model.specs.SampleSet.{Placed, part, splits, order_of, octants_of}
use Rattle.model.specs.Layout.{current}
use Rattle.model.specs.Tables.{pair, child_row, row_or_none, octant_word}
use Rattle.model.specs.Queries.{Counts, no_counts, visit}
use Rattle.model.specs.Machine.{Machine}
use Rattle.model.specs.Sound.{Shows}
use Rattle.std.proofs.lemmas.List.{nil_from_length}
use Rattle.model.proofs.Tree.Cubes.{below}
use Rattle.model.proofs.Tree.Order.{order_of_length, parts_length}
use Rattle.model.proofs.Tree.Splits.{order_split, octants_split, child_within}
use Rattle.octree.proofs.Laws.Tables.Check.{settings_shown}
use Rattle.listing.specs.Pass.{Tally, Visit, tally_entering, enters, nothing, and_then, visit_each, child_visit, ends, visit_of}
use Rattle.listing.proofs.Laws.Pass.Turns.{passed_by, apart_from, goes_in, turned_off, turned_in}
use Rattle.traversal.specs.Own.{ends_at}
use Rattle.traversal.specs.Children.{child_at}
use Rattle.traversal.proofs.Laws.Sound.Shown.{limit_shown}
use Rattle.traversal.proofs.Laws.Sound.Held.{held_count}
use Rattle.traversal.proofs.Laws.Sound.Standing.{child_row_lem, child_stands, octants_some}
use Rattle.listing.proofs.Laws.Sound.Counted.{child_counts, visit_empty, visit_misses, visit_split}
use Rattle.listing.proofs.Laws.Sound.Own.{listed_of, listed_append, Stands, Agrees, none_listed, ended_agrees}

module _ (ws os : List ℕ) (m : Machine) (shows : Shows current m (pair ws os)) (R : Region) where
  abbrev b : ℕ
  b = m.set.settings.bucket

  abbrev n : ℕ
  n = length m.set.samples

  abbrev Standing : ℕ → Colour → List Placed → ℕ → Tally → Type 0
  Standing = Stands ws os m shows R

  abbrev Agreeing : ℕ → Colour → List Placed → ℕ → Tally → Visit → Type 0
  Agreeing = Agrees ws os m shows R

  abbrev tags_in : List Placed → List ℕ
  tags_in = listed_of ws os m shows R

  -- The children of a split octant of side 2 ^ suc j, with what a visit of one below it comes to.
  module _ (j : ℕ) (low : Colour) (xs : List Placed) (at : ℕ) (t : Tally) (st : Standing (suc j) low xs at t) (split : splits b (suc j) xs ≡ true)
      (ih : (l : Colour) (zs : List Placed) (row : ℕ) (u : Tally) → Standing j l zs row u → Agreeing j l zs row u (visit_of ws os R j row l u)) where
    abbrev kid : ℕ → List Placed
    kid k = part j k xs

    abbrev turn : ℕ → Tally → Visit
    turn = child_visit os R (visit_of ws os R j) (2 ^ j) at low

    -- What child k adds to a tally.
    record Adds (k : ℕ) (u : Tally) (v : Visit) : Type 0 where
      tags : v.tags ≡ tags_in (order_of b j (kid k))
      entered : v.after.entered ≡ u.entered + (child_counts R b j low xs k).entered
      measured : v.after.measured ≡ u.measured + (child_counts R b j low xs k).measured
      past : at < v.after.next
      next : v.after.next ≤ child_row b j at xs (suc k)
      visited : v.after.visited ≤ u.visited + length (kid k)

    rows_grow : (k : ℕ) → child_row b j at xs (suc k) ≡ child_row b j at xs k + octants_of b j (kid k)
    unfolding child_row total
    rows_grow k = omega arith

    -- A child that is not entered adds nothing.
    adds_nothing : (k : ℕ) (u : Tally) → at < u.next → u.next ≤ child_row b j at xs k → tags_in (order_of b j (kid k)) ≡ []
        → child_counts R b j low xs k ≡ no_counts → Adds k u (nothing u)
    unfolding nothing no_counts
    adds_nothing k u p h e c =
        record {
          tags = sym e;
          entered = omega (arith, ap (λ (x : Counts). x.entered) c);
          measured = omega (arith, ap (λ (x : Counts). x.measured) c);
          past = p;
          next = omega (arith, rows_grow k);
          visited = omega arith;
        }

    -- A child that is entered: it stands in the tree, and what its visit comes to is what it adds.
    kid_stands : (k : ℕ) → k < children → (u : Tally) → 1 ≤ length (kid k) → overlaps R (2 ^ j) (child_low (2 ^ j) k low) ≡ true
        → u.visited + length (kid k) ≤ n → Standing j (child_low (2 ^ j) k low) (kid k) (child_row b j at xs k) u
    kid_stands k l u g o r = record { stands = child_stands ws os m shows st.stands split k l u.visited g r; meets = o }

    -- The bounds never keep it out.
    pub never_barred : (k : ℕ) (l : k < children) (u : Tally) → 1 ≤ length (kid k) → overlaps R (2 ^ j) (child_low (2 ^ j) k low) ≡ true
        → u.visited + length (kid k) ≤ n → child_at os at k ≡ child_row b j at xs k → u.next ≤ child_row b j at xs k
        → enters os R (2 ^ j) (child_low (2 ^ j) k low) (child_at os at k) u ≡ true
    never_barred k l u g o r w h =
        goes_in _ _ _ _ _ _ o (omega (arith, w))
        (omega (arith, w, (kid_stands k l u g o r).stands.within, octants_some b j (kid k) g, limit_shown ws os m shows))

    adds_visited : (k : ℕ) (u : Tally) → at < u.next → u.next ≤ child_row b j at xs k → {v : Visit}
        → Agreeing j (child_low (2 ^ j) k low) (kid k) (child_row b j at xs k) u v → Adds k u v
    adds_visited k u p h a =
        record {
          tags = a.tags;
          entered = a.entered;
          measured = a.measured;
          past = omega (arith, a.past);
          next = omega (arith, a.next, rows_grow k);
          visited = a.visited;
        }

    child_adds : (k : ℕ) → k < children → (u : Tally) → at < u.next → u.next ≤ child_row b j at xs k → u.visited + length (kid k) ≤ n
        → Adds k u (turn k u)
    unfolding row_or_none keep
    child_adds k l u p h r = go (kid k) refl
      where
        none : kid k ≡ [] → Adds k u (turn k u)
        none e =
            let w : child_at os at k ≡ 0 = child_row_lem ws os m shows st.stands split k l ∙ ap (row_or_none (child_row b j at xs k)) e in
            let off : enters os R (2 ^ j) (child_low (2 ^ j) k low) (child_at os at k) u ≡ false = passed_by _ _ _ _ _ _ w (omega arith) in
            subst (Adds k u) (sym (turned_off _ _ _ _ _ _ _ _ off))
            (adds_nothing k u p h
            (ap (λ (zs : List Placed). tags_in (order_of b j zs)) e ∙ ap tags_in (nil_from_length (order_of b j []) (order_of_length b j [])))
            (ap (visit R b j (child_low (2 ^ j) k low)) e ∙ visit_empty R b j (child_low (2 ^ j) k low)))

        some : 1 ≤ length (kid k) → child_at os at k ≡ child_row b j at xs k → (q : Bool)
            → overlaps R (2 ^ j) (child_low (2 ^ j) k low) ≡ q → Adds k u (turn k u)
        some g w false o =
            subst (Adds k u) (sym (turned_off _ _ _ _ _ _ _ _ (apart_from _ _ _ _ _ _ o)))
            (adds_nothing k u p h (none_listed ws os m shows R (below k l st.stands.reached) o) (visit_misses R b j (child_low (2 ^ j) k low) (kid k) o))
        some g w true o =
            let d = kid_stands k l u g o r in
            let on = never_barred k l u g o r w h in
            subst (Adds k u) (sym (turned_in _ _ _ _ _ _ _ _ on))
            (subst (λ (row : ℕ). Adds k u (visit_of ws os R j row (child_low (2 ^ j) k low) u)) (sym w)
            (adds_visited k u p h (ih (child_low (2 ^ j) k low) (kid k) (child_row b j at xs k) u d)))

        go : (zs : List Placed) → kid k ≡ zs → Adds k u (turn k u)
        go [] e = none e
        go (z ∷ zs) e =
            some (omega (arith, ap length e)) (child_row_lem ws os m shows st.stands split k l ∙ ap (row_or_none (child_row b j at xs k)) e)
            (overlaps R (2 ^ j) (child_low (2 ^ j) k low)) refl

    record Turned (k : ℕ) (w : Visit) : Type 0 where
      tags : w.tags ≡ tags_in (joined (λ i. order_of b j (kid i)) k)
      entered : w.after.entered ≡ suc t.entered + total (λ i. (child_counts R b j low xs i).entered) k
      measured : w.after.measured ≡ t.measured + total (λ i. (child_counts R b j low xs i).measured) k
      past : at < w.after.next
      next : w.after.next ≤ child_row b j at xs k
      visited : w.after.visited ≤ t.visited + total (λ i. length (kid i)) k

    turn_adds : (k : ℕ) (w v : Visit) → Turned k w → Adds k w.after v → Turned (suc k) (record { tags = w.tags ++ v.tags; after = v.after })
    unfolding joined total
    turn_adds k w v d a =
        record {
          tags =
              ap₂ (λ (x y : List ℕ). x ++ y) d.tags a.tags
              ∙ sym (listed_append ws os m shows R (joined (λ i. order_of b j (kid i)) k) (order_of b j (kid k)));
          entered = omega (arith, d.entered, a.entered);
          measured = omega (arith, d.measured, a.measured);
          past = a.past;
          next = a.next;
          visited = omega (arith, d.visited, a.visited);
        }

    turns : (k : ℕ) → k ≤ children → Turned k (visit_each turn k (tally_entering at t))
    unfolding visit_each nothing and_then tally_entering joined total keep child_row
    turns zero l =
        record { tags = refl; entered = omega arith; measured = omega arith; past = omega arith; next = omega arith; visited = omega arith }
    turns (suc k) l =
        let w = turns k (omega arith) in
        turn_adds k (visit_each turn k (tally_entering at t)) (turn k (visit_each turn k (tally_entering at t)).after) w
        (child_adds k l (visit_each turn k (tally_entering at t)).after w.past w.next (omega (arith, w.visited, child_within j k xs l, st.stands.room)))

    -- All of them: the octant's own visit.
    split_agrees : inside R (2 ^ suc j) low ≡ false → Agreeing (suc j) low xs at t (visit_each turn children (tally_entering at t))
    unfolding child_row
    split_agrees i =
        let w = turns children (omega arith) in
        let c = visit_split R b j low xs st.stands.some st.meets i split in
        record {
          tags = w.tags ∙ ap tags_in (sym (order_split b (suc j) xs split ∙ rw sub-one));
          entered = omega (arith, w.entered, ap (λ (x : Counts). x.entered) c);
          measured = omega (arith, w.measured, ap (λ (x : Counts). x.measured) c);
          past = w.past;
          next = omega (arith, w.next, rw sub-one at (octants_split b (suc j) xs split));
          visited = omega (arith, w.visited, parts_length j xs);
        }

  -- Whether the octant is gone through sample by sample, by its row's words and by the samples that it holds.
  ends_is : (j : ℕ) (low : Colour) (xs : List Placed) (at : ℕ) (t : Tally) → Standing (suc j) low xs at t
      → ends ws os R (suc j) at low ≡ (inside R (2 ^ suc j) low || leb (length xs) b)
  unfolding ends ends_at octant_word
  ends_is j low xs at t st =
      ap₂ (λ (x y : ℕ). inside R (2 ^ suc j) low || leb x y) (held_count os b (suc j) at xs st.stands.held st.stands.some) (ap (λ (s : Settings). s.bucket) (settings_shown ws os m shows))

  pub visit_agrees : (j : ℕ) (low : Colour) (xs : List Placed) (at : ℕ) (t : Tally) → Standing j low xs at t → Agreeing j low xs at t (visit_of ws os R j at low t)
  unfolding visit_of splits
  visit_agrees zero low xs at t st = ended_agrees ws os m shows R zero low xs at t st (λ e. refl)
  visit_agrees (suc j) low xs at t st = go (inside R (2 ^ suc j) low) (leb (length xs) b) refl refl (visit_agrees j)
    where
      go : (i f : Bool) → inside R (2 ^ suc j) low ≡ i → leb (length xs) b ≡ f
          → ((l : Colour) (zs : List Placed) (row : ℕ) (u : Tally) → Standing j l zs row u → Agreeing j l zs row u (visit_of ws os R j row l u))
          → Agreeing (suc j) low xs at t (visit_of ws os R (suc j) at low t)
      go true f d e ih =
          let on : ends ws os R (suc j) at low ≡ true = ends_is j low xs at t st ∙ rw d in
          rw (on, visit_of) (ended_agrees ws os m shows R (suc j) low xs at t st (λ z. absurd (true≢false (sym d ∙ z))))
      go false true d e ih =
          let on : ends ws os R (suc j) at low ≡ true = ends_is j low xs at t st ∙ rw (d, e) in
          rw (on, visit_of) (ended_agrees ws os m shows R (suc j) low xs at t st (λ z. le-ltb b (length xs) (leb-true _ _ e)))
      go false false d e ih =
          let off : ends ws os R (suc j) at low ≡ false = ends_is j low xs at t st ∙ rw (d, e) in
          rw (off, visit_of) (split_agrees j low xs at t st (lt-ltb b (length xs) (leb-false _ _ e)) ih d)

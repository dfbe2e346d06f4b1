-- On sound tables the search of an octant keeps what taking all its samples in the order would keep; and so does the whole search.
use Prim.Native.Nat.{ℕ, zero, suc, ◌+◌, ◌^◌, ◌≤◌, ◌<◌}
use mathlib.Core.Bool.{Bool, true, false}
use mathlib.Core.List.{List, [], ◌∷◌}
use mathlib.Core.Path.{◌≡◌, refl, sym, ap, ap₂, ◌∙◌}
use native.Mathlib.Numerals.{sub-one}
use native.Mathlib.Omega.{arith}
use borrow.Author.Tests.{lt-ltb, le-ltb, leb-true, leb-false}
use lib.Bits.{bit_xor}
use lib.Dec.{leb}
use lib.ListN.{length}
use Rattle.colour.specs.Channels.{Colour}
use Rattle.colour.specs.declared.Probe.{Probe}
use Rattle.colour.specs.declared.Settings.{Settings}
use Rattle.colour.specs.Colour.{black}
use Rattle.colour.specs.Octant.{depths, children}
use Rattle.colour.specs.Nearby.{closest_child}
use Rattle.traversal.proofs.Laws.Nearby.{closest_child_small}
use Rattle.model.specs.Lists.{total}
use Rattle.model.specs.SampleSet.{Placed, placed, part, splits, octants_of, octants}
use Rattle.model.specs.Layout.{Count, current}
use Rattle.model.specs.Tables.{pair, child_row, octant_word}
use Rattle.model.specs.Machine.{Machine}
use Rattle.model.specs.Sound.{Shows}
use Rattle.model.proofs.Lists.{total_past}
use Rattle.model.proofs.Tree.Order.{parts_length}
use Rattle.model.proofs.Tree.Octants.{no_octants}
use Rattle.model.proofs.Tree.Splits.{octants_split, octants_within}
use Rattle.octree.proofs.Laws.Tables.Check.{settings_shown}
use Rattle.words.specs.Rows.{settings_in, octant_field, octant_limit}
use Rattle.traversal.specs.Own.{ends_at}
use Rattle.traversal.specs.Turns.{in_turn}
use Rattle.traversal.specs.Search.{Store, Searching, search_entering, child_search, turn_child, search_of, no_search, search_from}
use Rattle.traversal.proofs.Laws.Sound.Shown.{limit_shown}
use Rattle.traversal.proofs.Laws.Sound.Held.{held_count}
use Rattle.traversal.proofs.Laws.Sound.Standing.{octants_some, root_stands}
use Rattle.traversal.proofs.Laws.Search.Turns.{xor_below, children_turned, total_children}
use Rattle.traversal.proofs.Laws.Kept.Labels.{child_labels, labelled, labelled_none, labelled_split}
use Rattle.traversal.proofs.Laws.Kept.Folds.{Takes, measured}
use Rattle.traversal.proofs.Laws.Kept.Own.{Stands, Agrees, Owns, own_agrees}
use Rattle.traversal.proofs.Laws.Kept.Children.{turns_measured, child_measured, children_commute}
use Rattle.traversal.proofs.Laws.Kept.Child.{child_adds}

module _ {S : Type 0} (K : Store S) (T : Takes K) (ws os : List ℕ) (m : Machine) (shows : Shows current m (pair ws os)) (p : Probe)
    (owns : Owns K T ws os m shows p) (small_top : octants m.set ≤ T.top) where
  abbrev b : ℕ
  b = m.set.settings.bucket

  abbrev Standing : ℕ → Colour → List Placed → ℕ → Searching S → Type 0
  Standing = Stands K T ws os m shows p

  abbrev Agreeing : ℕ → List Placed → ℕ → Searching S → Searching S → Type 0
  Agreeing = Agrees K T ws os m shows p

  -- The children of a split octant of side 2 ^ suc j, with what a search of one below it comes to.
  module _ (j : ℕ) (low : Colour) (xs : List Placed) (at : ℕ) (s : Searching S) (st : Standing (suc j) low xs at s) (split : splits b (suc j) xs ≡ true)
      (ih : (l : Colour) (zs : List Placed) (row : ℕ) (u : Searching S) → Standing j l zs row u → Agreeing j zs row u (search_of K ws os p j row l u)) where
    abbrev kid : ℕ → List Placed
    kid k = part j k xs

    abbrev turn : ℕ → Searching S → Searching S
    turn = child_search K os p (search_of K ws os p j) (2 ^ j) at low

    abbrev Adds : ℕ → Searching S → Searching S → Type 0
    Adds k u v = Agreeing j (kid k) (child_row b j at xs k) u v

    -- The child of turn i: the closest one first.
    abbrev first : ℕ
    first = closest_child p.centre (2 ^ j) low

    abbrev σ : ℕ → ℕ
    σ i = bit_xor first i

    -- It is one of the eight.
    small : first < 8
    small = closest_child_small p.centre (2 ^ j) low

    -- Its children's rows are below the top.
    kids_fit : (k : ℕ) → k < children → child_row b j at xs k + octants_of b j (kid k) ≤ T.top
    unfolding child_row
    kids_fit k l = omega (arith, rw sub-one at (octants_within b (suc j) k xs split l), st.stands.within, small_top)

    -- What the first k turns come to.
    record Turned (k : ℕ) (w : Searching S) : Type 0 where
      kept : w.kept ≡ in_turn (λ i. child_measured K T p b j at xs (σ i)) k s.kept
      entered : w.entered ≤ suc s.entered + total (λ i. octants_of b j (kid (σ i))) k
      visited : w.visited ≤ s.visited + total (λ i. length (kid (σ i))) k

    -- One turn more.
    turn_adds : (k : ℕ) (w v : Searching S) → Turned k w → Adds (σ k) w v → Turned (suc k) v
    unfolding in_turn total
    turn_adds k w v d a =
        record {
          kept = a.kept ∙ ap (child_measured K T p b j at xs (σ k)) d.kept;
          entered = omega (arith, d.entered, a.entered);
          visited = omega (arith, d.visited, a.visited);
        }

    -- The octants and the samples of all children, in the sequence of the turns.
    octants_turned : suc (total (λ i. octants_of b j (kid (σ i))) children) ≡ octants_of b (suc j) xs
    octants_turned =
        omega (arith, total_children first small (λ k. octants_of b j (kid k)), rw sub-one at (octants_split b (suc j) xs split))

    samples_turned : total (λ i. length (kid (σ i))) children ≡ length xs
    samples_turned = total_children first small (λ k. length (kid k)) ∙ parts_length j xs

    -- The first k turns come to that.
    turns : (k : ℕ) → k ≤ children → Turned k (in_turn (λ i. turn (σ i)) k (search_entering s))
    unfolding in_turn total search_entering children
    turns zero l = record { kept = refl; entered = omega arith; visited = omega arith }
    turns (suc k) l =
        let u : Searching S = in_turn (λ i. turn (σ i)) k (search_entering s) in
        let w = turns k (omega arith) in
        turn_adds k u (turn (σ k) u) w
        (child_adds K T ws os m shows p j low xs at s st split ih (σ k) (xor_below first small k l) u
        (omega (arith, w.visited, total_past (λ i. length (kid (σ i))) k children l, samples_turned, st.stands.room))
        (omega (arith, w.entered, total_past (λ i. octants_of b j (kid (σ i))) k children l, octants_turned, st.room)))

    -- All of them: the octant's own search.
    split_agrees : Agreeing (suc j) xs at s (in_turn (λ i. turn (σ i)) children (search_entering s))
    split_agrees =
        let w = turns children (omega arith) in
        record {
          kept =
              w.kept
              ∙ children_turned first small (child_measured K T p b j at xs) (children_commute K T p b j at xs kids_fit) s.kept
              ∙ turns_measured K T p s.kept (child_labels b j at xs) children
              ∙ ap (measured K T p s.kept) (sym (labelled_split b j at xs split));
          entered = omega (arith, w.entered, octants_turned);
          visited = omega (arith, w.visited, samples_turned);
        }

  -- Whether the octant's own samples are measured, by its row's words and by the samples that it holds.
  ends_is : (j : ℕ) (low : Colour) (xs : List Placed) (at : ℕ) (s : Searching S) → Standing (suc j) low xs at s
      → ends_at (suc j) false (octant_field current os at Count) (settings_in current ws).bucket ≡ leb (length xs) b
  unfolding ends_at octant_word
  ends_is j low xs at s st =
      ap₂ (λ (x y : ℕ). leb x y) (held_count os b (suc j) at xs st.stands.held st.stands.some) (ap (λ (x : Settings). x.bucket) (settings_shown ws os m shows))

  -- An octant of the tree is searched as all its samples in the order are measured.
  search_agrees : (j : ℕ) (low : Colour) (xs : List Placed) (at : ℕ) (s : Searching S) → Standing j low xs at s
      → Agreeing j xs at s (search_of K ws os p j at low s)
  unfolding search_of splits turn_child
  search_agrees zero low xs at s st = own_agrees K T ws os m shows p owns zero low xs at s st refl
  search_agrees (suc j) low xs at s st = go (leb (length xs) b) refl (search_agrees j)
    where
      go : (f : Bool) → leb (length xs) b ≡ f
          → ((l : Colour) (zs : List Placed) (row : ℕ) (u : Searching S) → Standing j l zs row u → Agreeing j zs row u (search_of K ws os p j row l u))
          → Agreeing (suc j) xs at s (search_of K ws os p (suc j) at low s)
      go true e ih =
          rw (ends_is j low xs at s st ∙ e, search_of)
          (own_agrees K T ws os m shows p owns (suc j) low xs at s st (le-ltb b (length xs) (leb-true _ _ e)))
      go false e ih =
          rw (ends_is j low xs at s st ∙ e, search_of) (split_agrees j low xs at s st (lt-ltb b (length xs) (leb-false _ _ e)) ih)

  -- What taking every sample of the order keeps, each with the row of its octant.
  abbrev pub every_taken : S → S
  every_taken start = measured K T p start (labelled b depths 0 (placed m.set))

  -- A set with no sample has no tree, and nothing is taken.
  nothing_kept : (start : S) → placed m.set ≡ [] → (search_from K ws os p start).kept ≡ every_taken start
  unfolding search_from no_search octants measured
  nothing_kept start e =
      let gone : octant_limit current os ≡ 0 = limit_shown ws os m shows ∙ ap (octants_of b depths) e ∙ no_octants b depths in
      rw (le-ltb 0 (octant_limit current os) (omega arith), search_from)
      (sym (ap (measured K T p start) (ap (labelled b depths 0) e ∙ labelled_none b depths 0)))

  -- The root is searched.
  root_kept : (start : S) → 1 ≤ length (placed m.set) → (search_from K ws os p start).kept ≡ every_taken start
  unfolding search_from no_search octants
  root_kept start g =
      let root = octants_some b depths (placed m.set) g in
      rw (lt-ltb 0 (octant_limit current os) (omega (arith, limit_shown ws os m shows)), search_from)
      (search_agrees depths black (placed m.set) 0 (no_search start) (record { stands = root_stands ws os m shows g; room = omega arith })).kept

  -- The whole search.
  pub search_kept : (start : S) → (search_from K ws os p start).kept ≡ every_taken start
  search_kept start = go (placed m.set) refl
    where
      go : (zs : List Placed) → placed m.set ≡ zs → (search_from K ws os p start).kept ≡ every_taken start
      go [] e = nothing_kept start e
      go (z ∷ zs) e = root_kept start (omega (arith, ap length e))

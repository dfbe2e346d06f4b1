-- An octant of the tree, in sound tables: its samples, its rows, and those of its children.
use Prim.Native.Nat.{ℕ, suc, ◌+◌, ◌-◌, ◌^◌, ◌≤◌, ◌<◌}
use mathlib.Core.Bool.{Bool, true, false}
use mathlib.Core.List.{List, [], ◌++◌, map, append_assoc, append-nil}
use mathlib.Core.Path.{◌≡◌, refl, sym, ap, ap₂, ◌∙◌, subst}
use native.Mathlib.Numerals.{sub-one}
use native.Mathlib.Omega.{arith}
use lib.ListN.{length, length-map}
use Rattle.colour.specs.Channels.{Colour}
use Rattle.colour.specs.Colour.{black}
use Rattle.colour.specs.Octant.{depths, children, child_low}
use Rattle.model.specs.Lists.{joined}
use Rattle.model.specs.SampleSet.{Placed, placed, part, splits, order_of, octants_of, order, octants}
use Rattle.model.specs.Layout.{Count, current, sample_rows}
use Rattle.model.specs.Tables.{pair, child_row, row_or_none, octant_word}
use Rattle.model.specs.Machine.{Machine}
use Rattle.model.specs.Sound.{Shows}
use Rattle.model.proofs.Joined.{joined_from, joined_split}
use Rattle.model.proofs.Tree.Cubes.{Reached, below, whole, lies, octant_samples}
use Rattle.model.proofs.Tree.Order.{placed_length, order_of_length, order_most}
use Rattle.model.proofs.Tree.Splits.{order_split, octants_split, octants_leaf, word_split, octants_within}
use Rattle.words.specs.Rows.{octant_field, sample_budget}
use Rattle.traversal.specs.Own.{rows_from, own_most, own_rows}
use Rattle.traversal.specs.Children.{child_at}
use Rattle.traversal.proofs.Laws.Sound.Each.{All, all_keep, all_order, all_kept}
use Rattle.traversal.proofs.Laws.Sound.Shown.{Said, said_all, budget_shown, next_shown}
use Rattle.traversal.proofs.Laws.Sound.Held.{Held, held_first, held_count, held_word, held_child, held_root}
use Rattle.traversal.proofs.Laws.Sound.Followed.{Segment, segment_part, row_of, rows_follow}

-- An octant that holds a sample is in the tree.
pub octants_some : (b j : ℕ) (xs : List Placed) → 1 ≤ length xs → 1 ≤ octants_of b j xs
octants_some b j xs h = go (splits b j xs) refl
  where
    go : (r : Bool) → splits b j xs ≡ r → 1 ≤ octants_of b j xs
    go true e = omega (arith, octants_split b j xs e)
    go false e = omega (arith, octants_leaf b j xs e)

module _ (ws os : List ℕ) (m : Machine) (shows : Shows current m (pair ws os)) where
  abbrev b : ℕ
  b = m.set.settings.bucket

  abbrev n : ℕ
  n = length m.set.samples

  -- An octant of the tree, of side 2 ^ j at low, in row `at`, that holds xs, at least one, where so many samples were visited before.
  pub record Standing (j : ℕ) (low : Colour) (xs : List Placed) (at visited : ℕ) : Type 0 where
    pub reached : Reached m.set j low xs
    pub held : Held os b j at xs
    pub segment : Segment (order m.set) (order_of b j xs)
    pub some : 1 ≤ length xs
    pub room : visited + length xs ≤ n
    pub within : at + octants_of b j xs ≤ octants m.set

  few : n ≤ sample_rows current (length ws)
  unfolding sample_budget
  few = omega (arith, budget_shown ws os m shows)

  -- The samples of an octant lie in it, and rows say them.
  pub all_said : {j : ℕ} {low : Colour} {xs : List Placed} → Reached m.set j low xs → All (Said ws n) xs
  all_said {j} {low} r =
      subst (All (Said ws n)) (sym (octant_samples shows.valid.in_range r))
      (all_keep (Said ws n) (lies (2 ^ j) low) (placed m.set) (said_all ws os m shows))

  pub all_lie : {j : ℕ} {low : Colour} {xs : List Placed} → Reached m.set j low xs → All (λ x. lies (2 ^ j) low x ≡ true) xs
  all_lie {j} {low} r =
      subst (All (λ x. lies (2 ^ j) low x ≡ true)) (sym (octant_samples shows.valid.in_range r)) (all_kept (lies (2 ^ j) low) (placed m.set))

  module _ {j : ℕ} {low : Colour} {xs : List Placed} {at visited : ℕ} (st : Standing j low xs at visited) where
    -- The budget leaves it all its samples.
    pub budget_left : own_most ws os at visited ≡ octant_field current os at Count
    unfolding own_most octant_word
    budget_left = omega (arith, held_count os b j at xs st.held st.some, budget_shown ws os m shows, st.room)

    -- Its own rows are those of its samples in the order.
    pub own_rows_lem : own_rows ws os at visited ≡ map row_of (order_of b j xs)
    unfolding own_rows octant_word
    own_rows_lem =
        let ys : List Placed = order_of b j xs in
        let size : own_most ws os at visited ≡ length ys =
        budget_left ∙ held_count os b j at xs st.held st.some ∙ sym (order_of_length b j xs) in
        ap₂ (rows_from ws) size (held_first os b j at xs st.held st.some)
        ∙ rows_follow ws n (order m.set) few (order_most m.set) (next_shown ws os m shows) ys 0 (all_order (Said ws n) b j xs (all_said st.reached)) st.segment

    pub own_size : length (own_rows ws os at visited) ≡ length xs
    own_size = ap length own_rows_lem ∙ length-map (order_of b j xs) row_of ∙ order_of_length b j xs

  -- The children of a split octant.
  module _ {j : ℕ} {low : Colour} {xs : List Placed} {at visited : ℕ} (st : Standing (suc j) low xs at visited) (split : splits b (suc j) xs ≡ true)
      (k : ℕ) (l : k < children) where
    -- The row of child k.
    pub child_row_lem : child_at os at k ≡ row_or_none (child_row b j at xs k) (part j k xs)
    unfolding child_at octant_word
    child_row_lem = held_word os b (suc j) at xs st.held st.some k l ∙ word_split b (suc j) at k xs split ∙ rw sub-one

    -- A child that holds a sample stands in the tree.
    pub child_stands : (visited' : ℕ) → 1 ≤ length (part j k xs) → visited' + length (part j k xs) ≤ n
        → Standing j (child_low (2 ^ j) k low) (part j k xs) (child_row b j at xs k) visited'
    unfolding child_row joined
    child_stands visited' g r =
        let f : ℕ → List Placed = λ i. order_of b j (part j i xs) in
        let rest : List Placed = joined_from f (suc k) (children - suc k) in
        let ordered : order_of b (suc j) xs ≡ joined f k ++ (f k ++ rest) =
        order_split b (suc j) xs split ∙ rw sub-one (joined_split f (suc k) children l ∙ append_assoc (joined f k) (f k) rest) in
        record {
          reached = below k l st.reached;
          held = rw sub-one at (held_child os b (suc j) at xs st.held split k l);
          segment = segment_part (order m.set) (order_of b (suc j) xs) (joined f k) (f k) rest ordered st.segment;
          some = g;
          room = r;
          within = omega (arith, rw sub-one at (octants_within b (suc j) k xs split l), st.within);
        }

  -- The root stands in the tree, where the set has a sample.
  pub root_stands : 1 ≤ length (placed m.set) → Standing depths black (placed m.set) 0 0
  unfolding placed order octants
  root_stands g =
      record {
        reached = whole;
        held = held_root ws os m shows;
        segment = record { before = []; after = []; whole = sym (append-nil (order_of b depths (placed m.set))) };
        some = g;
        room = omega (arith, placed_length 0 m.set.samples);
        within = omega arith;
      }

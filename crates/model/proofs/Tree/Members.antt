-- The list `tree set` is the tree (document 01, "The bin", "The tables"): an octant is in it exactly when it is in the tree, the octant count is
-- its length, and the octant rows are those of its octants, numbered from 0.
use Prim.Native.Nat.{ℕ, zero, suc, ◌+◌, ◌^◌, ◌≤◌, ◌<◌, min}
use mathlib.Core.Bool.{Bool, true, false}
use mathlib.Core.List.{List, [], ◌∷◌, ◌++◌, append-nil, append_assoc, Memᴰ}
use mathlib.Core.Logic.{◌↔◌, ⊎_elim}
use mathlib.Core.Path.{◌≡◌, refl, sym, ap, ap₂, ◌∙◌}
use native.Mathlib.Omega.{arith}
use borrow.Author.Tests.{eqb-true, eqb-false}
use lib.Dec.{eqb}
use lib.ListN.{length}
use Rattle.colour.specs.Channels.{Colour}
use Rattle.colour.specs.Colour.{black}
use Rattle.colour.specs.Octant.{depths, children, child_low}
use Rattle.model.specs.Lists.{joined, total}
use Rattle.model.specs.SampleSet.{SampleSet, Placed, placed, part, splits, octants_of, octants}
use Rattle.model.specs.Tree.{InTree, root, child, Node, node_at, leaf, tree_of, tree, tree_rows}
use Rattle.model.specs.Layout.{Layout}
use Rattle.model.specs.Tables.{child_row, octant_row, octant_rows_of}
use Rattle.model.proofs.Lists.{total_same, joined_length}
use Rattle.model.proofs.Kept.{joined_same}
use Rattle.model.proofs.Tree.Order.{placed_length}
use Rattle.model.proofs.Tree.Octants.{split_some}
use Rattle.model.proofs.Tree.Splits.{some_row}

-- What is in a part is in the joined list, and what is in the joined list is in a part.
module _ {A : Type 0} {a : A} (f : ℕ → List A) where
  joined_member : (k n : ℕ) → k < n → Memᴰ a (f k) → Memᴰ a (joined f n)
  unfolding joined
  joined_member k zero h m = absurd (omega arith)
  joined_member k (suc n) h m = go (eqb k n) refl (λ l. joined_member k n l m)
    where
      go : (r : Bool) → eqb k n ≡ r → (k < n → Memᴰ a (joined f n)) → Memᴰ a (joined f (suc n))
      go true e rest = mathlib.Core.List.Memᴰ.append_right (joined f n) (rw (eqb-true k n e) at m)
      go false e rest = mathlib.Core.List.Memᴰ.append_left (f n) (rest (omega (arith, eqb-false k n e)))

  member_joined : {P : Type 0} (n : ℕ) → ((k : ℕ) → k < n → Memᴰ a (f k) → P) → Memᴰ a (joined f n) → P
  unfolding joined
  member_joined zero h m = absurd (mathlib.Core.List.Memᴰ.not-nil m)
  member_joined (suc n) h m =
      ⊎_elim (member_joined n (λ k l. h k (omega arith))) (h n (omega arith)) (mathlib.Core.List.Memᴰ.append_cases (joined f n) m)

-- An octant that holds a sample is among those at and below it.
leaf_member : (j : ℕ) (low : Colour) (xs : List Placed) → 1 ≤ length xs → Memᴰ (node_at j low xs) (leaf j low xs)
unfolding leaf
leaf_member j low [] h = absurd (omega arith)
leaf_member j low (x ∷ xs) h = mathlib.Core.List.Memᴰ.head refl

own_member : (b j : ℕ) (low : Colour) (xs : List Placed) → 1 ≤ length xs → Memᴰ (node_at j low xs) (tree_of b j low xs)
unfolding tree_of
own_member b zero low xs h = leaf_member zero low xs h
own_member b (suc j) low xs h = go (splits b (suc j) xs) refl
  where
    go : (r : Bool) → splits b (suc j) xs ≡ r → Memᴰ (node_at (suc j) low xs) (tree_of b (suc j) low xs)
    go true e = rw (e, tree_of) (mathlib.Core.List.Memᴰ.head refl)
    go false e = rw (e, tree_of) (leaf_member (suc j) low xs h)

-- The octants of the tree at and below a child of a split octant are at and below the octant.
child_members : (b j k : ℕ) (low : Colour) (xs : List Placed) (n : Node) → k < children → splits b (suc j) xs ≡ true
    → Memᴰ n (tree_of b j (child_low (2 ^ j) k low) (part j k xs)) → Memᴰ n (tree_of b (suc j) low xs)
unfolding tree_of
child_members b j k low xs n h e m = rw (e, tree_of) (mathlib.Core.List.Memᴰ.tail (joined_member _ k children h m))

module _ (set : SampleSet) where
  -- An octant of the tree holds a sample.
  in_tree_some : {j : ℕ} {low : Colour} {xs : List Placed} → InTree set j low xs → 1 ≤ length xs
  unfolding placed
  in_tree_some (root h) = omega (arith, placed_length 0 set.samples)
  in_tree_some (child k h r e s) = s

  -- What is at and below an octant of the tree is in the list.
  in_tree_members : {j : ℕ} {low : Colour} {xs : List Placed} (n : Node) → InTree set j low xs → Memᴰ n (tree_of set.settings.bucket j low xs)
      → Memᴰ n (tree set)
  unfolding tree
  in_tree_members n (root h) m = m
  in_tree_members n (child {j} {low} {xs} k h r e s) m =
      in_tree_members n r (child_members set.settings.bucket j k low xs n h e m)

  -- The other way round, over an octant that is in the tree if it holds a sample: what is listed at and below it is in the tree.
  leaf_in_tree : (j : ℕ) (low : Colour) (xs : List Placed) (n : Node) → (1 ≤ length xs → InTree set j low xs) → Memᴰ n (leaf j low xs)
      → InTree set n.depth_left n.low n.samples
  unfolding leaf
  leaf_in_tree j low [] n h m = absurd (mathlib.Core.List.Memᴰ.not-nil m)
  leaf_in_tree j low (x ∷ xs) n h m = rw (mathlib.Core.List.Memᴰ.eq_of_singleton m) (h (omega arith))

  members_in_tree : (j : ℕ) (low : Colour) (xs : List Placed) (n : Node) → (1 ≤ length xs → InTree set j low xs)
      → Memᴰ n (tree_of set.settings.bucket j low xs) → InTree set n.depth_left n.low n.samples
  unfolding tree_of
  members_in_tree zero low xs n h m = leaf_in_tree zero low xs n h m
  members_in_tree (suc j) low xs n h m =
      go (splits set.settings.bucket (suc j) xs) refl (λ k. members_in_tree j (child_low (2 ^ j) k low) (part j k xs) n)
    where
      f : ℕ → List Node
      f k = tree_of set.settings.bucket j (child_low (2 ^ j) k low) (part j k xs)

      go : (r : Bool) → splits set.settings.bucket (suc j) xs ≡ r
          → ((k : ℕ) → (1 ≤ length (part j k xs) → InTree set j (child_low (2 ^ j) k low) (part j k xs)) → Memᴰ n (f k)
          → InTree set n.depth_left n.low n.samples)
          → InTree set n.depth_left n.low n.samples
      go true e ih =
          let own : InTree set (suc j) low xs = h (split_some set.settings.bucket j xs e) in
          let in_list : Memᴰ n (node_at (suc j) low xs ∷ joined f children) = rw (e, tree_of) at m in
          ⊎_elim (λ q. rw q own) (member_joined f children (λ k l. ih k (child k l own e))) (mathlib.Core.List.Memᴰ.cases_cons in_list)
      go false e ih = leaf_in_tree (suc j) low xs n h (rw (e, tree_of) at m)

  -- An octant is in the list exactly when it is in the tree.
  pub tree_members : (n : Node) → Memᴰ n (tree set) ↔ InTree set n.depth_left n.low n.samples
  unfolding tree placed
  tree_members n = (
    members_in_tree depths black (placed set) n (λ h. root (omega (arith, placed_length 0 set.samples))),
    λ r. in_tree_members n r (own_member set.settings.bucket n.depth_left n.low n.samples (in_tree_some r)),
  )

-- The octant count is the length of the list.
leaf_length : (j : ℕ) (low : Colour) (xs : List Placed) → length (leaf j low xs) ≡ min 1 (length xs)
unfolding leaf
leaf_length j low [] = refl
leaf_length j low (x ∷ xs) = omega arith

pub tree_of_length : (b j : ℕ) (low : Colour) (xs : List Placed) → octants_of b j xs ≡ length (tree_of b j low xs)
unfolding octants_of tree_of
tree_of_length b zero low xs = sym (leaf_length zero low xs)
tree_of_length b (suc j) low xs = go (splits b (suc j) xs) refl (λ k. tree_of_length b j (child_low (2 ^ j) k low) (part j k xs))
  where
    go : (r : Bool) → splits b (suc j) xs ≡ r
        → ((k : ℕ) → octants_of b j (part j k xs) ≡ length (tree_of b j (child_low (2 ^ j) k low) (part j k xs)))
        → octants_of b (suc j) xs ≡ length (tree_of b (suc j) low xs)
    go true e ih = rw (e, octants_of, tree_of) (ap suc (total_same _ _ ih children ∙ sym (joined_length _ children)))
    go false e ih = rw (e, octants_of, tree_of) (sym (leaf_length (suc j) low xs))

pub tree_length : (set : SampleSet) → octants set ≡ length (tree set)
unfolding octants tree
tree_length set = tree_of_length set.settings.bucket depths black (placed set)

-- The rows of two lists of octants, and of joined lists.
module _ (L : Layout) (b : ℕ) where
  rows_append : (i : ℕ) (ns ms : List Node) → tree_rows L b i (ns ++ ms) ≡ tree_rows L b i ns ++ tree_rows L b (i + length ns) ms
  unfolding tree_rows
  rows_append i [] ms = ap (λ (m : ℕ). tree_rows L b m ms) (omega arith)
  rows_append i (n ∷ ns) ms =
      let e : suc i + length ns ≡ i + suc (length ns) = omega arith in
      rw (rows_append (suc i) ns ms, e) (simp append_assoc)

  rows_joined : (i : ℕ) (f : ℕ → List Node) (n : ℕ)
      → tree_rows L b i (joined f n) ≡ joined (λ k. tree_rows L b (i + total (λ m. length (f m)) k) (f k)) n
  unfolding tree_rows joined
  rows_joined i f zero = refl
  rows_joined i f (suc n) = rows_append i (joined f n) (f n) ∙ rw (joined_length f n, rows_joined i f n)

  leaf_rows : (j at : ℕ) (low : Colour) (xs : List Placed) → octant_row L b j at xs ≡ tree_rows L b at (leaf j low xs)
  unfolding octant_row tree_rows leaf
  leaf_rows j at low [] = refl
  leaf_rows j at low (x ∷ xs) = sym (append-nil _)

  -- The rows at and below an octant, numbered from `at` on, are those of the tree's octants there.
  pub tree_of_rows : (j at : ℕ) (low : Colour) (xs : List Placed) → octant_rows_of L b j at xs ≡ tree_rows L b at (tree_of b j low xs)
  unfolding octant_rows_of tree_of tree_rows child_row
  tree_of_rows zero at low xs = leaf_rows zero at low xs
  tree_of_rows (suc j) at low xs =
      go (splits b (suc j) xs) refl (λ k n. tree_of_rows j n (child_low (2 ^ j) k low) (part j k xs))
    where
      f : ℕ → List Node
      f k = tree_of b j (child_low (2 ^ j) k low) (part j k xs)

      go : (r : Bool) → splits b (suc j) xs ≡ r → ((k n : ℕ) → octant_rows_of L b j n (part j k xs) ≡ tree_rows L b n (f k))
          → octant_rows_of L b (suc j) at xs ≡ tree_rows L b at (tree_of b (suc j) low xs)
      go true e ih =
          rw (e, octant_rows_of, tree_of)
          (ap₂ (λ (h t : List ℕ). h ++ t) (some_row L b (suc j) at xs (split_some b j xs e))
          (joined_same _ _ children
          (λ k h. ih k (child_row b j at xs k)
          ∙ ap (λ (n : ℕ). tree_rows L b (suc at + n) (f k)) (total_same _ _ (λ i. tree_of_length b j (child_low (2 ^ j) i low) (part j i xs)) k))
          ∙ sym (rows_joined (suc at) f children)))
      go false e ih = rw (e, octant_rows_of, tree_of) (leaf_rows (suc j) at low xs)

-- The octant rows are those of the tree's octants, numbered from 0.
pub tree_rows_lem : (L : Layout) (set : SampleSet)
    → octant_rows_of L set.settings.bucket depths 0 (placed set) ≡ tree_rows L set.settings.bucket 0 (tree set)
unfolding tree
tree_rows_lem L set = tree_of_rows L set.settings.bucket depths 0 black (placed set)

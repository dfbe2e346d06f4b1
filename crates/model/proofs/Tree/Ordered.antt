-- Ordered lists: the parts of an order, and the order of an order.
use Prim.Native.Nat.{ℕ, zero, suc, ◌+◌, ◌≤◌, ◌<◌}
use native.Mathlib.Numerals.{sub-one}
use native.Mathlib.Omega.{arith}
use mathlib.Core.Bool.{Bool, true, false}
use mathlib.Core.List.{List, [], ◌∷◌, ◌++◌}
use mathlib.Core.Path.{◌≡◌, refl, sym, ap, ap₂, ◌∙◌}
use borrow.Author.Tests.{eqb-true, ne_eqb, ltb-true, ltb-false}
use lib.Dec.{eqb, ltb}
use lib.ListN.{length}
use Rattle.colour.specs.Octant.{children, child_number}
use Rattle.colour.proofs.Laws.Octants.{child_small}
use Rattle.model.specs.Lists.{keep, joined}
use Rattle.model.specs.SampleSet.{Placed, part, splits, order_of, octants_of}
use Rattle.model.specs.Layout.{OctantField, First, Last, Count, Child, Layout}
use Rattle.model.specs.Tables.{first_row, last_row, child_row, row_or_none, child_word, octant_word, octant_rows_of}
use Rattle.model.proofs.Kept.{keep_all, keep_joined, keep_none, keep_twice, keep_neither, joined_same, joined_one, map_same}
use Rattle.std.proofs.lemmas.List.{nil_from_length}
use Rattle.model.proofs.Lists.{total_same}
use Rattle.model.proofs.Tree.Order.{count, order_of_counts, order_of_length}
use Rattle.model.proofs.Tree.Octants.{split_some}
use Rattle.model.proofs.Tree.Splits.{order_leaf, order_split, octants_split, rows_split, some_row}

-- The order of a part holds samples of that part alone.
count_none : (p : Placed → Bool) (b j : ℕ) (xs : List Placed) → keep p xs ≡ [] → keep p (order_of b j xs) ≡ []
unfolding count
count_none p b j xs e = nil_from_length (keep p (order_of b j xs)) (order_of_counts p b j xs ∙ ap length e)

count_all : (p : Placed → Bool) (b j : ℕ) (xs : List Placed) → keep p xs ≡ xs → keep p (order_of b j xs) ≡ order_of b j xs
unfolding count
count_all p b j xs e =
    keep_all p (order_of b j xs) (omega (arith, order_of_counts p b j xs, ap length e, order_of_length b j xs))

in_part : (j k : ℕ) (xs : List Placed) → part j k (part j k xs) ≡ part j k xs
unfolding part
in_part j k xs = keep_twice _ _ (λ x e. e) xs

in_other : (j i k : ℕ) (xs : List Placed) → (i ≡ k → ⊥) → part j k (part j i xs) ≡ []
unfolding part
in_other j i k xs ne = keep_neither _ _ (λ x e. ne_eqb _ k (λ q. ne (sym (eqb-true _ i e) ∙ q))) xs

-- There is no ninth child.
no_child : (j k : ℕ) (xs : List Placed) → children ≤ k → part j k xs ≡ []
unfolding part
no_child j k xs h = keep_none _ (λ x. ne_eqb _ k (λ q. omega (arith, child_small j x.sample.colour))) xs

-- The part of a split octant's order that lies in child k is the order of child k.
pub part_order : (b j k : ℕ) (xs : List Placed) → splits b (suc j) xs ≡ true → part j k (order_of b (suc j) xs) ≡ order_of b j (part j k xs)
unfolding part
part_order b j k xs e = go (ltb k children) refl
  where
    go : (r : Bool) → ltb k children ≡ r → part j k (order_of b (suc j) xs) ≡ order_of b j (part j k xs)
    go true h =
        ap (part j k) (rw sub-one at (order_split b (suc j) xs e))
        ∙ keep_joined (λ x. eqb (child_number j x.sample.colour) k) (λ i. order_of b j (part j i xs)) children
        ∙ joined_one (λ i. part j k (order_of b j (part j i xs))) k children (ltb-true k children h)
        (λ i ne. count_none _ b j (part j i xs) (in_other j i k xs ne))
        ∙ count_all _ b j (part j k xs) (in_part j k xs)
    go false h =
        let none : part j k xs ≡ [] = no_child j k xs (omega (arith, ltb-false k children h)) in
        no_child j k (order_of b (suc j) xs) (omega (arith, ltb-false k children h))
        ∙ sym (ap (order_of b j) none ∙ nil_from_length (order_of b j []) (order_of_length b j []))

-- An order splits as its octant does.
order_splits : (b j i : ℕ) (xs : List Placed) → splits b j (order_of b i xs) ≡ splits b j xs
unfolding splits
order_splits b zero i xs = refl
order_splits b (suc j) i xs = ap (ltb b) (order_of_length b i xs)

-- The parts of an ordered list that splits, and the list as their sequence.
pub ordered_parts : (b j : ℕ) (xs : List Placed) → order_of b (suc j) xs ≡ xs → splits b (suc j) xs ≡ true
    → (xs ≡ joined (λ k. part j k xs) children) × ((k : ℕ) → k < children → order_of b j (part j k xs) ≡ part j k xs)
ordered_parts b j xs o e =
    let parts : (k : ℕ) → k < children → order_of b j (part j k xs) ≡ part j k xs =
    λ k h. sym (part_order b j k xs e) ∙ ap (part j k) o in
    (sym o ∙ (rw sub-one at (order_split b (suc j) xs e)) ∙ joined_same (λ k. order_of b j (part j k xs)) (λ k. part j k xs) children parts, parts)

-- The order of an order is the order.
pub order_order : (b j : ℕ) (xs : List Placed) → order_of b j (order_of b j xs) ≡ order_of b j xs
unfolding order_of
order_order b zero xs = refl
order_order b (suc j) xs = go (splits b (suc j) xs) refl (order_order b j)
  where
    go : (r : Bool) → splits b (suc j) xs ≡ r → ((ys : List Placed) → order_of b j (order_of b j ys) ≡ order_of b j ys)
        → order_of b (suc j) (order_of b (suc j) xs) ≡ order_of b (suc j) xs
    go true e ih =
        rw sub-one at (order_split b (suc j) (order_of b (suc j) xs) (order_splits b (suc j) (suc j) xs ∙ e))
        ∙ joined_same (λ k. order_of b j (part j k (order_of b (suc j) xs))) (λ k. order_of b j (part j k xs)) children
        (λ k h. ap (order_of b j) (part_order b j k xs e) ∙ ih (part j k xs))
        ∙ sym (rw sub-one at (order_split b (suc j) xs e))
    go false e ih = order_leaf b (suc j) (order_of b (suc j) xs) (order_splits b (suc j) (suc j) xs ∙ e)

-- An order comes to as many octants.
pub octants_order : (b j : ℕ) (xs : List Placed) → octants_of b j (order_of b j xs) ≡ octants_of b j xs
unfolding order_of
octants_order b zero xs = refl
octants_order b (suc j) xs = go (splits b (suc j) xs) refl (octants_order b j)
  where
    go : (r : Bool) → splits b (suc j) xs ≡ r → ((ys : List Placed) → octants_of b j (order_of b j ys) ≡ octants_of b j ys)
        → octants_of b (suc j) (order_of b (suc j) xs) ≡ octants_of b (suc j) xs
    go true e ih =
        (rw sub-one at (octants_split b (suc j) (order_of b (suc j) xs) (order_splits b (suc j) (suc j) xs ∙ e)))
        ∙ ap suc
        (total_same (λ k. octants_of b j (part j k (order_of b (suc j) xs))) (λ k. octants_of b j (part j k xs))
        (λ k. ap (octants_of b j) (part_order b j k xs e) ∙ ih (part j k xs)) children)
        ∙ sym (rw sub-one at (octants_split b (suc j) xs e))
    go false e ih = ap (octants_of b (suc j)) (order_leaf b (suc j) xs e)

-- A child's word asks of its samples whether there are any.
same_presence : (row : ℕ) (xs ys : List Placed) → length xs ≡ length ys → row_or_none row xs ≡ row_or_none row ys
unfolding row_or_none
same_presence row [] [] h = refl
same_presence row [] (y ∷ ys) h = absurd (omega arith)
same_presence row (x ∷ xs) [] h = absurd (omega arith)
same_presence row (x ∷ xs) (y ∷ ys) h = refl

-- The words of an octant's row, by the octant's order.
module _ (b j at : ℕ) (xs : List Placed) (e : splits b (suc j) xs ≡ true) where
  children_order : (k : ℕ) → child_row b j at (order_of b (suc j) xs) k ≡ child_row b j at xs k
  unfolding child_row
  children_order k =
      ap (λ (n : ℕ). suc at + n)
      (total_same (λ i. octants_of b j (part j i (order_of b (suc j) xs))) (λ i. octants_of b j (part j i xs))
      (λ i. ap (octants_of b j) (part_order b j i xs e) ∙ octants_order b j (part j i xs)) k)

  child_order : (k : ℕ) → child_word b (suc j) at (order_of b (suc j) xs) k ≡ child_word b (suc j) at xs k
  unfolding child_word
  child_order k =
      rw (order_splits b (suc j) (suc j) xs ∙ e, e, child_word)
      (ap₂ row_or_none (children_order k) (part_order b j k xs e)
      ∙ same_presence (child_row b j at xs k) (order_of b j (part j k xs)) (part j k xs) (order_of_length b j (part j k xs)))

  word_order : (f : OctantField) → octant_word b (suc j) at (order_of b (suc j) xs) f ≡ octant_word b (suc j) at xs f
  unfolding octant_word
  word_order First = ap (first_row 0) (order_order b (suc j) xs)
  word_order Last = ap (last_row 0) (order_order b (suc j) xs)
  word_order Count = order_of_length b (suc j) xs
  word_order (Child k) = child_order k

-- An octant's rows depend on the order of its samples alone.
pub rows_order : (L : Layout) (b j at : ℕ) (xs : List Placed) → octant_rows_of L b j at (order_of b j xs) ≡ octant_rows_of L b j at xs
unfolding order_of
rows_order L b zero at xs = refl
rows_order L b (suc j) at xs = go (splits b (suc j) xs) refl (rows_order L b j)
  where
    go : (r : Bool) → splits b (suc j) xs ≡ r → ((n : ℕ) (ys : List Placed) → octant_rows_of L b j n (order_of b j ys) ≡ octant_rows_of L b j n ys)
        → octant_rows_of L b (suc j) at (order_of b (suc j) xs) ≡ octant_rows_of L b (suc j) at xs
    go true e ih =
        let ys : List Placed = order_of b (suc j) xs in
        (rw sub-one at (rows_split b L (suc j) at ys (order_splits b (suc j) (suc j) xs ∙ e)))
        ∙ ap₂ (λ (h t : List ℕ). h ++ t)
        (some_row L b (suc j) at ys (omega (arith, order_of_length b (suc j) xs, split_some b j xs e))
        ∙ map_same (octant_word b (suc j) at ys) (octant_word b (suc j) at xs) (word_order b j at xs e) L.octant
        ∙ sym (some_row L b (suc j) at xs (split_some b j xs e)))
        (joined_same (λ k. octant_rows_of L b j (child_row b j at ys k) (part j k ys))
        (λ k. octant_rows_of L b j (child_row b j at xs k) (part j k xs)) children
        (λ k h. ap₂ (octant_rows_of L b j) (children_order b j at xs e k) (part_order b j k xs e) ∙ ih (child_row b j at xs k) (part j k xs)))
        ∙ sym (rw sub-one at (rows_split b L (suc j) at xs e))
    go false e ih = ap (octant_rows_of L b (suc j) at) (order_leaf b (suc j) xs e)

-- A split octant and one that is not: order, octants, rows and words, with the depth left as code has it.
use Prim.Native.Nat.{ℕ, zero, suc, ◌+◌, ◌-◌, ◌≤◌, ◌<◌, min}
use mathlib.Core.Bool.{true, false}
use mathlib.Core.List.{List, [], ◌∷◌, ◌++◌, map}
use mathlib.Core.Path.{◌≡◌, refl}
use native.Mathlib.Nat.{mul-le-mul}
use native.Mathlib.Numerals.{sub-one}
use native.Mathlib.Omega.{arith}
use lib.ListN.{length}
use Rattle.colour.specs.Octant.{children}
use Rattle.model.specs.Lists.{joined, total}
use Rattle.model.specs.SampleSet.{Placed, part, splits, order_of, octants_of}
use Rattle.model.specs.Layout.{Layout}
use Rattle.model.specs.Tables.{child_row, row_or_none, child_word, octant_word, octant_row, octant_rows_of}
use Rattle.model.proofs.Lists.{total_past}
use Rattle.model.proofs.Tree.Order.{parts_length}
use Rattle.model.proofs.Tree.Octants.{octants_of_most}

-- A split octant has depths below it.
pub split_deep : (b left : ℕ) (xs : List Placed) → splits b left xs ≡ true → 1 ≤ left
unfolding splits
split_deep b zero xs e = let z : ◌≡◌ {A = ℕ} 0 1 = cc in absurd (omega arith)
split_deep b (suc j) xs e = omega arith

module _ (b : ℕ) where
  -- The order: an unsplit octant's samples by arrival, a split octant's children one after the other.
  pub order_leaf : (left : ℕ) (xs : List Placed) → splits b left xs ≡ false → order_of b left xs ≡ xs
  unfolding order_of
  order_leaf zero xs e = refl
  order_leaf (suc j) xs e = rw (e, order_of)

  pub order_split : (left : ℕ) (xs : List Placed) → splits b left xs ≡ true
      → order_of b left xs ≡ joined (λ k. order_of b (left - 1) (part (left - 1) k xs)) children
  unfolding order_of
  order_split zero xs e = absurd (omega (arith, split_deep b zero xs e))
  order_split (suc j) xs e = rw (sub-one, e, order_of)

  -- The octants.
  pub octants_leaf : (left : ℕ) (xs : List Placed) → splits b left xs ≡ false → octants_of b left xs ≡ min 1 (length xs)
  unfolding octants_of
  octants_leaf zero xs e = refl
  octants_leaf (suc j) xs e = rw (e, octants_of)

  pub octants_split : (left : ℕ) (xs : List Placed) → splits b left xs ≡ true
      → octants_of b left xs ≡ suc (total (λ k. octants_of b (left - 1) (part (left - 1) k xs)) children)
  unfolding octants_of
  octants_split zero xs e = absurd (omega (arith, split_deep b zero xs e))
  octants_split (suc j) xs e = rw (sub-one, e, octants_of)

  -- The rows.
  pub rows_leaf : (L : Layout) (left at : ℕ) (xs : List Placed) → splits b left xs ≡ false
      → octant_rows_of L b left at xs ≡ octant_row L b left at xs
  unfolding octant_rows_of
  rows_leaf L zero at xs e = refl
  rows_leaf L (suc j) at xs e = rw (e, octant_rows_of)

  pub rows_split : (L : Layout) (left at : ℕ) (xs : List Placed) → splits b left xs ≡ true
      → octant_rows_of L b left at xs
      ≡ octant_row L b left at xs
      ++ joined (λ k. octant_rows_of L b (left - 1) (child_row b (left - 1) at xs k) (part (left - 1) k xs)) children
  unfolding octant_rows_of
  rows_split L zero at xs e = absurd (omega (arith, split_deep b zero xs e))
  rows_split L (suc j) at xs e = rw (sub-one, e, octant_rows_of)

  -- The word for child k.
  pub word_leaf : (left at k : ℕ) (xs : List Placed) → splits b left xs ≡ false → child_word b left at xs k ≡ 0
  unfolding child_word
  word_leaf zero at k xs e = refl
  word_leaf (suc j) at k xs e = rw (e, child_word)

  pub word_split : (left at k : ℕ) (xs : List Placed) → splits b left xs ≡ true
      → child_word b left at xs k ≡ row_or_none (child_row b (left - 1) at xs k) (part (left - 1) k xs)
  unfolding child_word
  word_split zero at k xs e = absurd (omega (arith, split_deep b zero xs e))
  word_split (suc j) at k xs e = rw (sub-one, e, child_word)

  -- A split octant and its children up to k are counted in the octant's count.
  pub octants_within : (left k : ℕ) (xs : List Placed) → splits b left xs ≡ true → k < children
      → suc (total (λ i. octants_of b (left - 1) (part (left - 1) i xs)) k) + octants_of b (left - 1) (part (left - 1) k xs) ≤ octants_of b left xs
  octants_within left k xs s h =
      omega (arith, total_past (λ i. octants_of b (left - 1) (part (left - 1) i xs)) k children h, octants_split left xs s)

-- The samples of the children up to k are among the octant's.
pub child_within : (j k : ℕ) (xs : List Placed) → k < children → total (λ i. length (part j i xs)) k + length (part j k xs) ≤ length xs
child_within j k xs h = omega (arith, total_past (λ i. length (part j i xs)) k children h, parts_length j xs)

-- The octant count of 4,096 samples is far from the end of 32 bits.
pub octants_fit : (b left : ℕ) (xs : List Placed) → left ≤ 16 → length xs ≤ 4096 → octants_of b left xs ≤ 69632
octants_fit b left xs h l =
    omega (arith, octants_of_most b left xs, mul-le-mul {n₁ = suc left} {m₁ = length xs} {n₂ = 17} {m₂ = 4096} (omega arith) l)

-- The row of an octant that holds a sample.
pub some_row : (L : Layout) (b j at : ℕ) (xs : List Placed) → 1 ≤ length xs → octant_row L b j at xs ≡ map (octant_word b j at xs) L.octant
unfolding octant_row
some_row L b j at [] h = absurd (omega arith)
some_row L b j at (x ∷ xs) h = refl

-- The tree asks of a sample its row and its child numbers alone: lists that agree in these have the same order, octants and rows.
use Prim.Native.Nat.{ℕ, zero, suc, ◌+◌, ◌≤◌, ◌<◌, min}
use mathlib.Core.Bool.{Bool, true, false}
use mathlib.Core.List.{List, [], ◌∷◌, ◌++◌}
use mathlib.Core.Path.{◌≡◌, refl, sym, ap, ap₂, ◌∙◌}
use lib.Dec.{eqb, ltb}
use lib.ListN.{length}
use native.Mathlib.Omega.{arith}
use Rattle.colour.specs.Octant.{depths, children, child_number}
use Rattle.model.specs.Lists.{keep, joined}
use Rattle.model.specs.SampleSet.{Placed, part, splits, order_of, octants_of}
use Rattle.model.specs.Layout.{OctantField, First, Last, Count, Child, Layout}
use Rattle.model.specs.Tables.{first_row, last_row, next_row, child_row, row_or_none, child_word, octant_word, octant_row, octant_rows_of}
use Rattle.model.proofs.Lists.{total_same}
use Rattle.model.proofs.Kept.{map_same, joined_same}

-- Two lists agree in their rows and in their child numbers at each depth.
pub data Alike : List Placed → List Placed → Type 0 where
  none : Alike [] []
  more : {x y : Placed} {xs ys : List Placed} → x.row ≡ y.row
      → ((j : ℕ) → j < depths → child_number j x.sample.colour ≡ child_number j y.sample.colour) → Alike xs ys → Alike (x ∷ xs) (y ∷ ys)

pub alike_length : {xs ys : List Placed} → Alike xs ys → length xs ≡ length ys
alike_length none = refl
alike_length (more r c h) = ap suc (alike_length h)

alike_append : {xs ys xs' ys' : List Placed} → Alike xs ys → Alike xs' ys' → Alike (xs ++ xs') (ys ++ ys')
alike_append none k = k
alike_append (more r c h) k = more r c (alike_append h k)

alike_joined : (f g : ℕ → List Placed) → ((k : ℕ) → Alike (f k) (g k)) → (n : ℕ) → Alike (joined f n) (joined g n)
unfolding joined
alike_joined f g h zero = none
alike_joined f g h (suc n) = alike_append (alike_joined f g h n) (h n)

-- What is kept by a test that tells them apart by nothing else.
alike_keep : (p q : Placed → Bool) {xs ys : List Placed} → Alike xs ys
    → ((x y : Placed) → x.row ≡ y.row → ((j : ℕ) → j < depths → child_number j x.sample.colour ≡ child_number j y.sample.colour) → p x ≡ q y)
    → Alike (keep p xs) (keep q ys)
unfolding keep
alike_keep p q none e = none
alike_keep p q (more {x = x} {y = y} {xs = xs} {ys = ys} r c h) e = go (p x) refl (alike_keep p q h e)
  where
    go : (t : Bool) → p x ≡ t → Alike (keep p xs) (keep q ys) → Alike (keep p (x ∷ xs)) (keep q (y ∷ ys))
    go true d k = rw (d, sym (e x y r c) ∙ d, keep) (more r c k)
    go false d k = rw (d, sym (e x y r c) ∙ d, keep) k

pub alike_part : (j k : ℕ) {xs ys : List Placed} → j < depths → Alike xs ys → Alike (part j k xs) (part j k ys)
unfolding part
alike_part j k l h = alike_keep _ _ h (λ x y r c. ap (λ (n : ℕ). eqb n k) (c j l))

-- As many stand in a row.
pub alike_times : (i : ℕ) {xs ys : List Placed} → Alike xs ys → length (keep (λ x. eqb x.row i) xs) ≡ length (keep (λ x. eqb x.row i) ys)
alike_times i h = alike_length (alike_keep (λ x. eqb x.row i) (λ x. eqb x.row i) h (λ x y r c. ap (λ (n : ℕ). eqb n i) r))

alike_splits : (b j : ℕ) {xs ys : List Placed} → Alike xs ys → splits b j xs ≡ splits b j ys
unfolding splits
alike_splits b zero h = refl
alike_splits b (suc j) h = ap (ltb b) (alike_length h)

pub alike_order : (b j : ℕ) {xs ys : List Placed} → j ≤ depths → Alike xs ys → Alike (order_of b j xs) (order_of b j ys)
unfolding order_of
alike_order b zero l h = h
alike_order b (suc j) {xs} {ys} l h = go (splits b (suc j) xs) refl (λ k. alike_order b j (omega arith) (alike_part j k (omega arith) h))
  where
    go : (r : Bool) → splits b (suc j) xs ≡ r → ((k : ℕ) → Alike (order_of b j (part j k xs)) (order_of b j (part j k ys)))
        → Alike (order_of b (suc j) xs) (order_of b (suc j) ys)
    go true e ih =
        rw (e, sym (alike_splits b (suc j) h) ∙ e, order_of)
        (alike_joined (λ k. order_of b j (part j k xs)) (λ k. order_of b j (part j k ys)) ih children)
    go false e ih = rw (e, sym (alike_splits b (suc j) h) ∙ e, order_of) h

pub alike_octants : (b j : ℕ) {xs ys : List Placed} → j ≤ depths → Alike xs ys → octants_of b j xs ≡ octants_of b j ys
unfolding octants_of
alike_octants b zero l h = ap (min 1) (alike_length h)
alike_octants b (suc j) {xs} {ys} l h = go (splits b (suc j) xs) refl (λ k. alike_octants b j (omega arith) (alike_part j k (omega arith) h))
  where
    go : (r : Bool) → splits b (suc j) xs ≡ r → ((k : ℕ) → octants_of b j (part j k xs) ≡ octants_of b j (part j k ys))
        → octants_of b (suc j) xs ≡ octants_of b (suc j) ys
    go true e ih =
        rw (e, sym (alike_splits b (suc j) h) ∙ e, octants_of)
        (ap suc (total_same (λ k. octants_of b j (part j k xs)) (λ k. octants_of b j (part j k ys)) ih children))
    go false e ih = rw (e, sym (alike_splits b (suc j) h) ∙ e, octants_of) (ap (min 1) (alike_length h))

-- The rows that stand first and last, and the row after another.
pub alike_first : (d : ℕ) {xs ys : List Placed} → Alike xs ys → first_row d xs ≡ first_row d ys
unfolding first_row
alike_first d none = refl
alike_first d (more r c h) = r

pub alike_last : (d d' : ℕ) {xs ys : List Placed} → d ≡ d' → Alike xs ys → last_row d xs ≡ last_row d' ys
unfolding last_row
alike_last d d' e none = e
alike_last d d' e (more {x = x} {y = y} r c h) = alike_last x.row y.row r h

pub alike_next : (n i : ℕ) {xs ys : List Placed} → Alike xs ys → next_row n i xs ≡ next_row n i ys
unfolding next_row
alike_next n i none = refl
alike_next n i (more {x = x} {y = y} {xs = xs} {ys = ys} r c h) = go (eqb x.row i) refl (alike_next n i h)
  where
    go : (t : Bool) → eqb x.row i ≡ t → next_row n i xs ≡ next_row n i ys → next_row n i (x ∷ xs) ≡ next_row n i (y ∷ ys)
    go true d k = rw (d, ap (λ (m : ℕ). eqb m i) (sym r) ∙ d, next_row) (alike_first n h)
    go false d k = rw (d, ap (λ (m : ℕ). eqb m i) (sym r) ∙ d, next_row) k

-- The octants' rows.
module _ (b : ℕ) where
  alike_child_row : (j at : ℕ) {xs ys : List Placed} → j < depths → Alike xs ys → (k : ℕ) → child_row b j at xs k ≡ child_row b j at ys k
  unfolding child_row
  alike_child_row j at {xs} {ys} l h k =
      ap (λ (n : ℕ). suc at + n)
      (total_same (λ i. octants_of b j (part j i xs)) (λ i. octants_of b j (part j i ys)) (λ i. alike_octants b j (omega arith) (alike_part j i l h)) k)

  alike_presence : (row row' : ℕ) {xs ys : List Placed} → row ≡ row' → Alike xs ys → row_or_none row xs ≡ row_or_none row' ys
  unfolding row_or_none
  alike_presence row row' e none = refl
  alike_presence row row' e (more r c h) = e

  alike_child : (j at k : ℕ) {xs ys : List Placed} → j ≤ depths → Alike xs ys → child_word b j at xs k ≡ child_word b j at ys k
  unfolding child_word
  alike_child zero at k l h = refl
  alike_child (suc j) at k {xs} {ys} l h = go (splits b (suc j) xs) refl
    where
      go : (r : Bool) → splits b (suc j) xs ≡ r → child_word b (suc j) at xs k ≡ child_word b (suc j) at ys k
      go true e =
          rw (e, sym (alike_splits b (suc j) h) ∙ e, child_word)
          (alike_presence (child_row b j at xs k) (child_row b j at ys k) (alike_child_row j at (omega arith) h k) (alike_part j k (omega arith) h))
      go false e = rw (e, sym (alike_splits b (suc j) h) ∙ e, child_word)

  alike_word : (j at : ℕ) {xs ys : List Placed} → j ≤ depths → Alike xs ys → (f : OctantField) → octant_word b j at xs f ≡ octant_word b j at ys f
  unfolding octant_word
  alike_word j at l h First = alike_first 0 (alike_order b j l h)
  alike_word j at l h Last = alike_last 0 0 refl (alike_order b j l h)
  alike_word j at l h Count = alike_length h
  alike_word j at l h (Child k) = alike_child j at k l h

  alike_row : (L : Layout) (j at : ℕ) {xs ys : List Placed} → j ≤ depths → Alike xs ys → octant_row L b j at xs ≡ octant_row L b j at ys
  unfolding octant_row
  alike_row L j at l none = refl
  alike_row L j at l (more {x = x} {y = y} {xs = xs} {ys = ys} r c h) =
      map_same (octant_word b j at (x ∷ xs)) (octant_word b j at (y ∷ ys)) (alike_word j at l (more r c h)) L.octant

  pub alike_rows : (L : Layout) (j at at' : ℕ) {xs ys : List Placed} → j ≤ depths → at ≡ at' → Alike xs ys → octant_rows_of L b j at xs ≡ octant_rows_of L b j at' ys
  unfolding octant_rows_of
  alike_rows L zero at at' {xs} {ys} l e h = alike_row L zero at l h ∙ ap (λ (n : ℕ). octant_row L b zero n ys) e
  alike_rows L (suc j) at at' {xs} {ys} l q h =
      go (splits b (suc j) xs) refl
      (λ k. alike_rows L j (child_row b j at xs k) (child_row b j at ys k) (omega arith) (alike_child_row j at (omega arith) h k) (alike_part j k (omega arith) h))
      ∙ ap (λ (n : ℕ). octant_rows_of L b (suc j) n ys) q
    where
      go : (r : Bool) → splits b (suc j) xs ≡ r
          → ((k : ℕ) → octant_rows_of L b j (child_row b j at xs k) (part j k xs) ≡ octant_rows_of L b j (child_row b j at ys k) (part j k ys))
          → octant_rows_of L b (suc j) at xs ≡ octant_rows_of L b (suc j) at ys
      go true e ih =
          rw (e, sym (alike_splits b (suc j) h) ∙ e, octant_rows_of)
          (ap₂ (λ (u v : List ℕ). u ++ v) (alike_row L (suc j) at l h)
          (joined_same (λ k. octant_rows_of L b j (child_row b j at xs k) (part j k xs)) (λ k. octant_rows_of L b j (child_row b j at ys k) (part j k ys)) children (λ k l. ih k)))
      go false e ih = rw (e, sym (alike_splits b (suc j) h) ∙ e, octant_rows_of) (alike_row L (suc j) at l h)

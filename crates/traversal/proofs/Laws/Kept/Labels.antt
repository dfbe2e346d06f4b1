-- The samples of an octant in the order, each with the row of the unsplit octant that holds it.
use Prim.Native.Nat.{ℕ, zero, suc, ◌+◌, ◌≤◌, ◌<◌}
use mathlib.Core.Bool.{Bool, true, false}
use mathlib.Core.List.{List, [], ◌∷◌, ◌++◌, map, map-append, map-map, map-id}
use mathlib.Core.Path.{◌≡◌, refl, ap, ◌∙◌}
use native.Mathlib.Numerals.{sub-one}
use native.Mathlib.Omega.{arith}
use borrow.Author.Tests.{le-ltb}
use Rattle.colour.specs.Octant.{children}
use Rattle.model.specs.Lists.{joined}
use Rattle.model.specs.SampleSet.{Placed, part, splits, order_of, octants_of}
use Rattle.model.specs.Tables.{child_row}
use Rattle.model.proofs.Lists.{total_past}
use Rattle.model.proofs.Kept.{joined_same}
use Rattle.model.proofs.Tree.Splits.{octants_leaf, octants_within}
use Rattle.traversal.proofs.Laws.Sound.Each.{All, all_then, all_joined, all_part}

-- A sample, and the row of its octant.
pub record Label : Type 0 where
  pub octant : ℕ
  pub sample : Placed

-- A sample of the octant number `at`.
abbrev pub label : ℕ → Placed → Label
label at x = record { octant = at; sample = x }

-- The samples at and below the octant number `at`, of side 2 ^ j, that holds xs, in the order, each with the row of the unsplit octant that holds it.
unfoldable pub labelled : ℕ → ℕ → ℕ → List Placed → List Label
labelled b zero at xs = map (label at) xs
labelled b (suc j) at xs =
    elim (splits b (suc j) xs) [
      | true ↦ joined (λ k. labelled b j (child_row b j at xs k) (part j k xs)) children
      | false ↦ map (label at) xs
    ]

-- Those of its child k.
abbrev pub child_labels : ℕ → ℕ → ℕ → List Placed → ℕ → List Label
child_labels b j at xs k = labelled b j (child_row b j at xs k) (part j k xs)

-- The samples of an unsplit octant are labelled with its row.
pub labelled_leaf : (b j at : ℕ) (xs : List Placed) → splits b j xs ≡ false → labelled b j at xs ≡ map (label at) xs
unfolding labelled
labelled_leaf b zero at xs e = refl
labelled_leaf b (suc j) at xs e = rw (e, labelled)

-- Those of a split octant are labelled as its children's are.
pub labelled_split : (b j at : ℕ) (xs : List Placed) → splits b (suc j) xs ≡ true
    → labelled b (suc j) at xs ≡ joined (λ k. labelled b j (child_row b j at xs k) (part j k xs)) children
unfolding labelled
labelled_split b j at xs e = rw (e, labelled)

-- An octant that holds no sample is not split.
none_unsplit : (b j : ℕ) → splits b j [] ≡ false
unfolding splits
none_unsplit b zero = refl
none_unsplit b (suc j) = le-ltb b 0 (omega arith)

-- No samples, no labels.
pub labelled_none : (b j at : ℕ) → labelled b j at [] ≡ []
labelled_none b j at = labelled_leaf b j at [] (none_unsplit b j)

-- A function of each element of joined lists.
map_joined : {A B : Type 0} (g : A → B) (f : ℕ → List A) (n : ℕ) → map g (joined f n) ≡ joined (λ k. map g (f k)) n
unfolding joined
map_joined g f zero = refl
map_joined g f (suc n) = map-append g (joined f n) (f n) ∙ ap (λ l. l ++ map g (f n)) (map_joined g f n)

-- Without their labels they are the octant's order.
pub labelled_order : (b j at : ℕ) (xs : List Placed) → map (λ l. l.sample) (labelled b j at xs) ≡ order_of b j xs
unfolding labelled order_of
labelled_order b zero at xs = map-map (λ l. l.sample) (label at) xs ∙ map-id xs
labelled_order b (suc j) at xs = go (splits b (suc j) xs) refl (λ k. labelled_order b j (child_row b j at xs k) (part j k xs))
  where
    go : (r : Bool) → splits b (suc j) xs ≡ r
        → ((k : ℕ) → map (λ l. l.sample) (child_labels b j at xs k) ≡ order_of b j (part j k xs))
        → map (λ l. l.sample) (labelled b (suc j) at xs) ≡ order_of b (suc j) xs
    go true e ih =
        rw (e, labelled, order_of)
        (map_joined (λ l. l.sample) (child_labels b j at xs) children
        ∙ joined_same _ _ children (λ k h. ih k))
    go false e ih = rw (e, labelled, order_of) (map-map (λ l. l.sample) (label at) xs ∙ map-id xs)

-- What holds of each element's image holds of each image.
all_map : {A B : Type 0} (P : B → Type 0) (g : A → B) (xs : List A) → All (λ x. P (g x)) xs → All P (map g xs)
unfolding All
all_map P g [] h = tt
all_map P g (x ∷ xs) h = (h.0, all_map P g xs h.1)

-- What holds of each sample holds of each that is labelled.
pub labelled_all : (P : Placed → Type 0) (b j at : ℕ) (xs : List Placed) → All P xs → All (λ l. P l.sample) (labelled b j at xs)
unfolding labelled
labelled_all P b zero at xs h = all_map (λ l. P l.sample) (label at) xs h
labelled_all P b (suc j) at xs h =
    go (splits b (suc j) xs) refl (λ k. labelled_all P b j (child_row b j at xs k) (part j k xs) (all_part P j k xs h))
  where
    go : (r : Bool) → splits b (suc j) xs ≡ r → ((k : ℕ) → All (λ l. P l.sample) (child_labels b j at xs k))
        → All (λ l. P l.sample) (labelled b (suc j) at xs)
    go true e ih = rw (e, labelled) (all_joined _ (child_labels b j at xs) children (λ k l. ih k))
    go false e ih = rw (e, labelled) (all_map (λ l. P l.sample) (label at) xs h)

-- A label's row lies from `at` up to before `at` + n.
abbrev pub Within : ℕ → ℕ → Label → Type 0
Within at n l = (at ≤ l.octant) × (l.octant < at + n)

-- What holds of every element there is holds of each of a list.
all_each : {A : Type 0} (P : A → Type 0) → ((x : A) → P x) → (xs : List A) → All P xs
unfolding All
all_each P f [] = tt
all_each P f (x ∷ xs) = (f x, all_each P f xs)

-- An unsplit octant that holds samples has one row.
leaf_within : (b j at : ℕ) (xs : List Placed) → splits b j xs ≡ false → All (Within at (octants_of b j xs)) (map (label at) xs)
unfolding All
leaf_within b j at [] e = tt
leaf_within b j at (x ∷ xs) e =
    all_map (Within at (octants_of b j (x ∷ xs))) (label at) (x ∷ xs)
    (all_each _ (λ y. (omega arith, omega (arith, octants_leaf b j (x ∷ xs) e))) (x ∷ xs))

-- A child's rows are among the octant's.
child_inside : (b j at : ℕ) (xs : List Placed) (k : ℕ) → k < children → splits b (suc j) xs ≡ true → (l : Label)
    → Within (child_row b j at xs k) (octants_of b j (part j k xs)) l → Within at (octants_of b (suc j) xs) l
unfolding child_row
child_inside b j at xs k h e l w =
    let o = rw sub-one at (octants_within b (suc j) k xs e h) in
    (omega (arith, w.0), omega (arith, w.1))

-- The rows lie within those of the octant and of the octants below it.
pub labelled_within : (b j at : ℕ) (xs : List Placed)
    → All (λ l. (at ≤ l.octant) × (l.octant < at + octants_of b j xs)) (labelled b j at xs)
unfolding labelled splits
labelled_within b zero at xs = leaf_within b zero at xs refl
labelled_within b (suc j) at xs = go (splits b (suc j) xs) refl (λ k. labelled_within b j (child_row b j at xs k) (part j k xs))
  where
    go : (r : Bool) → splits b (suc j) xs ≡ r
        → ((k : ℕ) → All (Within (child_row b j at xs k) (octants_of b j (part j k xs))) (child_labels b j at xs k))
        → All (Within at (octants_of b (suc j) xs)) (labelled b (suc j) at xs)
    go true e ih =
        rw (e, labelled)
        (all_joined _ (child_labels b j at xs) children
        (λ k h. all_then _ _ (child_inside b j at xs k h e) _ (ih k)))
    go false e ih = rw (e, labelled) (leaf_within b (suc j) at xs e)

-- The rows never fall, and the first is no lower than n.
unfoldable pub Rising : ℕ → List Label → Type 0
Rising n [] = Unit {0}
Rising n (l ∷ rest) = (n ≤ l.octant) × Rising l.octant rest

-- A lower start does as well.
pub rising_lower : (n m : ℕ) (ls : List Label) → n ≤ m → Rising m ls → Rising n ls
unfolding Rising
rising_lower n m [] h r = tt
rising_lower n m (l ∷ ls) h r = (omega (arith, r.0), r.1)

-- Rows that rise up to m, and then rows that rise from m on.
rising_append : (n m : ℕ) (xs ys : List Label) → n ≤ m → All (λ l. l.octant ≤ m) xs → Rising n xs → Rising m ys → Rising n (xs ++ ys)
unfolding Rising All
rising_append n m [] ys h a r s = rising_lower n m ys h s
rising_append n m (x ∷ xs) ys h a r s = (r.0, rising_append x.octant m xs ys a.0 a.1 r.1 s)

-- Labels of the same row never fall.
leaf_rising : (at : ℕ) (xs : List Placed) → Rising at (map (label at) xs)
unfolding Rising
leaf_rising at [] = tt
leaf_rising at (x ∷ xs) = (omega arith, leaf_rising at xs)

-- The children's rows come one after the other.
children_rising : (b j at : ℕ) (xs : List Placed) → ((k : ℕ) → Rising (child_row b j at xs k) (child_labels b j at xs k))
    → (n : ℕ) → Rising at (joined (child_labels b j at xs) n)
unfolding Rising joined child_row
children_rising b j at xs ih zero = tt
children_rising b j at xs ih (suc n) =
    let f : ℕ → List Label = child_labels b j at xs in
    rising_append at (child_row b j at xs n) (joined f n) (f n) (omega arith)
    (all_joined _ f n
    (λ k h. all_then _ _ (λ l w. omega (arith, w.1, total_past (λ i. octants_of b j (part j i xs)) k n h)) (f k)
    (labelled_within b j (child_row b j at xs k) (part j k xs))))
    (children_rising b j at xs ih n) (ih n)

-- The rows never fall in the order.
pub labelled_rising : (b j at : ℕ) (xs : List Placed) → Rising at (labelled b j at xs)
unfolding labelled
labelled_rising b zero at xs = leaf_rising at xs
labelled_rising b (suc j) at xs = go (splits b (suc j) xs) refl (λ k. labelled_rising b j (child_row b j at xs k) (part j k xs))
  where
    go : (r : Bool) → splits b (suc j) xs ≡ r → ((k : ℕ) → Rising (child_row b j at xs k) (child_labels b j at xs k))
        → Rising at (labelled b (suc j) at xs)
    go true e ih = rw (e, labelled) (children_rising b j at xs ih children)
    go false e ih = rw (e, labelled) (leaf_rising at xs)

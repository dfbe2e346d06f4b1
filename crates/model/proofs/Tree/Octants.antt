-- The octant count: at most 17 times the sample count, and it never falls when a sample is added (document 01, "The bin": the tree).
use Prim.Native.Nat.{ℕ, zero, suc, ◌*◌, ◌≤◌}
use mathlib.Core.Bool.{Bool, true, false}
use mathlib.Core.List.{List, [], ◌∷◌, ◌++◌}
use mathlib.Core.Path.{◌≡◌, refl, ap, ◌∙◌}
use lib.Dec.{eqb, leb-suc-zero}
use lib.ListN.{length}
use native.Mathlib.Omega.{arith}
use native.Mathlib.Nat.{suc-mul}
use borrow.Author.Tests.{ltb-true, ltb-false}
use Rattle.colour.specs.declared.Settings.{Settings}
use Rattle.colour.specs.declared.Sample.{Sample}
use Rattle.colour.specs.Octant.{depths, children, child_number}
use Rattle.model.specs.Lists.{keep, total}
use Rattle.model.specs.SampleSet.{SampleSet, Placed, placed_from, placed, part, splits, octants_of, octants}
use Rattle.model.proofs.Lists.{total_le, total_times}
use Rattle.model.proofs.Tree.Order.{parts_length, placed_length}

-- An octant that holds no sample is not in the tree.
pub no_octants : (b j : ℕ) → octants_of b j [] ≡ 0
unfolding octants_of splits
no_octants b zero = refl
no_octants b (suc j) = rw (leb-suc-zero b, octants_of)

-- A split octant holds samples.
pub split_some : (b j : ℕ) (xs : List Placed) → splits b (suc j) xs ≡ true → 1 ≤ length xs
unfolding splits
split_some b j xs e = omega (arith, ltb-true b (length xs) e)

-- At most one octant a depth for each sample.
pub octants_of_most : (b j : ℕ) (xs : List Placed) → octants_of b j xs ≤ suc j * length xs
unfolding octants_of
octants_of_most b zero xs = omega arith
octants_of_most b (suc j) xs = go (splits b (suc j) xs) refl (octants_of_most b j)
  where
    go : (r : Bool) → splits b (suc j) xs ≡ r → ((ys : List Placed) → octants_of b j ys ≤ suc j * length ys)
        → octants_of b (suc j) xs ≤ suc (suc j) * length xs
    go true e ih =
        let below : total (λ k. octants_of b j (part j k xs)) children ≤ total (λ k. suc j * length (part j k xs)) children =
        total_le (λ k. octants_of b j (part j k xs)) (λ k. suc j * length (part j k xs)) (λ k. ih (part j k xs)) children in
        let all : total (λ k. suc j * length (part j k xs)) children ≡ suc j * length xs =
        total_times (suc j) (λ k. length (part j k xs)) children ∙ ap (λ (n : ℕ). suc j * n) (parts_length j xs) in
        rw (e, octants_of) (omega (arith, below, all, suc-mul (suc j) (length xs), split_some b j xs e))
    go false e ih = rw (e, octants_of) (omega (arith, suc-mul (suc j) (length xs)))

pub octants_most : (set : SampleSet) → octants set ≤ 17 * length set.samples
unfolding octants placed depths
octants_most set =
    omega (arith, octants_of_most set.settings.bucket depths (placed set), placed_length 0 set.samples)

-- xs is ys with some left out, as far as colours go.
pub data Fewer : List Placed → List Placed → Type 0 where
  nothing : Fewer [] []
  skip : {y : Placed} {xs ys : List Placed} → Fewer xs ys → Fewer xs (y ∷ ys)
  both : {x y : Placed} {xs ys : List Placed} → x.sample.colour ≡ y.sample.colour → Fewer xs ys → Fewer (x ∷ xs) (y ∷ ys)

pub fewer_length : {xs ys : List Placed} → Fewer xs ys → length xs ≤ length ys
fewer_length nothing = omega arith
fewer_length (skip h) = omega (arith, fewer_length h)
fewer_length (both e h) = omega (arith, fewer_length h)

skip_part : (j k : ℕ) (y : Placed) (xs ys : List Placed) (r : Bool) → eqb (child_number j y.sample.colour) k ≡ r → Fewer xs (part j k ys)
    → Fewer xs (part j k (y ∷ ys))
unfolding part keep
skip_part j k y xs ys true e h = rw (e, keep) (skip h)
skip_part j k y xs ys false e h = rw (e, keep) h

both_part : (j k : ℕ) (x y : Placed) (xs ys : List Placed) (r : Bool) → eqb (child_number j y.sample.colour) k ≡ r
    → x.sample.colour ≡ y.sample.colour → Fewer (part j k xs) (part j k ys) → Fewer (part j k (x ∷ xs)) (part j k (y ∷ ys))
unfolding part keep
both_part j k x y xs ys true e c h = rw (c, e, keep) (both c h)
both_part j k x y xs ys false e c h = rw (c, e, keep) h

fewer_part : (j k : ℕ) {xs ys : List Placed} → Fewer xs ys → Fewer (part j k xs) (part j k ys)
unfolding part keep
fewer_part j k nothing = nothing
fewer_part j k (skip {y = y} {xs = xs} {ys = ys} h) =
    skip_part j k y (part j k xs) ys (eqb (child_number j y.sample.colour) k) refl (fewer_part j k h)
fewer_part j k (both {x = x} {y = y} {xs = xs} {ys = ys} e h) =
    both_part j k x y xs ys (eqb (child_number j y.sample.colour) k) refl e (fewer_part j k h)

octants_go : (b j : ℕ) (xs ys : List Placed) → length xs ≤ length ys
    → total (λ k. octants_of b j (part j k xs)) children ≤ total (λ k. octants_of b j (part j k ys)) children → (p q : Bool)
    → splits b (suc j) xs ≡ p → splits b (suc j) ys ≡ q → octants_of b (suc j) xs ≤ octants_of b (suc j) ys
unfolding octants_of splits
octants_go b j xs ys l t true true d e = rw (d, e, octants_of) (omega arith)
octants_go b j xs ys l t true false d e = absurd (omega (arith, ltb-true b (length xs) d, ltb-false b (length ys) e))
octants_go b j xs ys l t false true d e = rw (d, e, octants_of) (omega arith)
octants_go b j xs ys l t false false d e = rw (d, e, octants_of) (omega arith)

pub fewer_octants : (b j : ℕ) {xs ys : List Placed} → Fewer xs ys → octants_of b j xs ≤ octants_of b j ys
unfolding octants_of
fewer_octants b zero h = omega (arith, fewer_length h)
fewer_octants b (suc j) {xs} {ys} h =
    octants_go b j xs ys (fewer_length h)
    (total_le (λ k. octants_of b j (part j k xs)) (λ k. octants_of b j (part j k ys)) (λ k. fewer_octants b j (fewer_part j k h)) children)
    (splits b (suc j) xs) (splits b (suc j) ys) refl refl

-- A set with some samples left out, by a test.
keep_go : (p : Sample → Bool) (i n : ℕ) (x : Sample) (xs : List Sample) (r : Bool) → p x ≡ r
    → ((m : ℕ) → Fewer (placed_from m (keep p xs)) (placed_from (suc n) xs)) → Fewer (placed_from i (keep p (x ∷ xs))) (placed_from n (x ∷ xs))
unfolding placed_from keep
keep_go p i n x xs true e h = rw (e, keep) (both refl (h (suc i)))
keep_go p i n x xs false e h = rw (e, keep) (skip (h i))

pub keep_fewer : (p : Sample → Bool) (i n : ℕ) (xs : List Sample) → Fewer (placed_from i (keep p xs)) (placed_from n xs)
unfolding placed_from keep
keep_fewer p i n [] = nothing
keep_fewer p i n (x ∷ xs) = keep_go p i n x xs (p x) refl (λ m. keep_fewer p m (suc n) xs)

-- A set with samples added at the end.
all_fewer : (n : ℕ) (ys : List Sample) → Fewer [] (placed_from n ys)
unfolding placed_from
all_fewer n [] = nothing
all_fewer n (y ∷ ys) = skip (all_fewer (suc n) ys)

append_fewer : (i : ℕ) (xs ys : List Sample) → Fewer (placed_from i xs) (placed_from i (xs ++ ys))
unfolding placed_from
append_fewer i [] ys = all_fewer i ys
append_fewer i (x ∷ xs) ys = both refl (append_fewer (suc i) xs ys)

-- The octant count never falls when samples are added.
pub octants_grow : (b : Settings) (xs ys : List Sample)
    → octants (record { settings = b; samples = xs }) ≤ octants (record { settings = b; samples = xs ++ ys })
unfolding octants placed
octants_grow b xs ys = fewer_octants b.bucket depths (append_fewer 0 xs ys)

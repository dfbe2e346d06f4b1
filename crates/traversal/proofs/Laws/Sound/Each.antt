-- What holds of each element of a list.
use Prim.Native.Nat.{ℕ, zero, suc, ◌<◌}
use mathlib.Core.Bool.{Bool, true, false}
use mathlib.Core.List.{List, [], ◌∷◌, ◌++◌}
use mathlib.Core.Path.{◌≡◌, refl, ap}
use native.Mathlib.Omega.{arith}
use lib.Dec.{eqb}
use Rattle.colour.specs.Octant.{children, child_number}
use Rattle.model.specs.Lists.{keep, joined}
use Rattle.model.specs.SampleSet.{Placed, part, splits, order_of}

unfoldable pub All : {A : Type 0} → (A → Type 0) → List A → Type 0
All P [] = Unit {0}
All P (x ∷ rest) = P x × All P rest

-- What is kept passes the test.
pub all_kept : {A : Type 0} (p : A → Bool) (xs : List A) → All (λ x. p x ≡ true) (keep p xs)
unfolding All keep
all_kept p [] = tt
all_kept p (x ∷ xs) = go (p x) refl (all_kept p xs)
  where
    go : (r : Bool) → p x ≡ r → All (λ y. p y ≡ true) (keep p xs) → All (λ y. p y ≡ true) (keep p (x ∷ xs))
    go true e ih = rw (e, keep) (e, ih)
    go false e ih = rw (e, keep) ih

-- Where all fail a test, nothing is kept.
pub keep_refused : {A : Type 0} (p : A → Bool) (xs : List A) → All (λ x. p x ≡ false) xs → keep p xs ≡ []
unfolding All keep
keep_refused p [] h = refl
keep_refused p (x ∷ xs) h = rw (h.0, keep) (keep_refused p xs h.1)

-- Where all pass a test, all are kept.
pub keep_passed : {A : Type 0} (p : A → Bool) (xs : List A) → All (λ x. p x ≡ true) xs → keep p xs ≡ xs
unfolding All keep
keep_passed p [] h = refl
keep_passed p (x ∷ xs) h = rw (h.0, keep) (ap (λ (l : List _). x ∷ l) (keep_passed p xs h.1))

-- What follows from it holds too.
pub all_then : {A : Type 0} (P Q : A → Type 0) → ((x : A) → P x → Q x) → (xs : List A) → All P xs → All Q xs
unfolding All
all_then P Q f [] h = tt
all_then P Q f (x ∷ xs) h = (f x h.0, all_then P Q f xs h.1)

pub all_both : {A : Type 0} (P Q : A → Type 0) (xs : List A) → All P xs → All Q xs → All (λ x. P x × Q x) xs
unfolding All
all_both P Q [] h k = tt
all_both P Q (x ∷ xs) h k = ((h.0, k.0), all_both P Q xs h.1 k.1)

-- What holds of each element of a list holds of each that is kept, of each of lists that are joined, and of an octant's samples in their order.
module _ {A : Type 0} (P : A → Type 0) where
  pub all_keep : (p : A → Bool) (xs : List A) → All P xs → All P (keep p xs)
  unfolding All keep
  all_keep p [] h = tt
  all_keep p (x ∷ xs) h = go (p x) refl (all_keep p xs h.1)
    where
      go : (r : Bool) → p x ≡ r → All P (keep p xs) → All P (keep p (x ∷ xs))
      go true e ih = rw (e, keep) (h.0, ih)
      go false e ih = rw (e, keep) ih

  pub all_append : (xs ys : List A) → All P xs → All P ys → All P (xs ++ ys)
  unfolding All
  all_append [] ys h k = k
  all_append (x ∷ xs) ys h k = (h.0, all_append xs ys h.1 k)

  pub all_joined : (f : ℕ → List A) (n : ℕ) → ((k : ℕ) → k < n → All P (f k)) → All P (joined f n)
  unfolding All joined
  all_joined f zero h = tt
  all_joined f (suc n) h = all_append (joined f n) (f n) (all_joined f n (λ k l. h k (omega arith))) (h n (omega arith))

pub all_part : (P : Placed → Type 0) (j k : ℕ) (xs : List Placed) → All P xs → All P (part j k xs)
unfolding part
all_part P j k xs h = all_keep P (λ x. eqb (child_number j x.sample.colour) k) xs h

pub all_order : (P : Placed → Type 0) (b j : ℕ) (xs : List Placed) → All P xs → All P (order_of b j xs)
unfolding order_of
all_order P b zero xs h = h
all_order P b (suc j) xs h = go (splits b (suc j) xs) refl (λ k. all_order P b j (part j k xs) (all_part P j k xs h))
  where
    go : (r : Bool) → splits b (suc j) xs ≡ r → ((k : ℕ) → All P (order_of b j (part j k xs))) → All P (order_of b (suc j) xs)
    go true e ih = rw (e, order_of) (all_joined P (λ k. order_of b j (part j k xs)) children (λ k l. ih k))
    go false e ih = rw (e, order_of) h

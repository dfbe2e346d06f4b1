-- Laws of what a test keeps, and of joined lists.
use Prim.Native.Nat.{ℕ, zero, suc, ◌≤◌, ◌<◌}
use mathlib.Core.Bool.{Bool, true, false}
use mathlib.Core.List.{List, [], ◌∷◌, ◌++◌, map, append-nil}
use mathlib.Core.Path.{◌≡◌, refl, sym, ap, ◌∙◌}
use lib.Dec.{eqb}
use lib.ListN.{length, get_or}
use native.Mathlib.Omega.{arith}
use borrow.Author.Tests.{eqb-true, eqb-false}
use Rattle.model.specs.Lists.{keep, joined}
use Rattle.model.proofs.Lists.{keep_length}

module _ {A : Type 0} where
  -- A test that as many pass as there are passes for all.
  pub keep_all : (p : A → Bool) (xs : List A) → length xs ≤ length (keep p xs) → keep p xs ≡ xs
  unfolding keep
  keep_all p [] h = refl
  keep_all p (x ∷ xs) h = go (p x) refl (keep_all p xs)
    where
      go : (r : Bool) → p x ≡ r → (length xs ≤ length (keep p xs) → keep p xs ≡ xs) → keep p (x ∷ xs) ≡ x ∷ xs
      go true e ih = let l : length (x ∷ xs) ≤ length (x ∷ keep p xs) = rw (e, keep) at h in rw (e, keep) (ap (λ (l : List A). x ∷ l) (ih (omega arith)))
      go false e ih = let l : length (x ∷ xs) ≤ length (keep p xs) = rw (e, keep) at h in absurd (omega (arith, keep_length p xs))

  pub keep_append : (p : A → Bool) (xs ys : List A) → keep p (xs ++ ys) ≡ keep p xs ++ keep p ys
  unfolding keep
  keep_append p [] ys = refl
  keep_append p (x ∷ xs) ys = go (p x) refl (keep_append p xs ys)
    where
      go : (r : Bool) → p x ≡ r → keep p (xs ++ ys) ≡ keep p xs ++ keep p ys → keep p (x ∷ xs ++ ys) ≡ keep p (x ∷ xs) ++ keep p ys
      go true e h = rw (e, keep) (ap (λ (l : List A). x ∷ l) h)
      go false e h = rw (e, keep) h

  pub keep_joined : (p : A → Bool) (f : ℕ → List A) (n : ℕ) → keep p (joined f n) ≡ joined (λ k. keep p (f k)) n
  unfolding joined keep
  keep_joined p f zero = refl
  keep_joined p f (suc n) = keep_append p (joined f n) (f n) ∙ ap (λ (l : List A). l ++ keep p (f n)) (keep_joined p f n)

  pub joined_same : (f g : ℕ → List A) (n : ℕ) → ((k : ℕ) → k < n → f k ≡ g k) → joined f n ≡ joined g n
  unfolding joined
  joined_same f g zero e = refl
  joined_same f g (suc n) e = cc (joined_same f g n (λ k h. e k (omega arith)), e n (omega arith))

  pub joined_none : (f : ℕ → List A) (n : ℕ) → ((k : ℕ) → k < n → f k ≡ []) → joined f n ≡ []
  unfolding joined
  joined_none f zero e = refl
  joined_none f (suc n) e = cc (joined_none f n (λ k h. e k (omega arith)), e n (omega arith))

  -- Parts of which all but one are empty.
  pub joined_one : (f : ℕ → List A) (k n : ℕ) → k < n → ((i : ℕ) → (i ≡ k → ⊥) → f i ≡ []) → joined f n ≡ f k
  unfolding joined
  joined_one f k zero h e = absurd (omega arith)
  joined_one f k (suc n) h e = go (eqb k n) refl (λ l. joined_one f k n l e)
    where
      go : (r : Bool) → eqb k n ≡ r → (k < n → joined f n ≡ f k) → joined f (suc n) ≡ f k
      go true d ih =
          let m : k ≡ n = eqb-true k n d in
          ap (λ (l : List A). l ++ f n) (joined_none f n (λ i l. e i (λ q. omega arith))) ∙ ap f (sym m)
      go false d ih =
          let ne : k ≡ n → ⊥ = eqb-false k n d in
          ap (λ (l : List A). joined f n ++ l) (e n (λ q. ne (sym q))) ∙ append-nil (joined f n) ∙ ih (omega (arith, ne))

  pub keep_none : (p : A → Bool) → ((x : A) → p x ≡ false) → (xs : List A) → keep p xs ≡ []
  unfolding keep
  keep_none p h [] = refl
  keep_none p h (x ∷ xs) = rw (h x, keep) (keep_none p h xs)

  pub keep_twice : (p q : A → Bool) → ((x : A) → p x ≡ true → q x ≡ true) → (xs : List A) → keep q (keep p xs) ≡ keep p xs
  unfolding keep
  keep_twice p q h [] = refl
  keep_twice p q h (x ∷ xs) = go (p x) refl (keep_twice p q h xs)
    where
      go : (r : Bool) → p x ≡ r → keep q (keep p xs) ≡ keep p xs → keep q (keep p (x ∷ xs)) ≡ keep p (x ∷ xs)
      go true e ih = rw (e, keep, h x e, keep) (ap (λ (l : List A). x ∷ l) ih)
      go false e ih = rw (e, keep) ih

  pub keep_neither : (p q : A → Bool) → ((x : A) → p x ≡ true → q x ≡ false) → (xs : List A) → keep q (keep p xs) ≡ []
  unfolding keep
  keep_neither p q h [] = refl
  keep_neither p q h (x ∷ xs) = go (p x) refl (keep_neither p q h xs)
    where
      go : (r : Bool) → p x ≡ r → keep q (keep p xs) ≡ [] → keep q (keep p (x ∷ xs)) ≡ []
      go true e ih = rw (e, keep, h x e, keep) ih
      go false e ih = rw (e, keep) ih

-- What holds of each element holds of each that is kept, and it passes the test.
pub keep_each : {A : Type 0} (P : A → Type 0) (p : A → Bool) (d : A) (xs : List A) → ((i : ℕ) → i < length xs → P (get_or xs i d))
    → (i : ℕ) → i < length (keep p xs) → P (get_or (keep p xs) i d) × (p (get_or (keep p xs) i d) ≡ true)
unfolding keep
keep_each P p d [] h = λ i l. absurd (omega arith)
keep_each P p d (x ∷ xs) h = go (p x) refl (keep_each P p d xs (λ j m. h (suc j) (omega arith)))
  where
    go : (r : Bool) → p x ≡ r → ((i : ℕ) → i < length (keep p xs) → P (get_or (keep p xs) i d) × (p (get_or (keep p xs) i d) ≡ true))
        → (i : ℕ) → i < length (keep p (x ∷ xs)) → P (get_or (keep p (x ∷ xs)) i d) × (p (get_or (keep p (x ∷ xs)) i d) ≡ true)
    go true e ih = rw (e, keep) (elim [ zero ↦ λ l. (h 0 (omega arith), e) | suc i ↦ λ l. ih i (omega arith) ])
    go false e ih = rw (e, keep) ih

pub keep_map : {A B : Type 0} (p : A → Bool) (q : B → Bool) (f : A → B) → ((x : A) → p x ≡ q (f x)) → (xs : List A)
    → map f (keep p xs) ≡ keep q (map f xs)
unfolding keep
keep_map p q f e [] = refl
keep_map {A} {B} p q f e (x ∷ xs) = go (p x) refl (keep_map p q f e xs)
  where
    go : (r : Bool) → p x ≡ r → map f (keep p xs) ≡ keep q (map f xs) → map f (keep p (x ∷ xs)) ≡ keep q (map f (x ∷ xs))
    go true d h = rw (d, sym (e x) ∙ d, keep) (ap (λ (l : List B). f x ∷ l) h)
    go false d h = rw (d, sym (e x) ∙ d, keep) h

pub map_same : {A B : Type 0} (f g : A → B) → ((x : A) → f x ≡ g x) → (xs : List A) → map f xs ≡ map g xs
map_same f g e [] = refl
map_same f g e (x ∷ xs) = cc (e x, map_same f g e xs)

-- Laws of lists and sums. A list is weighed by a weight of each element: two lists that weigh the same by every weight are rearrangements
-- of each other.
use Prim.Native.Nat.{ℕ, zero, suc, ◌+◌, ◌*◌, ◌≤◌, ◌<◌}
use native.Mathlib.Nat.{mul-add, mul-zero}
use mathlib.Core.Bool.{Bool, true, false}
use mathlib.Core.List.{List, [], ◌∷◌, ◌++◌}
use mathlib.Core.Path.{◌≡◌, refl, sym, ap, ◌∙◌}
use lib.Dec.{eqb}
use lib.ListN.{length, length-append}
use native.Mathlib.Numerals.{add-one}
use native.Mathlib.Omega.{arith}
use borrow.Author.Tests.{eqb-true, eqb-false, ne_eqb}
use Rattle.model.specs.Lists.{keep, joined, total}

-- Sums.
pub total_le : (f g : ℕ → ℕ) → ((k : ℕ) → f k ≤ g k) → (n : ℕ) → total f n ≤ total g n
unfolding total
total_le f g h zero = omega arith
total_le f g h (suc n) = omega (arith, h n, total_le f g h n)

-- Sums of the first n terms, of terms that are the same below n.
pub total_same_below : (f g : ℕ → ℕ) (n : ℕ) → ((k : ℕ) → k < n → f k ≡ g k) → total f n ≡ total g n
unfolding total
total_same_below f g zero h = refl
total_same_below f g (suc n) h = omega (arith, h n (omega arith), total_same_below f g n (λ k l. h k (omega arith)))

pub total_same : (f g : ℕ → ℕ) → ((k : ℕ) → f k ≡ g k) → (n : ℕ) → total f n ≡ total g n
total_same f g h n = total_same_below f g n (λ k l. h k)

-- A term more.
pub total_next : (f : ℕ → ℕ) (k : ℕ) → total f (k + 1) ≡ total f k + f k
unfolding total
total_next f k = ap (total f) (add-one k)

-- A sum of fewer terms is no more.
pub total_fewer : (f : ℕ → ℕ) (k n : ℕ) → k ≤ n → total f k ≤ total f n
unfolding total
total_fewer f k zero h = let z : k ≡ 0 = omega arith in rw z (omega arith)
total_fewer f k (suc n) h = go (eqb k (suc n)) refl (λ l. total_fewer f k n l)
  where
    go : (r : Bool) → eqb k (suc n) ≡ r → (k ≤ n → total f k ≤ total f n) → total f k ≤ total f (suc n)
    go true e rest = omega (arith, ap (total f) (eqb-true k (suc n) e))
    go false e rest = omega (arith, rest (omega (arith, eqb-false k (suc n) e)))

-- The terms before k and term k come to at most the first n, for k below n.
pub total_past : (f : ℕ → ℕ) (k n : ℕ) → k < n → total f k + f k ≤ total f n
unfolding total
total_past f k n h = total_fewer f (suc k) n h

pub total_add : (f g : ℕ → ℕ) (n : ℕ) → total (λ k. f k + g k) n ≡ total f n + total g n
unfolding total
total_add f g zero = refl
total_add f g (suc n) = omega (arith, total_add f g n)

pub total_times : (c : ℕ) (f : ℕ → ℕ) (n : ℕ) → total (λ k. c * f k) n ≡ c * total f n
unfolding total
total_times c f zero = sym (mul-zero c)
total_times c f (suc n) = rw (total_times c f n) (sym (mul-add c (total f n) (f n)))

pub total_none : (n : ℕ) → total (λ k. 0) n ≡ 0
unfolding total
total_none zero = refl
total_none (suc n) = omega (arith, total_none n)

-- c where the test passes.
unfoldable pub if : Bool → ℕ → ℕ
if true c = c
if false c = 0

-- One term of a sum is c, and the others are 0.
none_below : (i c n : ℕ) → n ≤ i → total (λ k. if (eqb i k) c) n ≡ 0
unfolding total if
none_below i c zero h = refl
none_below i c (suc n) h = rw (ne_eqb i n (omega arith)) (omega (arith, none_below i c n (omega arith)))

pub total_one : (i c n : ℕ) → i < n → total (λ k. if (eqb i k) c) n ≡ c
unfolding total if
total_one i c zero h = absurd (omega arith)
total_one i c (suc n) h = go (eqb i n) refl (λ l. total_one i c n l)
  where
    go : (r : Bool) → eqb i n ≡ r → (i < n → total (λ k. if (eqb i k) c) n ≡ c) → total (λ k. if (eqb i k) c) (suc n) ≡ c
    go true e rest = let d : i ≡ n = eqb-true i n e in rw e (omega (arith, none_below i c n (omega arith)))
    go false e rest = let l : i < n = omega (arith, eqb-false i n e) in rw e (omega (arith, rest l))

-- Weights.
unfoldable pub weigh : {A : Type 0} → (A → ℕ) → List A → ℕ
weigh w [] = 0
weigh w (x ∷ rest) = w x + weigh w rest

module _ {A : Type 0} where
  pub length_weigh : (xs : List A) → length xs ≡ weigh (λ x. 1) xs
  unfolding weigh
  length_weigh [] = refl
  length_weigh (x ∷ rest) = omega (arith, length_weigh rest)

  pub keep_weigh : (w : A → ℕ) (p : A → Bool) (xs : List A) → weigh w (keep p xs) ≡ weigh (λ x. if (p x) (w x)) xs
  unfolding weigh keep if
  keep_weigh w p [] = refl
  keep_weigh w p (x ∷ rest) = go (p x) refl (keep_weigh w p rest)
    where
      go : (r : Bool) → p x ≡ r → weigh w (keep p rest) ≡ weigh (λ y. if (p y) (w y)) rest
          → weigh w (keep p (x ∷ rest)) ≡ weigh (λ y. if (p y) (w y)) (x ∷ rest)
      go true e h = rw (e, keep) (omega arith)
      go false e h = rw (e, keep) (omega arith)

  pub weigh_append : (w : A → ℕ) (xs ys : List A) → weigh w (xs ++ ys) ≡ weigh w xs + weigh w ys
  unfolding weigh
  weigh_append w [] ys = omega arith
  weigh_append w (x ∷ rest) ys = omega (arith, weigh_append w rest ys)

  pub weigh_joined : (w : A → ℕ) (f : ℕ → List A) (n : ℕ) → weigh w (joined f n) ≡ total (λ k. weigh w (f k)) n
  unfolding joined total weigh
  weigh_joined w f zero = refl
  weigh_joined w f (suc n) = omega (arith, weigh_append w (joined f n) (f n), weigh_joined w f n)

  pub joined_length : (f : ℕ → List A) (n : ℕ) → length (joined f n) ≡ total (λ k. length (f k)) n
  unfolding joined total
  joined_length f zero = refl
  joined_length f (suc n) = omega (arith, length-append (joined f n) (f n), joined_length f n)

  -- The parts of a list by a number of each element weigh what the list does.
  pub weigh_parts : (w : A → ℕ) (g : A → ℕ) (n : ℕ) → ((x : A) → g x < n) → (xs : List A)
      → total (λ k. weigh w (keep (λ x. eqb (g x) k) xs)) n ≡ weigh w xs
  unfolding weigh keep if
  weigh_parts w g n h [] = total_none n
  weigh_parts w g n h (x ∷ rest) =
      total_same (λ k. weigh w (keep (λ y. eqb (g y) k) (x ∷ rest))) (λ k. if (eqb (g x) k) (w x) + weigh w (keep (λ y. eqb (g y) k) rest))
      (λ k. one k (eqb (g x) k) refl) n
      ∙ total_add (λ k. if (eqb (g x) k) (w x)) (λ k. weigh w (keep (λ y. eqb (g y) k) rest)) n
      ∙ omega (arith, total_one (g x) (w x) n (h x), weigh_parts w g n h rest)
    where
      one : (k : ℕ) (r : Bool) → eqb (g x) k ≡ r
          → weigh w (keep (λ y. eqb (g y) k) (x ∷ rest)) ≡ if (eqb (g x) k) (w x) + weigh w (keep (λ y. eqb (g y) k) rest)
      one k true e = rw (e, keep)
      one k false e = rw (e, keep) (omega arith)

  pub keep_length : (p : A → Bool) (xs : List A) → length (keep p xs) ≤ length xs
  unfolding keep
  keep_length p [] = omega arith
  keep_length p (x ∷ rest) = go (p x) refl (keep_length p rest)
    where
      go : (r : Bool) → p x ≡ r → length (keep p rest) ≤ length rest → length (keep p (x ∷ rest)) ≤ length (x ∷ rest)
      go true e h = rw (e, keep) (omega arith)
      go false e h = rw (e, keep) (omega arith)

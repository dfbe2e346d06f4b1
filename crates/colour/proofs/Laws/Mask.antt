-- Masks: which bits are set, the least of them, and the mask without it.
use Prim.Native.Nat.{ℕ, zero, suc, ◌+◌, ◌-◌, ◌*◌, ◌/◌, ◌%◌, ◌^◌, ◌≤◌, ◌<◌}
use mathlib.Core.Bool.{Bool, true, false, ◌&&◌, and-eq-true_iff}
use mathlib.Core.Path.{◌≡◌, refl, sym, ap, ap₂, ◌∙◌, subst⁻¹}
use mathlib.Core.Logic.{inl, inr}
use native.Mathlib.Nat.{two-pow-succ, eq-or-lt_of_le}
use native.Mathlib.Omega.{arith}
use lib.Dec.{leb}
use lib.Pow.{pow_pos}
use lib.Count.{count_trailing_zeros, under}
use borrow.Author.Tests.{leb-true, leb-false, le-leb, lt-leb}
use Rattle.colour.specs.Mask.{bit_if, mask_of}

pub bit_most : (t : Bool) (w : ℕ) → bit_if t w ≤ w
unfolding bit_if
bit_most true w = omega arith
bit_most false w = omega arith

bit_double : (t : Bool) (n : ℕ) → bit_if t (2 ^ suc n) ≡ 2 * bit_if t (2 ^ n)
unfolding bit_if
bit_double true n = omega (arith, two-pow-succ n)
bit_double false n = refl

-- The highest bit and the rest.
mask_step : (f : ℕ → Bool) (n : ℕ) → mask_of f (suc n) ≡ mask_of f n + bit_if (f n) (2 ^ n)
unfolding mask_of bit_if
mask_step f n = refl

-- The lowest bit and the rest.
mask_low : (f : ℕ → Bool) (n : ℕ) → mask_of f (suc n) ≡ bit_if (f 0) 1 + 2 * mask_of (λ i. f (suc i)) n
unfolding mask_of bit_if
mask_low f zero = omega arith
mask_low f (suc n) =
    omega (arith, mask_step f (suc n), mask_step (λ i. f (suc i)) n, mask_low f n, bit_double (f (suc n)) n)

-- A mask of n bits is below 2 ^ n.
pub mask_small : (f : ℕ → Bool) (n : ℕ) → mask_of f n < 2 ^ n
unfolding mask_of
mask_small f zero = omega arith
mask_small f (suc n) = omega (arith, mask_step f n, mask_small f n, two-pow-succ n, bit_most (f n) (2 ^ n))

-- Tests that agree on the numbers below n have the same mask.
pub mask_same : (f g : ℕ → Bool) (n : ℕ) → ((i : ℕ) → i < n → f i ≡ g i) → mask_of f n ≡ mask_of g n
unfolding mask_of
mask_same f g zero e = refl
mask_same f g (suc n) e =
    mask_step f n ∙ ap₂ (λ (m : ℕ) (t : Bool). m + bit_if t (2 ^ n)) (mask_same f g n (λ i h. e i (omega arith))) (e n (omega arith)) ∙ sym (mask_step g n)

-- Tests that agree but at k, where f says yes and g says no, have masks that differ by the bit of k.
mask_differ : (f g : ℕ → Bool) (n k : ℕ) → k < n → f k ≡ true → g k ≡ false → ((i : ℕ) → (i ≡ k → ⊥) → f i ≡ g i) → mask_of f n ≡ mask_of g n + 2 ^ k
unfolding bit_if
mask_differ f g zero k h y z e = absurd (omega arith)
mask_differ f g (suc n) k h y z e =
    let bit : Bool → ℕ = λ t. bit_if t (2 ^ n) in
    let ef : mask_of f (suc n) ≡ mask_of f n + bit (f n) = mask_step f n in
    let eg : mask_of g (suc n) ≡ mask_of g n + bit (g n) = mask_step g n in
    elim (eq-or-lt_of_le {n = k} {m = n} (omega arith)) [
      | inl s ↦ omega (arith, mask_same f g n (λ i b. e i (λ q. omega arith)), ap bit (ap f (sym s) ∙ y), ap bit (ap g (sym s) ∙ z), ap (λ (j : ℕ). 2 ^ j) s)
      | inr s ↦ omega (arith, mask_differ f g n k s y z e, ap bit (e n (λ q. omega arith)))
    ]

-- The bit of a number that f says yes to is in the mask.
mask_has : (f : ℕ → Bool) (n k : ℕ) → k < n → f k ≡ true → 2 ^ k ≤ mask_of f n
unfolding bit_if
mask_has f zero k h y = absurd (omega arith)
mask_has f (suc n) k h y =
    elim (eq-or-lt_of_le {n = k} {m = n} (omega arith)) [
      | inl s ↦ omega (arith, mask_step f n, ap (λ (t : Bool). bit_if t (2 ^ n)) (ap f (sym s) ∙ y), ap (λ (j : ℕ). 2 ^ j) s)
      | inr s ↦ omega (arith, mask_step f n, mask_has f n k s y)
    ]

-- The least number below n that f says yes to.
record Least (f : ℕ → Bool) (n k : ℕ) : Type 0 where
  below : k < n
  is : f k ≡ true
  none : (i : ℕ) → i < k → f i ≡ false

-- The zeros below a mask's lowest bit count up to it.
mask_least : (f : ℕ → Bool) (d n : ℕ) → n ≤ d → (mask_of f n ≡ 0 → ⊥) → Least f n (count_trailing_zeros d (mask_of f n))
unfolding mask_of count_trailing_zeros bit_if
mask_least f d zero h z = absurd (z refl)
mask_least f zero (suc n) h z = absurd (omega arith)
mask_least f (suc d) (suc n) h z = go (f 0) refl (mask_least (λ i. f (suc i)) d n (omega arith))
  where
    m : ℕ
    m = mask_of f (suc n)

    rest : ℕ
    rest = mask_of (λ i. f (suc i)) n

    go : (t : Bool) → f 0 ≡ t → ((rest ≡ 0 → ⊥) → Least (λ i. f (suc i)) n (count_trailing_zeros d rest)) → Least f (suc n) (count_trailing_zeros (suc d) m)
    go true e above =
        let low : m ≡ 1 + 2 * rest = mask_low f n ∙ ap (λ (t : Bool). bit_if t 1 + 2 * rest) e in
        let odd : m % 2 ≡ 1 = omega (arith, low) in
        let t : count_trailing_zeros (suc d) m ≡ 0 = ap (λ (x : ℕ). under x (count_trailing_zeros d (m / 2))) odd in
        subst⁻¹ (Least f (suc n)) t (record { below = omega arith; is = e; none = λ i b. absurd (omega arith) })
    go false e above =
        let low : m ≡ 0 + 2 * rest = mask_low f n ∙ ap (λ (t : Bool). bit_if t 1 + 2 * rest) e in
        let even : m % 2 ≡ 0 = omega (arith, low) in
        let half : m / 2 ≡ rest = omega (arith, low) in
        let t : count_trailing_zeros (suc d) m ≡ suc (count_trailing_zeros d rest) = ap₂ (λ (x y : ℕ). under x (count_trailing_zeros d y)) even half in
        let l = above (λ q. z (omega (arith, low))) in
        subst⁻¹ (Least f (suc n)) t
        (record { below = omega (arith, l.below); is = l.is; none = elim [ zero ↦ λ b. e | suc i ↦ λ b. l.none i (omega arith) ] })

-- f from p on.
abbrev pub from : ℕ → (ℕ → Bool) → ℕ → Bool
from p f i = leb p i && f i

-- From 0 on is everywhere.
pub mask_start : (f : ℕ → Bool) (n : ℕ) → mask_of (from 0 f) n ≡ mask_of f n
mask_start f n = mask_same (from 0 f) f n (λ i h. rw (le-leb 0 i (omega arith)))

-- A mask that is 0 has nothing left.
pub mask_none : (f : ℕ → Bool) (p n : ℕ) → mask_of (from p f) n ≡ 0 → (i : ℕ) → p ≤ i → i < n → f i ≡ false
mask_none f p n z i a b = go (f i) refl
  where
    go : (t : Bool) → f i ≡ t → t ≡ false
    go true e = absurd (omega (arith, mask_has (from p f) n i b ((and-eq-true_iff (leb p i) (f i)).1 (le-leb p i a, e)), z, pow_pos i))
    go false e = refl

-- The first number from p on that f says yes to, and the mask m without it.
pub record First (f : ℕ → Bool) (p n m k : ℕ) : Type 0 where
  pub least : p ≤ k
  pub below : k < n
  pub is : f k ≡ true
  pub skipped : (i : ℕ) → p ≤ i → i < k → f i ≡ false
  pub within : 2 ^ k ≤ m
  pub rest : m - 2 ^ k ≡ mask_of (from (suc k) f) n

-- The least of what is left is the first, and the mask from the next number on is the mask without it.
first_of : (f : ℕ → Bool) (p n k : ℕ) → Least (from p f) n k → First f p n (mask_of (from p f) n) k
first_of f p n k l = record {
  least = least;
  below = l.below;
  is = yes.1;
  skipped = λ i a b. rw (le-leb p i a) at (l.none i b);
  within = omega (arith, step);
  rest = omega (arith, step);
}
  where
    yes : (leb p k ≡ true) × (f k ≡ true)
    yes = (and-eq-true_iff (leb p k) (f k)).0 l.is

    least : p ≤ k
    least = leb-true p k yes.0

    before : (i : ℕ) → i < suc k → from (suc k) f i ≡ false
    before i b = rw (lt-leb (suc k) i b)

    other : (i : ℕ) → (i ≡ k → ⊥) → (t : Bool) → leb i k ≡ t → from p f i ≡ from (suc k) f i
    other i q true b =
        let h : i ≤ k = leb-true i k b in
        l.none i (elim (eq-or-lt_of_le h) [ inl s ↦ absurd (q s) | inr s ↦ s ]) ∙ sym (before i (omega arith))
    other i q false b =
        let h : k < i = leb-false i k b in
        rw (le-leb p i (omega (arith, least)), le-leb (suc k) i h)

    step : mask_of (from p f) n ≡ mask_of (from (suc k) f) n + 2 ^ k
    step = mask_differ (from p f) (from (suc k) f) n k l.below l.is (before k (omega arith)) (λ i q. other i q (leb i k) refl)

-- The first of a mask that is not 0.
pub mask_first : (f : ℕ → Bool) (p n m : ℕ) → n ≤ 32 → m ≡ mask_of (from p f) n → (m ≡ 0 → ⊥) → First f p n m (count_trailing_zeros 32 m)
mask_first f p n m h e z =
    subst⁻¹ (λ (m : ℕ). First f p n m (count_trailing_zeros 32 m)) e (first_of f p n _ (mask_least (from p f) 32 n h (λ q. z (e ∙ q))))

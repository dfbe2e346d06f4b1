-- The closest and the farthest code, by the tests that `closest_gap` and `farthest_gap` make.
use Prim.Native.Nat.{ℕ, ◌+◌, ◌-◌, ◌≤◌, ◌<◌, max}
use mathlib.Core.Path.{◌≡◌, refl, ◌∙◌, ap}
use mathlib.Core.Bool.{Bool, true, false}
use native.Mathlib.Omega.{arith}
use borrow.Author.Tests.{le-leb, lt-leb, leb-true, leb-false}
use lib.Dec.{leb}
use Rattle.colour.specs.Colour.{apart}
use Rattle.colour.specs.Region.{closest_code, farthest_code}

-- A choice by a test that is known.
choose : Bool → ℕ → ℕ → ℕ
choose t a b = elim t [ true ↦ a | false ↦ b ]

taken : {t : Bool} (a b : ℕ) → t ≡ true → choose t a b ≡ a
unfolding choose
taken a b e = ap (λ (t : Bool). choose t a b) e

left : {t : Bool} (a b : ℕ) → t ≡ false → choose t a b ≡ b
unfolding choose
left a b e = ap (λ (t : Bool). choose t a b) e

module _ (low high x : ℕ) where
  pub closest_low : x ≤ low → closest_code low high x ≡ low
  unfolding closest_code choose
  closest_low h = taken _ _ (le-leb _ _ h)

  pub closest_high : low < x → high ≤ x → closest_code low high x ≡ high
  unfolding closest_code choose
  closest_high h k = left _ _ (lt-leb _ _ h) ∙ taken _ _ (le-leb _ _ k)

  pub closest_self : low < x → x < high → closest_code low high x ≡ x
  unfolding closest_code choose
  closest_self h k = left _ _ (lt-leb _ _ h) ∙ left _ _ (lt-leb _ _ k)

  -- A code outside is as far as its end of the two: the other difference is 0, and both are for a code inside.
  pub closest_apart : low ≤ high → apart x (closest_code low high x) ≡ (low - x) + (x - high)
  unfolding apart
  closest_apart l = below (leb x low) refl
    where
      above : (t : Bool) → leb high x ≡ t → low < x → (x - closest_code low high x) + (closest_code low high x - x) ≡ (low - x) + (x - high)
      above true e h = rw (closest_high h (leb-true _ _ e)) (omega (arith, h, leb-true _ _ e))
      above false e h = rw (closest_self h (leb-false _ _ e)) (omega (arith, h, leb-false _ _ e))

      below : (t : Bool) → leb x low ≡ t → (x - closest_code low high x) + (closest_code low high x - x) ≡ (low - x) + (x - high)
      below true e = rw (closest_low (leb-true _ _ e)) (omega (arith, l, leb-true _ _ e))
      below false e = above (leb high x) refl (leb-false _ _ e)

  -- The farther of the two ends.
  pub farthest_apart : apart x (farthest_code low high x) ≡ max (apart x low) (apart x high)
  unfolding farthest_code choose
  farthest_apart = by (leb (apart x low) (apart x high)) refl
    where
      by : (t : Bool) → leb (apart x low) (apart x high) ≡ t → apart x (choose t high low) ≡ max (apart x low) (apart x high)
      by true e = omega (arith, leb-true _ _ e)
      by false e = omega (arith, leb-false _ _ e)

-- The definitions of Panel say the paper's words, of a float of value m * up e / down e, with its sign; and how great codes get.
-- (Every code shown is exact and reads as the same code: `shown_meets` of Floats.Shown.)
use mathlib.Core.Path.{◌≡◌, refl, sym, ◌∙◌}
use mathlib.Core.Bool.{Bool, true, false, not, ◌||◌, true≢false, and-eq-true_iff}
use mathlib.Core.Logic.{◌⊎◌, inl, inr, ◌↔◌}
use Prim.Native.Nat.{ℕ, ◌*◌, ◌≤◌, ◌<◌}
use native.Mathlib.Nat.{le-div_iff_mul-le, div-lt_iff_lt-mul, div-mul-le_self, mul_assoc, mul-lt-mul_of_pos_left}
use native.Mathlib.Omega.{arith}
use lib.Dec.{ltb, eqb, lit<}
use borrow.Author.Tests.{ltb-true, lt-ltb, eqb-true, eq-eqb, le-leb}
use lib.IntN.{ℤ, pos}
use lib.Ieee.{Float, nan, inf, fin, up, down, round}
use lib.Ieee.Fits.{down_pos}
use Rattle.colour.specs.Channels.{PanelColour}
use Rattle.colour.specs.Colour.{Channel, Red, Green, Blue, each, code_in, is_code, codes_fit}
use Rattle.colour.specs.Panel.{below, code_of, channel_good, panel_good, codes_of, shown}
use Rattle.colour.proofs.Laws.Channels.{each_every}
use Rattle.colour.proofs.Floats.Answers.{float_in}

-- The code of v is the greatest k with k ≤ 65,536 × v.
pub code_greatest : (s : Bool) (m : ℕ) (e : ℤ)
    → (code_of (fin s m e) * down e ≤ 65536 * (m * up e)) × ((k : ℕ) → k * down e ≤ 65536 * (m * up e) → k ≤ code_of (fin s m e))
unfolding code_of
code_greatest s m e = (div-mul-le_self (65536 * (m * up e)) (down e), λ k h. (le-div_iff_mul-le (down_pos e)).1 h)

-- `below limit` is 0 ≤ v < limit: v has no minus sign, or is zero.
plus_or_zero : (s : Bool) (m : ℕ) → (not s || eqb m 0) ≡ true → (s ≡ false) ⊎ (m ≡ 0)
plus_or_zero true m e = inr (eqb-true m 0 e)
plus_or_zero false m e = inl refl

plus_or_zero_test : (s : Bool) (m : ℕ) → (s ≡ false) ⊎ (m ≡ 0) → (not s || eqb m 0) ≡ true
plus_or_zero_test s m (inl e) = rw e
plus_or_zero_test true m (inr e) = eq-eqb m 0 e
plus_or_zero_test false m (inr e) = refl

pub below_means : (limit : ℕ) (s : Bool) (m : ℕ) (e : ℤ)
    → (below limit (fin s m e) ≡ true) ↔ (((s ≡ false) ⊎ (m ≡ 0)) × (m * up e < limit * down e))
unfolding below
below_means limit s m e = (
  (λ h. (
    plus_or_zero s m ((and-eq-true_iff (not s || eqb m 0) (ltb (m * up e) (limit * down e))).0 h).0,
    ltb-true (m * up e) (limit * down e) ((and-eq-true_iff (not s || eqb m 0) (ltb (m * up e) (limit * down e))).0 h).1,
  )),
  λ h. rw (plus_or_zero_test s m h.0, lt-ltb (m * up e) (limit * down e) h.1),
)

-- No infinity and no NaN passes.
pub others_out : (limit : ℕ) → (below limit nan ≡ false) × ((s : Bool) → below limit (inf s) ≡ false)
unfolding below
others_out limit = (refl, λ s. refl)

-- Below a limit, the code is below 65,536 times it: 65,536 for a channel, 131,072 for a radius.
pub code_below : (limit : ℕ) (v : Float) → below limit v ≡ true → code_of v < 65536 * limit
unfolding code_of
code_below limit nan h = absurd (true≢false (sym h ∙ (others_out limit).0))
code_below limit (inf s) h = absurd (true≢false (sym h ∙ (others_out limit).1 s))
code_below limit (fin s m e) h =
    (div-lt_iff_lt-mul (down_pos e)).1
    (rw (mul_assoc 65536 limit (down e)) (mul-lt-mul_of_pos_left ((below_means limit s m e).0 h).1 (lit< tt)))

-- So a good panel colour's codes are codes.
code_in_lem : (h : Channel) (p : PanelColour) → code_in h (codes_of p) ≡ code_of (float_in h p)
unfolding code_in codes_of
code_in_lem Red p = refl
code_in_lem Green p = refl
code_in_lem Blue p = refl

pub good_fit : (p : PanelColour) → panel_good p ≡ true → codes_fit (codes_of p) ≡ true
unfolding panel_good each channel_good is_code codes_fit
good_fit p e =
    (each_every (λ h. is_code (code_in h (codes_of p)))).1
    (λ h. rw (code_in_lem h p)
    (le-leb (code_of (float_in h p)) 65535 (omega (arith, code_below 1 (float_in h p) ((each_every (λ h. channel_good (float_in h p))).0 e h)))))

-- The code 0 is shown as plus zero, so what a refusal shows is 0 in each channel.
pub shown_zero : shown 0 ≡ fin false 0 (pos 0)
unfolding shown round
shown_zero = refl

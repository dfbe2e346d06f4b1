-- The code of the float that sign, exponent field x and fraction t stand for, and so of a float by its bits.
use mathlib.Core.Path.{◌≡◌, refl, sym, ap, ◌∙◌}
use Prim.Native.Nat.{ℕ, zero, suc, ◌+◌, ◌-◌, ◌*◌, ◌/◌, ◌%◌, ◌^◌, ◌≤◌, ◌<◌}
use native.Mathlib.Nat.{le_of_eq, le_trans, lt_of_lt_of_le, lt_of_le_of_lt, mul_assoc, mul_comm, mul-pos, mul-le-mul_right, mul-lt-mul_of_pos_right, mod-eq_of_lt, div-eq_of_lt, mul-div-mul_right}
use native.Mathlib.Omega.{arith}
use mathlib.Core.Bool.{Bool, true, false, cond}
use lib.IntN.{pos}
use lib.Dec.{T, ltb, lt→ltb, eqb, leb, le→leb, not_T, eqb→eq, lit<}
use lib.Arith.{lt→nleb}
use lib.Pow.{pow-add, pow_pos, pow_mono, shl_lt}
use lib.Ieee.{Float, nan, inf, fin, binary32, odd, fits, of_fields, of_bits, to_bits}
use lib.Ieee.Bits.{cond_no, is_true, is_false, of_bits-to_bits, to_bits-lt}
use lib.Ieee.Exact.{odd_sign}
use Rattle.std.specs.Prelude.{Some, None}
use Rattle.colour.specs.Panel.{below, code_of, answer_if}
use Rattle.colour.proofs.Floats.Value.{coded, code_yes, code_no, code_minus}

-- The float of significand q and sign s that is q * 2 ^ x / 2 ^ 149, and its code.
abbrev scaled : Bool → ℕ → ℕ → Float
scaled s q x = odd 24 s q x 149

module _ (l q x : ℕ) where
  scaled_minus : 0 < q * 2 ^ x → coded l (scaled true q x) ≡ None
  scaled_minus h = code_minus l (scaled true q x) (q * 2 ^ x) (2 ^ 149) (odd_sign 24 true q x 149) h

  scaled_no : l * 2 ^ 149 ≤ q * 2 ^ x → coded l (scaled false q x) ≡ None
  scaled_no h = code_no l (scaled false q x) (q * 2 ^ x) (2 ^ 149) (pow_pos 149) (odd_sign 24 false q x 149) h

  scaled_yes : q * 2 ^ x < l * 2 ^ 149 → coded l (scaled false q x) ≡ Some (65536 * (q * 2 ^ x) / 2 ^ 149)
  scaled_yes h = code_yes l (scaled false q x) (q * 2 ^ x) (2 ^ 149) (pow_pos 149) (odd_sign 24 false q x 149) h

-- An exponent field of all ones is refused, so a refusal of the number that the fields would stand for is a refusal of all.
special : (l : ℕ) (s : Bool) (b d : Bool) (y : Float) → coded l y ≡ None → coded l (cond b (cond d (inf s) nan) y) ≡ None
unfolding answer_if below
special l s true true y e = refl
special l s true false y e = refl
special l s false d y e = e

-- Below zero.
minus_refused : (l x t : ℕ) → 0 < x + t → coded l (of_fields binary32 true x t) ≡ None
unfolding of_fields
minus_refused l zero t h = scaled_minus l t 0 (omega arith)
minus_refused l (suc x) t h =
    special l true (eqb (suc x) 255) (eqb t 0) (scaled true (8388608 + t) x)
    (scaled_minus l (8388608 + t) x (mul-pos (omega arith) (pow_pos x)))

-- At the limit or above.
high_refused : (j x t : ℕ) → 127 + j ≤ x → coded (2 ^ j) (of_fields binary32 false x t) ≡ None
unfolding of_fields
high_refused j zero t h = absurd (omega arith)
high_refused j (suc x) t h =
    special (2 ^ j) false (eqb (suc x) 255) (eqb t 0) (scaled false (8388608 + t) x)
    (scaled_no (2 ^ j) (8388608 + t) x
    (le_trans (le_of_eq (sym (pow-add 2 j 149)))
    (le_trans (pow_mono (omega arith)) (le_trans (le_of_eq (pow-add 2 23 x)) (mul-le-mul_right (2 ^ x) (omega arith))))))

-- From zero to the limit.
differ : (x : ℕ) → suc x < 255 → suc x ≡ 255 → ⊥
differ x h e = omega arith

under_ones : (t x : ℕ) → suc x < 255 → of_fields binary32 false (suc x) t ≡ scaled false (8388608 + t) x
unfolding of_fields
under_ones t x h =
    cond_no (eqb (suc x) 255) (cond (eqb t 0) (inf false) nan) (scaled false (8388608 + t) x)
    (not_T (eqb (suc x) 255) (λ u. differ x h (eqb→eq (suc x) 255 u)))

code_normal : (j x t : ℕ) → j ≤ 1 → suc x < 127 + j → t < 8388608
    → coded (2 ^ j) (of_fields binary32 false (suc x) t) ≡ Some (65536 * ((8388608 + t) * 2 ^ x) / 2 ^ 149)
code_normal j x t j≤1 h H =
    ap (coded (2 ^ j)) (under_ones t x (omega arith))
    ∙ scaled_yes (2 ^ j) (8388608 + t) x
    (lt_of_lt_of_le (shl_lt 24 x (omega arith)) (le_trans (pow_mono (omega arith)) (le_of_eq (pow-add 2 j 149))))

-- Below 2 ^ -16.
tiny : (a : ℕ) → a < 2 ^ 133 → 65536 * a / 2 ^ 149 ≡ 0
tiny a h = div-eq_of_lt (lt_of_le_of_lt (le_of_eq (mul_comm 65536 a)) (mul-lt-mul_of_pos_right h (lit< {m = 0} {n = 65536} tt)))

low_zero : (j x t : ℕ) → j ≤ 1 → x < 111 → t < 8388608 → coded (2 ^ j) (of_fields binary32 false x t) ≡ Some 0
low_zero j zero t j≤1 h H = unfold of_fields in
    scaled_yes (2 ^ j) t 0
    (lt_of_lt_of_le (shl_lt 24 0 (omega arith)) (le_trans (pow_mono {i = 24} {j = j + 149} (omega arith)) (le_of_eq (pow-add 2 j 149))))
    ∙ ap Some (tiny (t * 2 ^ 0) (lt_of_lt_of_le (shl_lt 24 0 (omega arith)) (pow_mono {i = 24} {j = 133} (omega arith))))
low_zero j (suc x) t j≤1 h H =
    code_normal j x t j≤1 (omega arith) H
    ∙ ap Some (tiny ((8388608 + t) * 2 ^ x) (lt_of_lt_of_le (shl_lt 24 x (omega arith)) (pow_mono {i = 24 + x} {j = 133} (omega arith))))

-- From 2 ^ -16 on: the significand without its lowest digits.
cut : (q x k : ℕ) → x + 16 + k ≡ 149 → 65536 * (q * 2 ^ x) / 2 ^ 149 ≡ q / 2 ^ k
cut q x k e =
    let up : 65536 * (q * 2 ^ x) ≡ q * 2 ^ (x + 16) =
    mul_comm 65536 (q * 2 ^ x) ∙ mul_assoc q (2 ^ x) 65536 ∙ ap (λ (z : ℕ). q * z) (sym (pow-add 2 x 16)) in
    let down : 2 ^ 149 ≡ 2 ^ k * 2 ^ (x + 16) = ap (λ (z : ℕ). 2 ^ z) (sym e) ∙ pow-add 2 (x + 16) k ∙ mul_comm (2 ^ (x + 16)) (2 ^ k) in
    ap (λ (z : ℕ). z / 2 ^ 149) up ∙ ap (λ (z : ℕ). q * 2 ^ (x + 16) / z) down ∙ mul-div-mul_right q (2 ^ k) (pow_pos (x + 16))

mid_is : (j x t : ℕ) → j ≤ 1 → 111 ≤ x → x < 127 + j → t < 8388608
    → coded (2 ^ j) (of_fields binary32 false x t) ≡ Some ((8388608 + t) / 2 ^ (134 - x))
mid_is j zero t j≤1 l h H = absurd (omega arith)
mid_is j (suc x) t j≤1 l h H = code_normal j x t j≤1 h H ∙ ap Some (cut (8388608 + t) x (134 - suc x) (omega arith))

zero_code : (j : ℕ) → coded (2 ^ j) (fin true 0 (pos 0)) ≡ Some 0
unfolding answer_if below code_of
zero_code j = ap (λ (b : Bool). answer_if b (fin true 0 (pos 0))) (is_true (ltb 0 (2 ^ j * 1)) (lt→ltb 0 (2 ^ j * 1) (mul-pos (pow_pos j) (lit< tt))))

-- A float of the format, by its bits.
module _ (x : Float) (F : T (fits binary32 x)) where
  abbrev bits : ℕ
  bits = to_bits binary32 x

  pub bits_lt : to_bits binary32 x < 4294967296
  bits_lt = to_bits-lt binary32 x F

  fields : x ≡ of_fields binary32 (leb 2147483648 bits) (bits % 2147483648 / 8388608) (bits % 8388608)
  unfolding of_bits
  fields = sym (of_bits-to_bits binary32 x F)

  plus : bits < 2147483648 → x ≡ of_fields binary32 false (bits / 8388608) (bits % 8388608)
  plus h =
      fields
      ∙ ap (λ (s : Bool). of_fields binary32 s (bits % 2147483648 / 8388608) (bits % 8388608)) (is_false (leb 2147483648 bits) (lt→nleb 2147483648 bits h))
      ∙ ap (λ (n : ℕ). of_fields binary32 false (n / 8388608) (bits % 8388608)) (mod-eq_of_lt h)

  minus : 2147483648 ≤ bits → x ≡ of_fields binary32 true (bits % 2147483648 / 8388608) (bits % 8388608)
  minus h =
      fields
      ∙ ap (λ (s : Bool). of_fields binary32 s (bits % 2147483648 / 8388608) (bits % 8388608)) (is_true (leb 2147483648 bits) (le→leb 2147483648 bits h))

  pub minus_zero : to_bits binary32 x ≡ 2147483648 → (j : ℕ) → coded (2 ^ j) x ≡ Some 0
  unfolding of_bits
  minus_zero h j = ap (coded (2 ^ j)) (sym (of_bits-to_bits binary32 x F) ∙ ap (of_bits binary32) h) ∙ zero_code j

  pub negative : (l : ℕ) → 2147483648 < to_bits binary32 x → coded l x ≡ None
  negative l h =
      ap (coded l) (minus (omega arith)) ∙ minus_refused l (bits % 2147483648 / 8388608) (bits % 8388608) (omega (arith, bits_lt))

  pub too_high : (j : ℕ) → to_bits binary32 x < 2147483648 → 127 + j ≤ to_bits binary32 x / 8388608 → coded (2 ^ j) x ≡ None
  too_high j h k = ap (coded (2 ^ j)) (plus h) ∙ high_refused j (bits / 8388608) (bits % 8388608) k

  pub too_low : (j : ℕ) → j ≤ 1 → to_bits binary32 x / 8388608 < 111 → coded (2 ^ j) x ≡ Some 0
  too_low j j≤1 k = ap (coded (2 ^ j)) (plus (omega arith)) ∙ low_zero j (bits / 8388608) (bits % 8388608) j≤1 k (omega arith)

  pub between : (j : ℕ) → j ≤ 1 → 111 ≤ to_bits binary32 x / 8388608 → to_bits binary32 x / 8388608 < 127 + j
      → coded (2 ^ j) x ≡ Some ((8388608 + to_bits binary32 x % 8388608) / 2 ^ (134 - to_bits binary32 x / 8388608))
  between j j≤1 l k = ap (coded (2 ^ j)) (plus (omega arith)) ∙ mid_is j (bits / 8388608) (bits % 8388608) j≤1 l k (omega arith)

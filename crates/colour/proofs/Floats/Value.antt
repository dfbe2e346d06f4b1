-- The code of a float by the fraction a / c that it equals: the definitions of Panel, which read m * up e / down e, read a / c as well.
use mathlib.Core.Path.{◌≡◌, sym, ap, ◌∙◌, subst}
use Prim.Native.Nat.{ℕ, ◌*◌, ◌/◌, ◌≤◌, ◌<◌}
use native.Mathlib.Nat.{lt_irrefl, lt_of_lt_of_le, lt_of_le_of_lt, le_of_eq, le_trans, le_of_mul-le-mul_right, lt_of_mul-lt-mul_right}
use native.Mathlib.Nat.{mul_assoc, mul_right_comm, mul-le-mul_right, mul-lt-mul_of_pos_right, mul-pos, zero-mul}
use mathlib.Core.Bool.{Bool, true, false}
use lib.Dec.{ltb, eqb, lt→ltb, not_T, eqb→eq}
use lib.Arith.{le→nltb}
use lib.Ieee.{Float, nan, inf, fin, up, down}
use lib.Ieee.Bits.{is_true, is_false}
use lib.Ieee.Exact.{HasValue}
use lib.Ieee.Fits.{down_pos}
use lib.Ieee.Nearest.{div_same}
use Rattle.colour.specs.Panel.{below, code_of, answer_if}
use Rattle.std.specs.Prelude.{Option, Some, None}

-- A float's code under a limit.
abbrev pub coded : ℕ → Float → Option ℕ
coded l x = answer_if (below l x) x

pub code_of_at : (x : Float) (s : Bool) (a c : ℕ) → 0 < c → HasValue x s a c → code_of x ≡ 65536 * a / c
unfolding code_of
code_of_at nan s a c C v = absurd v
code_of_at (inf t) s a c C v = absurd v
code_of_at (fin t m e) s a c C v =
    div_same (65536 * (m * up e)) (down e) (65536 * a) c (down_pos e) C
    (mul_assoc 65536 (m * up e) c ∙ ap (λ (z : ℕ). 65536 * z) v.1 ∙ sym (mul_assoc 65536 a (down e)))

-- x / d and a / c are one number, so both are below l or neither is.
less_at : (l x d a c : ℕ) → 0 < d → x * c ≡ a * d → a < l * c → x < l * d
less_at l x d a c D e h =
    lt_of_mul-lt-mul_right c (lt_of_le_of_lt (le_of_eq e) (lt_of_lt_of_le (mul-lt-mul_of_pos_right h D) (le_of_eq (mul_right_comm l c d))))

more_at : (l x d a c : ℕ) → 0 < c → x * c ≡ a * d → l * c ≤ a → l * d ≤ x
more_at l x d a c C e h =
    le_of_mul-le-mul_right (le_trans (le_of_eq (mul_right_comm l d c)) (le_trans (mul-le-mul_right d h) (le_of_eq (sym e)))) C

pub below_yes : (l : ℕ) (x : Float) (a c : ℕ) → HasValue x false a c → a < l * c → below l x ≡ true
unfolding below
below_yes l nan a c v h = absurd v
below_yes l (inf t) a c v h = absurd v
below_yes l (fin t m e) a c v h =
    rw v.0
    (is_true (ltb (m * up e) (l * down e)) (lt→ltb (m * up e) (l * down e) (less_at l (m * up e) (down e) a c (down_pos e) v.1 h)))

below_no : (l : ℕ) (x : Float) (a c : ℕ) → 0 < c → HasValue x false a c → l * c ≤ a → below l x ≡ false
unfolding below
below_no l nan a c C v h = absurd v
below_no l (inf t) a c C v h = absurd v
below_no l (fin t m e) a c C v h =
    rw v.0
    (is_false (ltb (m * up e) (l * down e)) (le→nltb (m * up e) (l * down e) (more_at l (m * up e) (down e) a c C v.1 h)))

zero_value : (m u a d c : ℕ) → 0 < d → 0 < a → m * u * c ≡ a * d → m ≡ 0 → ⊥
zero_value m u a d c D A e z =
    lt_irrefl 0 (subst (λ (n : ℕ). 0 < n) (sym e ∙ ap (λ (n : ℕ). n * u * c) z ∙ ap (λ (n : ℕ). n * c) (zero-mul u) ∙ zero-mul c) (mul-pos A D))

below_minus : (l : ℕ) (x : Float) (a c : ℕ) → HasValue x true a c → 0 < a → below l x ≡ false
unfolding below
below_minus l nan a c v h = absurd v
below_minus l (inf t) a c v h = absurd v
below_minus l (fin t m e) a c v h =
    rw (v.0, is_false (eqb m 0) (not_T (eqb m 0) (λ t. zero_value m (up e) a (down e) c (down_pos e) h v.1 (eqb→eq m 0 t))))

-- Below the limit, at it or above, and below zero.
pub code_yes : (l : ℕ) (x : Float) (a c : ℕ) → 0 < c → HasValue x false a c → a < l * c → coded l x ≡ Some (65536 * a / c)
unfolding answer_if
code_yes l x a c C v h = rw (below_yes l x a c v h, code_of_at x false a c C v)

pub code_no : (l : ℕ) (x : Float) (a c : ℕ) → 0 < c → HasValue x false a c → l * c ≤ a → coded l x ≡ None
unfolding answer_if
code_no l x a c C v h = rw (below_no l x a c C v h)

pub code_minus : (l : ℕ) (x : Float) (a c : ℕ) → HasValue x true a c → 0 < a → coded l x ≡ None
unfolding answer_if
code_minus l x a c v h = rw (below_minus l x a c v h)

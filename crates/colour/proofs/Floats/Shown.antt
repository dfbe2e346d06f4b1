-- A code shown as a float: the one division by 65,536 is exact, and the code comes back.
use mathlib.Core.Path.{◌≡◌, refl, sym, ap, ◌∙◌}
use Prim.Native.Nat.{ℕ, ◌*◌, ◌^◌, ◌<◌}
use native.Mathlib.Nat.{mul_assoc, mul_comm, mul-pos, mul-div_cancel_left, lt_of_lt_of_le}
use native.Mathlib.Omega.{arith}
use mathlib.Core.Bool.{Bool, false}
use lib.Dec.{lit<, lit≤}
use lib.IntN.{pos}
use lib.Pow.{pow_mono, shl_lt}
use lib.Ieee.{Float, nan, inf, fin, binary32, up, down, round, div, of_int, of_bits}
use lib.Ieee.Fits.{down_pos}
use lib.Ieee.Exact.{HasValue, round_exact}
use lib.Ieee.Back.{round_whole}
use lib.Ieee.Scale.{round_same}
use Rattle.colour.specs.Panel.{channel_good, shown, Shown}
use Rattle.colour.proofs.Floats.Value.{below_yes, code_of_at}

-- A float of value n, divided by 65,536, is n / 65,536 rounded once.
by_value : (x : Float) (n : ℕ) → HasValue x false n 1 → div binary32 x (fin false 1 (pos 16)) ≡ round binary32 false n 65536
unfolding div
by_value nan n v = absurd v
by_value (inf t) n v = absurd v
by_value (fin t m e) n v =
    ap (λ (s : Bool). div binary32 (fin s m e) (fin false 1 (pos 16))) v.0
    ∙ round_same binary32 false (m * up e * 1) (65536 * down e) n 65536 (mul-pos (lit< {m = 0} {n = 65536} tt) (down_pos e)) (lit< tt)
    (ap (λ (z : ℕ). z * 65536) v.1 ∙ mul_assoc n (down e) 65536 ∙ ap (λ (z : ℕ). n * z) (mul_comm (down e) 65536))

-- The division that `show` does; 1199570944 is 65536.0 in bits.
pub divided : (n : ℕ) → n < 65536 → div binary32 (of_int binary32 (pos n)) (of_bits binary32 1199570944) ≡ shown n
unfolding shown of_int of_bits
divided n h = by_value (round binary32 false n 1) n (round_whole binary32 false n (omega arith))

pub shown_exact : (n : ℕ) → n < 65536 → HasValue (shown n) false n 65536
unfolding shown
shown_exact n h =
    round_exact binary32 false n 65536 n 133 (lit< tt) (omega arith)
    (lt_of_lt_of_le (shl_lt 16 133 h) (pow_mono (lit≤ {m = 149} {n = 277} tt)))
    (sym (mul_assoc n (2 ^ 133) 65536))

-- Every code, shown, is exact and reads as the same code.
pub shown_meets : (n : ℕ) → n < 65536 → Shown n (shown n)
unfolding channel_good
shown_meets n h =
    let v = shown_exact n h in
    record {
      is = refl;
      exact = v;
      back = (below_yes 1 (shown n) n 65536 v h, code_of_at (shown n) false n 65536 (lit< tt) v ∙ mul-div_cancel_left n (lit< {m = 0} {n = 65536} tt));
    }

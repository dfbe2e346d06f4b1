-- Exclusive or, bit by bit.
use Prim.Native.Nat.{ℕ, ◌/◌, ◌%◌}
use mathlib.Core.Path.{◌≡◌, sym, ap, ◌∙◌}
use native.Mathlib.Omega.{arith}
use lib.Bits.{bit_xor, differ, xor_step, xor_self, xor_shr, xor_assoc}

-- The lowest bit, and the others.
module _ (a b : ℕ) where
  pub xor_half : bit_xor a b / 2 ≡ bit_xor (a / 2) (b / 2)
  xor_half = xor_shr a b 1

  pub xor_odd : bit_xor a b % 2 ≡ differ (a % 2) (b % 2)
  xor_odd = omega (arith, xor_step a b, xor_half)

-- A number that is changed twice by the same number is itself again.
pub xor_back : (a b : ℕ) → bit_xor a (bit_xor a b) ≡ b
xor_back a b = sym (xor_assoc a a b) ∙ ap (λ (n : ℕ). bit_xor n b) (xor_self a)

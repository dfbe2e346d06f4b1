-- `panel::code_of`: each return is a law of Floats.Fields at the float's bits.
use mathlib.Core.Path.{◌≡◌, refl, sym, ap, ◌∙◌, subst}
use mathlib.Core.Bool.{Bool, true, false, not, true≢false}
use Prim.Native.Nat.{ℕ, ◌+◌, ◌/◌, ◌^◌, ◌-◌, ◌≤◌}
use native.Mathlib.Omega.{arith}
use lib.Bits.{and_mask}
use borrow.Author.Tests.{ltb-true, ltb-false}
use lib.Dec.{T, ltb}
use lib.Ieee.{Float, nan, inf, fin, binary32, fits, is_nan, ne, to_bits}
use lib.Ieee.Compare.{differs_from_itself, nan_differs}
use Rattle.colour.specs.Panel.{below, answer_if}
use Rattle.std.specs.Prelude.{Some, None}
use Rattle.colour.proofs.Floats.Value.{coded}
use Rattle.colour.proofs.Floats.Fields.{minus_zero, negative, too_high, too_low, between}
use Rattle.colour.proofs.panel.code_of.Goals as goal
use Rattle.colour.proofs.panel.code_of.Goals.{Start}

held : (c : Start) → T (fits binary32 c.args.v)
held c = subst T (sym c.well_formed.0.1) tt

nan-refused : (l : ℕ) (x : Float) → x ≡ nan → None ≡ coded l x
unfolding answer_if below
nan-refused l x e = sym (ap (coded l) e)

no_nan : (x : Float) → ne x x ≡ false → T (not (is_nan x))
unfolding is_nan
no_nan nan e = absurd (true≢false (sym nan_differs ∙ e))
no_nan (inf s) e = tt
no_nan (fin s m e) h = tt

-- What the top bit says.
refused : (x : Float) → T (fits binary32 x) → (l : ℕ) → (to_bits binary32 x ≡ 2147483648 → ⊥) → 127 + l ≤ to_bits binary32 x / 8388608 → coded (2 ^ l) x ≡ None
refused x h l n e = go (ltb (to_bits binary32 x) 2147483648) refl
  where
    go : (t : Bool) → ltb (to_bits binary32 x) 2147483648 ≡ t → coded (2 ^ l) x ≡ None
    go true f = too_high x h l (ltb-true _ _ f) e
    go false f = negative x h (2 ^ l) (omega (arith, ltb-false _ _ f, n))

pub returns-then-v : goal.returns-then-v
returns-then-v c =
    nan-refused _ _ (differs_from_itself c.args.v (subst T (sym c.if-v.true) tt))

pub float_to_bits-bits : goal.float_to_bits-bits
float_to_bits-bits c =
    no_nan _ c.if-v.false

pub returns-then-bits : goal.returns-then-bits
returns-then-bits c =
    sym (minus_zero c.args.v (held (goal.at.returns-then-bits c).Start) c.if-bits.true c.args.twos)

pub returns-then-exponent-twos : goal.returns-then-exponent-twos
returns-then-exponent-twos c =
    sym (refused c.args.v (held (goal.at.returns-then-exponent-twos c).Start) c.args.twos c.if-bits.false (omega arith))

pub returns-then-exponent-lt111 : goal.returns-then-exponent-lt111
returns-then-exponent-lt111 c =
    sym (too_low c.args.v (held (goal.at.returns-then-exponent-lt111 c).Start) c.args.twos c.requires c.if-exponent-lt111.true)

pub returns : goal.returns
returns c =
    let b = to_bits binary32 c.args.v in
    ap (λ (t : ℕ). Some ((8388608 + t) / 2 ^ (134 - b / 8388608))) (and_mask b 23)
    ∙ sym (between c.args.v (held (goal.at.returns c).Start) c.args.twos c.requires c.if-exponent-lt111.false (omega arith))

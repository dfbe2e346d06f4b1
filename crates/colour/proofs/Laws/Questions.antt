-- What the number that questions give says of them (document 01, "Questions, in this order").
use Prim.Native.Nat.{ℕ}
use mathlib.Core.Bool.{Bool, true, false, true≢false}
use mathlib.Core.List.{List, [], ◌∷◌}
use mathlib.Core.Path.{◌≡◌, refl, sym}
use native.Mathlib.Omega.{arith}
use Rattle.colour.specs.declared.refusal.Refusal.{Refusal}
use Rattle.colour.specs.declared.refusal.Refusal.TheVariants as R
use Rattle.colour.specs.Question.{Question, asks, first_no}
use Rattle.colour.specs.Refusal.{refusal_number}

-- Where the number is 0, each question was answered with yes.
pub asked : (n : ℕ) (yes : Bool) (rest : List Question) → (n ≡ 0 → ⊥) → first_no (asks n yes ∷ rest) ≡ 0 → (yes ≡ true) × (first_no rest ≡ 0)
unfolding first_no
asked n true rest z h = (refl, h)
asked n false rest z h = absurd (z h)

-- A question answered with yes leaves the number to those after it; one answered with no gives its own.
pub first_yes : (n : ℕ) (yes : Bool) (rest : List Question) → yes ≡ true → first_no (asks n yes ∷ rest) ≡ first_no rest
unfolding first_no
first_yes n true rest e = refl
first_yes n false rest e = absurd (true≢false (sym e))

pub first_no_lem : (n : ℕ) (yes : Bool) (rest : List Question) → yes ≡ false → first_no (asks n yes ∷ rest) ≡ n
unfolding first_no
first_no_lem n false rest e = refl
first_no_lem n true rest e = absurd (true≢false e)

-- The last question, answered with yes, gives 0.
pub alone_yes : (n : ℕ) (yes : Bool) → yes ≡ true → first_no (asks n yes ∷ []) ≡ 0
unfolding first_no
alone_yes n q e = first_yes n q [] e

-- A refusal has a number: 0 is acceptance.
pub refusal_numbered : (r : Refusal) → refusal_number r ≡ 0 → ⊥
refusal_numbered R.TooShort e = omega arith
refusal_numbered R.Unsound e = omega arith
refusal_numbered R.Bucket e = omega arith
refusal_numbered R.Code e = omega arith
refusal_numbered R.KnownTag e = omega arith
refusal_numbered R.NoRow e = omega arith
refusal_numbered R.NoOctants e = omega arith
refusal_numbered R.UnknownTag e = omega arith
refusal_numbered R.OutOfRange e = omega arith
refusal_numbered R.Name e = omega arith
refusal_numbered R.Header e = omega arith
refusal_numbered R.Line e = omega arith
refusal_numbered R.NoRoom e = omega arith

-- Refusals (document 01, "Questions, in this order").
use Rattle.std.specs.Prelude.{ℕ, Result, Ok, Err}
use Rattle.colour.specs.declared.refusal.Refusal.{Refusal}
use Rattle.colour.specs.declared.refusal.Refusal.TheVariants as R

-- The paper's number for each case: that of the question which is answered with no.
abbrev pub refusal_number : Refusal → ℕ
refusal_number R.TooShort = 1
refusal_number R.Unsound = 2
refusal_number R.Bucket = 3
refusal_number R.Code = 4
refusal_number R.KnownTag = 5
refusal_number R.NoRow = 6
refusal_number R.NoOctants = 7
refusal_number R.UnknownTag = 8
refusal_number R.OutOfRange = 9
refusal_number R.Name = 10
refusal_number R.Header = 11
refusal_number R.Line = 12
refusal_number R.NoRoom = 13

-- The paper's number for an answer: 0 is acceptance.
abbrev pub answer_number : {T : Type 0} → Result T Refusal → ℕ
answer_number (Ok x) = 0
answer_number (Err r) = refusal_number r

-- One call is accepted or refused by its questions, and by nothing else.
use Prim.Native.Nat.{ℕ}
use mathlib.Core.List.{List}
use mathlib.Core.Path.{◌≡◌}
use borrow.Author.Tests.{eq-eqb, ne_eqb}
use Rattle.colour.specs.Question.{Question, first_no}
use Rattle.model.specs.Machine.{Machine, Call, Answer, plain, unless_refused, questions, accepted, refusal, step}

pub step_accepted : (m : Machine) (c : Call) → first_no (questions m c) ≡ 0 → step m c ≡ accepted m c
unfolding step
step_accepted m c z = rw (step, eq-eqb (first_no (questions m c)) 0 z)

pub step_refused : (m : Machine) (c : Call) → (first_no (questions m c) ≡ 0 → ⊥)
    → step m c ≡ refusal m c
unfolding step
step_refused m c n = rw (step, ne_eqb (first_no (questions m c)) 0 n)

-- The same of an answer alone.
pub answer_accepted : (qs : List Question) (listing : List ℕ) (a : Answer) → first_no qs ≡ 0 → unless_refused qs listing a ≡ a
unfolding unless_refused
answer_accepted qs listing a z = rw (unless_refused, eq-eqb (first_no qs) 0 z)

pub answer_refused : (qs : List Question) (listing : List ℕ) (a : Answer) → (first_no qs ≡ 0 → ⊥)
    → unless_refused qs listing a ≡ plain (first_no qs) listing
unfolding unless_refused
answer_refused qs listing a n = rw (unless_refused, ne_eqb (first_no qs) 0 n)

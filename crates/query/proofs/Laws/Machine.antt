-- What a query comes to in the machine: it changes nothing, and is answered by question 9 and then by the questions of what it wants.
use Prim.Native.Nat.{ℕ}
use mathlib.Core.Bool.{Bool, true, false}
use mathlib.Core.List.{List}
use mathlib.Core.Path.{◌≡◌, refl, sym, ap, ◌∙◌}
use native.Mathlib.Omega.{arith}
use borrow.Author.Tests.{eqb-true, eqb-false}
use lib.Dec.{eqb}
use Rattle.colour.specs.declared.Query.{Query}
use Rattle.colour.specs.Query.{query_good, query_questions, in_codes}
use Rattle.colour.specs.Question.{Question, first_no}
use Rattle.colour.proofs.Laws.Questions.{first_yes, first_no_lem}
use Rattle.model.specs.Machine.{Machine, Ask, lent, Answer, plain, unless_refused, with_set, wanted_questions, questions, Outcome, wanted_answer, accepted, refusal, step, next_state}
use Rattle.model.proofs.Machine.Step.{step_accepted, step_refused, answer_accepted, answer_refused}

-- An answer goes by the number alone.
same_number : (qs rs : List Question) (l : List ℕ) (a : Answer) → first_no qs ≡ first_no rs → unless_refused qs l a ≡ unless_refused rs l a
unfolding unless_refused
same_number qs rs l a e = ap (λ (n : ℕ). elim (eqb n 0) [ true ↦ a | false ↦ plain n l ]) e

module _ (m : Machine) (q : Query) (l : List ℕ) where
  abbrev put : List Question
  put = questions m (Ask q l)

  abbrev wants : Answer
  wants = wanted_answer m.set (in_codes q) l

  -- By its questions, with the set as it was.
  step_query : step m (Ask q l) ≡ record { answer = unless_refused put l wants; set = m.set }
  unfolding accepted refusal lent
  step_query = go (eqb (first_no put) 0) refl
    where
      go : (b : Bool) → eqb (first_no put) 0 ≡ b → step m (Ask q l) ≡ record { answer = unless_refused put l wants; set = m.set }
      go true e =
          let z = eqb-true (first_no put) 0 e in
          step_accepted m (Ask q l) z ∙ sym (ap (λ (a : Answer). record { answer = a; set = m.set }) (answer_accepted put l wants z))
      go false e =
          let n = eqb-false (first_no put) 0 e in
          step_refused m (Ask q l) n ∙ sym (ap (λ (a : Answer). record { answer = a; set = m.set }) (answer_refused put l wants n))

  pub query_same : next_state m (Ask q l) ≡ m
  unfolding next_state with_set
  query_same = ap (λ (o : Outcome). with_set m o.set) step_query

  pub query_refused : query_good q ≡ false → (step m (Ask q l)).answer ≡ plain 9 l
  unfolding questions query_questions
  query_refused g =
      let n = first_no_lem 9 (query_good q) (wanted_questions m.set (in_codes q) l) g in
      ap (λ (o : Outcome). o.answer) step_query
      ∙ answer_refused put l wants (λ z. omega arith)
      ∙ ap (λ (k : ℕ). plain k l) n

  pub query_wanted : query_good q ≡ true → (step m (Ask q l)).answer ≡ unless_refused (wanted_questions m.set (in_codes q) l) l wants
  unfolding questions query_questions
  query_wanted g =
      ap (λ (o : Outcome). o.answer) step_query
      ∙ same_number put (wanted_questions m.set (in_codes q) l) l wants (first_yes 9 (query_good q) (wanted_questions m.set (in_codes q) l) g)

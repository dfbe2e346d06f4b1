-- Refusals that are passed on, and the numbers of answers.
use mathlib.Core.Bool.{true, false, true≢false}
use mathlib.Core.Path.{◌≡◌, refl, sym, ◌∙◌, ap}
use Rattle.std.specs.Prelude.{Option, None, Result, Ok, Err}
use Rattle.std.specs.Option.{ok_or}
use Rattle.std.specs.Result.{IsErrAnd, is_ok, is_err}
use Rattle.std.proofs.lemmas.Result.{err_from_is_err_and}
use Rattle.colour.specs.declared.refusal.Refusal.{Refusal}
use Rattle.colour.specs.Refusal.{answer_number}
use Rattle.colour.proofs.Laws.Questions.{refusal_numbered}

-- What a function returns at a `?` that ends it: the refusal as it came.
pub passed_on : {T E : Type 0} (e : E) (r : Result T E) → IsErrAnd r (λ y. y ≡ e) → r ≡ Err e
passed_on e r h = let p = err_from_is_err_and r h in p.1 ∙ ap Err p.2

-- Of nothing `ok_or` makes the refusal that it is given.
pub refused_by : {T : Type 0} {o : Option T} (r e : Refusal) → o ≡ None → (◌≡◌ {A = Result T Refusal} (Err e) (ok_or o r)) → e ≡ r
refused_by {T} r e n h = let f : (◌≡◌ {A = Result T Refusal} (Err e) (Err r)) = h ∙ ap (λ (x : Option T). ok_or x r) n in cc

-- An answer that is refused has a number; one that is not has none.
pub refused_numbered : {T : Type 0} (a : Result T Refusal) (r : Refusal) → a ≡ Err r → answer_number a ≡ 0 → ⊥
refused_numbered a r e z = refusal_numbered r (sym (ap answer_number e) ∙ z)

pub accepted_numbered : {T : Type 0} (a : Result T Refusal) → is_ok a ≡ true → answer_number a ≡ 0
accepted_numbered (Ok x) e = refl
accepted_numbered (Err r) e = absurd (true≢false (sym e))

pub not_accepted_numbered : {T : Type 0} (a : Result T Refusal) → is_ok a ≡ false → answer_number a ≡ 0 → ⊥
not_accepted_numbered (Ok x) e z = absurd (true≢false e)
not_accepted_numbered (Err r) e z = refusal_numbered r z

-- An error is no success.
pub no_err_ok : {T : Type 0} (a : Result T Refusal) → is_err a ≡ false → is_ok a ≡ true
no_err_ok (Ok x) e = refl
no_err_ok (Err r) e = absurd (true≢false e)

-- `add::add`: questions 1 and 2, 4, 5 and 6, then the row.
use native.Mathlib.Omega.{arith}
use mathlib.Core.Bool.{true}
use mathlib.Core.Path.{◌≡◌, refl, sym, ap, subst⁻¹, ◌∙◌}
use Rattle.std.specs.Prelude.{Result, Err}
use Rattle.colour.specs.declared.refusal.Refusal.{Refusal}
use Rattle.colour.proofs.Floats.Answers.{fit_told, fit_refused}
use Rattle.colour.proofs.Laws.Refused.{passed_on}
use Rattle.colour.specs.Colour.{codes_fit}
use Rattle.model.specs.Tables.{pair}
use Rattle.model.specs.Machine.{Add, lent}
use Rattle.model.specs.Meets.{Meets}
use Rattle.model.proofs.Tables.Numbers.{current_numbers}
use Rattle.samples.specs.Answers.{changed_answer}
use Rattle.samples.specs.Steps.{FollowsAll}
use Rattle.samples.proofs.Laws.Meets.{first_refused, sound_follows}
use Rattle.samples.proofs.Laws.Shown.{headers_there, rows_there}
use Rattle.samples.proofs.Laws.Added.{codes_refused, new_refused, new_taken}
use Rattle.samples.proofs.add.add.Goals as goal
use Rattle.samples.proofs.add.add.Goals.{In_ok-try_from}

pub returns-in_err-sound : goal.returns-in_err-sound
unfolding Meets lent changed_answer
returns-in_err-sound c =
    let e = c.in_err-sound.field-0.0 in
    first_refused _ _ _ _ c.in_err-sound.ensures.set c.in_err-sound.ensures.number
    (ap changed_answer (passed_on e c.from_residual.result c.from_residual.ensures.1))

-- The sample has codes.
fits : (c : In_ok-try_from) → codes_fit c.args.s.colour ≡ true
fits c = (fit_told _ _ _ (sym c.try_from.ensures ∙ c.in_ok-try_from.was)).0

pub returns-in_err-try_from : goal.returns-in_err-try_from
unfolding Meets
returns-in_err-try_from c =
    let a = c.args in
    let e = c.in_err-try_from.field-0.0 in
    let no = fit_refused _ _ _ (sym c.try_from.ensures ∙ c.in_err-try_from.was) in
    sound_follows _ _ _ _ (c.in_ok-sound.ensures.set.sound refl)
    (subst⁻¹ (λ (r : Result (Unit {0}) Refusal). FollowsAll (Add a.s) (pair a.samples.now a.octants.now) (changed_answer r) (pair a.samples.now a.octants.now))
    (passed_on e c.from_residual-in_err-try_from.result c.from_residual-in_err-try_from.ensures.1)
    (subst⁻¹ (λ (r : Refusal). FollowsAll (Add a.s) (pair a.samples.now a.octants.now) (changed_answer (Err r)) (pair a.samples.now a.octants.now)) no.1
    (codes_refused a.samples.now a.octants.now a.s no.0)))

pub count-n-requires : goal.count-n-requires
count-n-requires c =
    omega (arith, current_numbers.sample_header_is, (headers_there _ _ (c.in_ok-sound.ensures.set.sound refl)).0)

pub row_for-requires : goal.row_for-requires
row_for-requires c =
    rows_there _ _ (c.in_ok-sound.ensures.set.sound refl) _ c.count-n.ensures

pub returns-in_err-row_for : goal.returns-in_err-row_for
unfolding Meets
returns-in_err-row_for c =
    let codes = fits (goal.at.returns-in_err-row_for c).In_ok-try_from in
    let a = c.args in
    let e = c.in_err-row_for.field-0.0 in
    sound_follows _ _ _ _ (c.in_ok-sound.ensures.set.sound refl)
    (subst⁻¹ (λ (r : Result (Unit {0}) Refusal). FollowsAll (Add a.s) (pair a.samples.now a.octants.now) (changed_answer r) (pair a.samples.now a.octants.now))
    (passed_on e c.from_residual-in_err-row_for.result c.from_residual-in_err-row_for.ensures.1)
    (new_refused a.samples.now a.octants.now a.s codes _ c.count-n.ensures e c.in_err-row_for.ensures))

pub add_in_row-requires : goal.add_in_row-requires
add_in_row-requires c =
    new_taken c.args.samples.now c.args.octants.now c.args.s (fits (goal.at.add_in_row-requires c).In_ok-try_from) _ c.count-n.ensures
    c.in_ok-row_for.ensures (c.in_ok-sound.ensures.set.sound refl)

pub returns : goal.returns
unfolding Meets
returns c =
    sound_follows _ _ _ _ (c.in_ok-sound.ensures.set.sound refl) c.add_in_row.ensures

-- `remove::remove`: questions 1 and 2, then the row of the tag closed, then both tables rebuilt.
use native.Mathlib.Omega.{arith}
use mathlib.Core.Path.{refl, sym, ap, subst⁻¹, ◌∙◌}
use Rattle.std.specs.Prelude.{Result, Err}
use Rattle.colour.specs.declared.refusal.Refusal.{Refusal}
use Rattle.colour.specs.declared.refusal.Refusal.TheVariants as R
use Rattle.colour.proofs.Laws.Refused.{passed_on, refused_by}
use Rattle.model.specs.Tables.{pair}
use Rattle.model.specs.Machine.{Remove, lent}
use Rattle.model.specs.Meets.{Meets}
use Rattle.samples.specs.Answers.{changed_answer}
use Rattle.samples.specs.Steps.{FollowsAll}
use Rattle.samples.proofs.Laws.Meets.{first_refused, sound_follows}
use Rattle.samples.proofs.Laws.Tags.{row_told, row_untold}
use Rattle.model.proofs.Tables.Numbers.{current_numbers}
use Rattle.samples.proofs.Laws.Removed.{unknown_tag, tag_removed}
use Rattle.samples.proofs.Laws.Shown.{headers_there, rows_there, space_for}
use Rattle.samples.proofs.remove.remove.Goals as goal

pub returns-in_err-sound : goal.returns-in_err-sound
unfolding Meets lent changed_answer
returns-in_err-sound c =
    let e = c.in_err-sound.field-0.0 in
    first_refused _ _ _ _ c.in_err-sound.ensures.set c.in_err-sound.ensures.number
    (ap changed_answer (passed_on e c.from_residual.result c.from_residual.ensures.1))

pub settings-settings-requires : goal.settings-settings-requires
settings-settings-requires c =
    (headers_there _ _ (c.in_ok-sound.ensures.set.sound refl)).0

pub count-n-requires : goal.count-n-requires
count-n-requires c =
    omega (arith, current_numbers.sample_header_is, (headers_there _ _ (c.in_ok-sound.ensures.set.sound refl)).0)

pub row_of-requires : goal.row_of-requires
row_of-requires c =
    rows_there _ _ (c.in_ok-sound.ensures.set.sound refl) _ c.count-n.ensures

pub returns-in_err-row : goal.returns-in_err-row
unfolding Meets
returns-in_err-row c =
    let none = c.in_err-row.ensures.ok_part in
    let by = refused_by R.UnknownTag c.in_err-row.field-0.0 none c.in_err-row.ensures.value in
    sound_follows _ _ _ _ (c.in_ok-sound.ensures.set.sound refl)
    (subst⁻¹ (λ (r : Result (Unit {0}) Refusal). FollowsAll (Remove c.args.tag) (pair c.args.samples.now c.args.octants.now) (changed_answer r) (pair c.args.samples.now c.args.octants.now))
    (passed_on c.in_err-row.field-0.0 c.from_residual-in_err-row.result c.from_residual-in_err-row.ensures.1 ∙ ap Err by)
    (unknown_tag c.args.samples.now c.args.octants.now _ _ _ _ c.settings-settings.ensures c.count-n.ensures refl
    (row_untold _ _ _ (sym c.row_of.ensures ∙ none))))

pub close_row-requires : goal.close_row-requires
close_row-requires c =
    ((row_told _ _ _ _ (sym c.row_of.ensures ∙ c.in_ok-row.ensures.ok_part)).1, rows_there _ _ (c.in_ok-sound.ensures.set.sound refl) _ c.count-n.ensures)

pub rebuild-requires : goal.rebuild-requires
rebuild-requires c =
    let sound = c.in_ok-sound.ensures.set.sound refl in
    space_for _ _ sound _ _ c.close_row.auto.samples (omega (arith, rows_there _ _ sound _ c.count-n.ensures))

pub overflow_sub-n : goal.overflow_sub-n
overflow_sub-n c =
    omega (arith, (row_told _ _ _ _ (sym c.row_of.ensures ∙ c.in_ok-row.ensures.ok_part)).1)

pub returns : goal.returns
unfolding Meets
returns c =
    let row = row_told _ _ _ _ (sym c.row_of.ensures ∙ c.in_ok-row.ensures.ok_part) in
    sound_follows _ _ _ _ (c.in_ok-sound.ensures.set.sound refl)
    (tag_removed c.args.samples.now c.args.octants.now _ _ _ _ c.settings-settings.ensures c.count-n.ensures row.0
    _ _ _ row.1 c.close_row.auto.samples c.close_row.ensures c.rebuild.ensures)

-- `load::load`: questions 1, 2 and 11, then lines put in rows, the longest run of them that fits, why it ends there, and its tables.
use native.Mathlib.Omega.{arith}
use Prim.Native.Nat.{ℕ}
use mathlib.Core.Path.{refl, sym, ap, subst⁻¹}
use Rattle.std.specs.Prelude.{Result, Ok}
use Rattle.colour.proofs.Laws.Refused.{passed_on}
use Rattle.model.specs.Tables.{pair}
use Rattle.samples.specs.declared.answers.Stop.{Stop}
use Rattle.sheet.specs.Answers.{header_answer}
use Rattle.sheet.proofs.Laws.Reading.Lookup.{header_says}
use Rattle.model.specs.Machine.{Change, Load, lent, load_answer, nearest_answer, plain}
use Rattle.model.specs.Meets.{Meets}
use Rattle.samples.specs.Answers.{loaded_answer, before_lines}
use Rattle.samples.proofs.Laws.Meets.{first_refused, sound_follows}
use lib.ListN.{length}
use Rattle.words.proofs.Laws.Layout.Places.{rows_few}
use Rattle.model.proofs.Tables.Numbers.{current_numbers}
use Rattle.samples.proofs.Laws.Shown.{count_few, both_headed}
use Rattle.samples.proofs.Laws.Loaded.Whole.{not_headed, sheet_whole, asks_longest, asks_stopped, asks_rebuild, loads}
use Rattle.samples.proofs.load.load.Goals as goal

pub returns-in_err-sound : goal.returns-in_err-sound
unfolding Meets lent loaded_answer load_answer nearest_answer plain
returns-in_err-sound c =
    let e = c.in_err-sound.field-0.0 in
    first_refused _ _ _ _ c.in_err-sound.ensures.set c.in_err-sound.ensures.number
    (ap loaded_answer (passed_on (before_lines e) c.from_residual.result c.from_residual.ensures.1))

pub returns-in_err-lines : goal.returns-in_err-lines
unfolding Meets header_answer
returns-in_err-lines c =
    let a = c.args in
    let e = passed_on (before_lines c.in_err-lines.field-0.0) c.from_residual-in_err-lines.result c.from_residual-in_err-lines.ensures.1 in
    subst⁻¹ (λ (r : Result ℕ Stop). Meets (Change (Load a.sheet.now)) (pair a.samples.now a.octants.now) (loaded_answer r) (pair a.samples.now a.octants.now)) e
    (sound_follows _ _ _ _ (c.in_ok-sound.ensures.set.sound refl) (not_headed _ _ _ c.in_err-lines.ensures))

pub settings-settings-requires : goal.settings-settings-requires
settings-settings-requires c =
    (both_headed _ c.args.octants.now _ (c.in_ok-sound.ensures.set.sound refl).shows).0

pub count-n-requires : goal.count-n-requires
count-n-requires c =
    omega (arith, current_numbers.sample_header_is, (both_headed c.args.samples.now c.args.octants.now _ (c.in_ok-sound.ensures.set.sound refl).shows).0)

pub put_lines-put-requires : goal.put_lines-put-requires
unfolding header_answer
put_lines-put-requires c =
    (omega (arith, c.count-n.ensures, count_few c.args.samples.now c.args.octants.now _ (c.in_ok-sound.ensures.set.sound refl).shows), sheet_whole _ _ (sym (header_says (Ok c.in_ok-lines.lines) _ c.in_ok-lines.ensures)))

pub overflow_add-n : goal.overflow_add-n
unfolding header_answer
overflow_add-n c =
    let a = asks_longest c.args.samples.now c.args.octants.now _ _ _ _ _ _ c.settings-settings.ensures c.count-n.ensures c.put_lines-put.ensures c.put_lines-put.auto.samples (sym (header_says (Ok c.in_ok-lines.lines) _ c.in_ok-lines.ensures)) (c.in_ok-sound.ensures.set.sound refl) in
    omega (arith, a.1, rows_few (length c.put_lines-put.new.samples))

pub longest-kept-requires : goal.longest-kept-requires
unfolding header_answer
longest-kept-requires c =
    asks_longest _ c.args.octants.now _ _ _ _ _ _ c.settings-settings.ensures c.count-n.ensures c.put_lines-put.ensures c.put_lines-put.auto.samples (sym (header_says (Ok c.in_ok-lines.lines) _ c.in_ok-lines.ensures)) (c.in_ok-sound.ensures.set.sound refl)

pub stopped-answer-requires : goal.stopped-answer-requires
unfolding header_answer
stopped-answer-requires c =
    asks_stopped _ c.args.octants.now _ _ _ _ _ _ c.settings-settings.ensures c.count-n.ensures c.put_lines-put.ensures c.put_lines-put.auto.samples (sym (header_says (Ok c.in_ok-lines.lines) _ c.in_ok-lines.ensures)) (c.in_ok-sound.ensures.set.sound refl) _ c.longest-kept.ensures

pub rebuild-requires : goal.rebuild-requires
unfolding header_answer
rebuild-requires c =
    let k = c.longest-kept.ensures in
    asks_rebuild _ c.args.octants.now _ _ _ _ _ _ c.settings-settings.ensures c.count-n.ensures c.put_lines-put.ensures c.put_lines-put.auto.samples (sym (header_says (Ok c.in_ok-lines.lines) _ c.in_ok-lines.ensures)) (c.in_ok-sound.ensures.set.sound refl) _ k _ (omega (arith, k.least))

pub returns : goal.returns
unfolding Meets header_answer
returns c =
    sound_follows _ _ _ _ (c.in_ok-sound.ensures.set.sound refl)
    (loads _ c.args.octants.now _ _ _ _ _ _ c.settings-settings.ensures c.count-n.ensures c.put_lines-put.ensures c.put_lines-put.auto.samples (sym (header_says (Ok c.in_ok-lines.lines) _ c.in_ok-lines.ensures)) _ _ _ _ c.longest-kept.ensures c.stopped-answer.ensures c.rebuild.ensures)

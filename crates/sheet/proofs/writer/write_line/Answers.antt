-- `writer::write_line`: the first no gives the answer; where there is none, put_line wrote the line.
use mathlib.Core.Path.{refl}
use Rattle.std.specs.Prelude.{Ok, Err}
use Rattle.sheet.specs.Computes.{sheet_numbers}
use Rattle.std.proofs.lemmas.Result.{err_from_is_err_and}
use Rattle.sheet.proofs.Laws.Names.{name_good_lem}
use Rattle.sheet.proofs.Laws.Writing.Lines.{refused, left_alone, all_yes, line_stands}
use Rattle.sheet.proofs.writer.write_line.Goals as goal

pub returns-in_err-first_no : goal.returns-in_err-first_no
unfolding sheet_numbers
returns-in_err-first_no c =
    let p = err_from_is_err_and c.from_residual.result c.from_residual.ensures.1 in
    rw (p.1, p.2)
    (left_alone _ _ _ _ _ _ (Err c.in_err-first_no.field-0.0) c.codes_fit.ensures c.name_good.ensures refl c.in_err-first_no.ensures (refused _ _ refl))

pub put_line-requires : goal.put_line-requires
unfolding sheet_numbers
put_line-requires c =
    let a = c.args in
    let yes =
    all_yes a.sample a.name.now a.line.now _ _ _ (Ok tt) c.codes_fit.ensures c.name_good.ensures refl c.in_ok-first_no.ensures refl in
    ((name_good_lem _ yes.named).fits, yes.room)

pub returns : goal.returns
unfolding sheet_numbers
returns c =
    line_stands _ _ _ _ _ _ (Ok tt) c.codes_fit.ensures c.name_good.ensures refl c.in_ok-first_no.ensures refl _ c.put_line.ensures

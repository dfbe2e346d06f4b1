-- `rows::put_lines`: the rows so far, and the good lines left, are the rows that it leaves.
use native.Mathlib.Omega.{arith}
use mathlib.Core.Path.{sym, ap, ◌∙◌}
use Rattle.std.specs.Result.{result_ok}
use Rattle.sheet.specs.Answers.{line_answer}
use Rattle.sheet.proofs.Laws.Reading.Lookup.{line_says}
use Rattle.samples.proofs.Laws.Loaded.Left.{line_room}
use Rattle.samples.proofs.Laws.Loaded.Put.{all_put, bad_line, puts}
use Rattle.samples.proofs.rows.put_lines.Goals as goal

pub line_at-requires : goal.line_at-requires
line_at-requires c =
    let l = c.loop-k in
    line_room c.args.sheet.now _ _ (omega arith) l.invariant.bytes

pub returns-in_default : goal.returns-in_default
unfolding line_answer
returns-in_default c =
    bad_line c.loop-k.invariant (omega arith) (sym (ap result_ok c.in_default.is) ∙ line_says _ _ c.line_at.ensures)

pub loop-k-preserved : goal.loop-k-preserved
unfolding line_answer
loop-k-preserved c =
    let e = sym (ap result_ok c.in-Ok.is) ∙ line_says _ _ c.line_at.ensures in
    rw c.put_sample.ensures (puts c.loop-k.invariant _ (omega arith) (omega arith) e)

pub returns : goal.returns
returns c =
    all_put c.loop-k.invariant _ c.min-most.ensures c.loop-k-test.false c.loop-k.auto.k-end

-- `load::stopped`: each answer by the line where it is given.
use native.Mathlib.Omega.{arith}
use Rattle.std.proofs.Common.{of_calls}
use lib.ListN.{length}
use Rattle.colour.proofs.Laws.Refused.{passed_on}
use Rattle.words.proofs.Laws.Layout.Places.{rows_few}
use Rattle.samples.proofs.Laws.Loaded.Left.{line_room}
use Rattle.samples.proofs.Laws.Loaded.Ends.{at_end, line_refused, good_refused, good_taken}
use Rattle.samples.proofs.load.stopped.Goals as goal

pub overflow_cast-so_far : goal.overflow_cast-so_far
overflow_cast-so_far c =
    omega (arith, c.requires.0, c.requires.1, rows_few (length c.args.samples.now))

pub returns-then-lines-taken : goal.returns-then-lines-taken
returns-then-lines-taken c =
    at_end _ _ _ _ _ c.if-lines-taken.true

pub line_at-requires : goal.line_at-requires
line_at-requires c =
    line_room c.args.sheet.now _ _ c.if-lines-taken.false c.requires.3

pub returns-in_err-line : goal.returns-in_err-line
returns-in_err-line c =
    line_refused _ _ _ _ _ c.line_at.result c.map_err.result _ _ (search of_calls) c.in_err-line.was
    (passed_on c.in_err-line.field-0.0 c.from_residual.result c.from_residual.ensures.1) c.if-lines-taken.false c.line_at.ensures

pub returns-in_err-map_err : goal.returns-in_err-map_err
returns-in_err-map_err c =
    good_refused _ _ _ _ _ c.line_at.result c.map_err.result _ (search of_calls) c.in_ok-line.was c.if-lines-taken.false c.line_at.ensures
    c.row_for.result c.map_err-2.result (search of_calls) c.row_for.ensures _ _ c.in_err-map_err.was
    (passed_on c.in_err-map_err.field-0.0 c.from_residual-in_err-map_err.result c.from_residual-in_err-map_err.ensures.1)

pub returns : goal.returns
returns c =
    good_taken _ _ _ _ _ c.line_at.result c.map_err.result _ (search of_calls) c.in_ok-line.was c.if-lines-taken.false c.line_at.ensures
    c.row_for.result c.map_err-2.result (search of_calls) c.row_for.ensures _ c.in_ok-map_err.was (search of_calls)

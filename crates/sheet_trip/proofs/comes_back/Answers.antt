-- `comes_back`: what write_line left stands as read_line has it, by laws of Trip.
use mathlib.Core.Bool.{true≢false}
use mathlib.Core.Path.{refl, sym, ap, ◌∙◌}
use native.Mathlib.Omega.{arith}
use Rattle.sheet.specs.Answers.{line_answer}
use Rattle.colour.specs.Refusal.{answer_number}
use Rattle.sheet.specs.Computes.{sheet_numbers}
use Rattle.sheet.proofs.Laws.Writing.Lines.{refused}
use Rattle.sheet_trip.proofs.Trip.{Stands, Back, same_equal, none_written, line_written, never_refused, reads_back}
use Rattle.sheet_trip.proofs.comes_back.Goals as goal
use Rattle.sheet_trip.proofs.comes_back.Goals.{In-Ok-read_line, In-Ok}

-- After the writer has accepted, the line stands.
stands : (c : In-Ok) → Stands c.args.sample c.args.name.now c.write_line.new.line
unfolding sheet_numbers
stands c =
    line_written _ _ _ _ _ refl c.write_line.ensures (ap answer_number c.in-Ok.is) c.write_line.auto.line
    (omega (arith, c.well_formed.0))

-- What is read from it comes back.
back : (c : In-Ok-read_line)
    → Stands c.args.sample c.args.name.now c.write_line.new.line
    → Back c.args.sample c.args.name.now c.write_line.new.line c.in-Ok-read_line.read
unfolding line_answer
back c s = reads_back _ _ _ s _ (ap line_answer (sym c.in-Ok-read_line.is) ∙ c.read_line.ensures)

pub returns-in_default : goal.returns-in_default
unfolding sheet_numbers
returns-in_default c =
    none_written _ _ _ _ _ refl c.write_line.ensures (refused _ _ c.in_default.is)

pub returns-in_default-read_line : goal.returns-in_default-read_line
returns-in_default-read_line c =
    absurd (never_refused _ _ _ (stands (goal.at.returns-in_default-read_line c).In-Ok) _ (ap line_answer (sym c.in_default-read_line.is) ∙ c.read_line.ensures))

pub overflow_add-end : goal.overflow_add-end
unfolding sheet_numbers
overflow_add-end c =
    omega (arith, (back (goal.at.overflow_add-end c).In-Ok-read_line (stands (goal.at.overflow_add-end c).In-Ok)).within)

pub slice_bounds-eq-end : goal.slice_bounds-eq-end
unfolding sheet_numbers
slice_bounds-eq-end c =
    omega (arith, (back (goal.at.slice_bounds-eq-end c).In-Ok-read_line (stands (goal.at.slice_bounds-eq-end c).In-Ok)).within, c.write_line.auto.line)

-- The samples are the same.
pub returns-else-eq : goal.returns-else-eq
returns-else-eq c =
    let b = back (goal.at.returns-else-eq c).In-Ok-read_line (stands (goal.at.returns-else-eq c).In-Ok) in
    absurd (true≢false (sym (c.eq.ensures ∙ same_equal _ _ b.sample) ∙ c.if-eq.false))

pub returns-then-eq : goal.returns-then-eq
unfolding sheet_numbers
returns-then-eq c =
    c.eq-then-eq.ensures ∙ (back (goal.at.returns-then-eq c).In-Ok-read_line (stands (goal.at.returns-then-eq c).In-Ok)).bytes

-- `lookup::part_of`: what was found so far, and the lines left, give the part that is handed back.
use mathlib.Core.Bool.{not}
use mathlib.Core.Path.{◌≡◌, ap, ◌∙◌}
use Rattle.std.specs.Prelude.{Some}
use Rattle.sheet.specs.Computes.{sheet_numbers}
use Rattle.sheet.specs.Sheet.{line_part}
use Rattle.sheet.specs.Line.{line_of}
use Rattle.sheet.proofs.Laws.Reading.Lookup.{header_says, line_says, no_header, begins, bad_line, ends, found_before, another_tag, finds}
use Rattle.sheet.proofs.lookup.part_of.Goals as goal
use Rattle.sheet.proofs.lookup.part_of.Goals.{then-is_none+then-line-tag, else-is_none, else-is_none-via-then-is_none+else-line-tag, else-is_none-via-else-is_none}

pub returns-in_err-count : goal.returns-in_err-count
returns-in_err-count c =
    rw c.from_residual.ensures (no_header _ _ (c.in_err-count.ensures.value ∙ header_says _ _ c.read_header.ensures))

pub loop-k-init : goal.loop-k-init
loop-k-init c =
    begins _ _ _ (c.in_ok-count.ensures.value ∙ header_says _ _ c.read_header.ensures)

pub returns-in_err-line : goal.returns-in_err-line
returns-in_err-line c =
    rw c.from_residual-in_err-line.ensures
    (bad_line c.loop-k.invariant c.loop-k-test.true (c.in_err-line.ensures.value ∙ line_says _ _ c.line_at.ensures))

pub loop-k-preserved : goal.loop-k-preserved
unfolding sheet_numbers
loop-k-preserved c =
    let l = c.loop-k.invariant in
    let e : Some c.in_ok-line.line ≡ line_of (line_part c.args.sheet.now c.loop-k.k) = c.in_ok-line.ensures.value ∙ line_says _ _ c.line_at.ensures in
    elim c.if-is_none.branch [
      | then-is_none+then-line-tag w ↦ rw (w.found-is, w.line_start.ensures) (finds l c.loop-k-test.true e (c.is_none.ensures ∙ ap not w.if-is_none.true) w.if-line-tag.true)
      | else-is_none w ↦ rw w.found-is (elim w.else-is_none.branch [
        | else-is_none-via-then-is_none+else-line-tag v ↦ another_tag l c.loop-k-test.true e v.if-line-tag.false
        | else-is_none-via-else-is_none v ↦ found_before l c.loop-k-test.true e (c.is_none.ensures ∙ ap not v.if-is_none.false)
      ])
    ]

pub returns : goal.returns
returns c =
    ends c.loop-k.invariant c.loop-k-test.false

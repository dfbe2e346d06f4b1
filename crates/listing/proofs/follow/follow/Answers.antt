-- `follow::follow`: what was listed and seen, and what is still to come, is the whole run.
use mathlib.Core.Path.{◌∙◌, sym, ap}
use Prim.Native.Nat.{◌<◌}
use native.Mathlib.Omega.{arith}
use lib.ListN.{length, set}
use Rattle.model.specs.Layout.{current, sample_rows}
use Rattle.traversal.specs.Rows.{rows_left}
use Rattle.traversal.proofs.Laws.Rows.{given_row}
use Rattle.listing.proofs.Laws.Steps.Following.{following_ends, more, not_listed, is_listed}
use Rattle.listing.proofs.follow.follow.Goals as goal
use Rattle.listing.proofs.follow.follow.Goals.{In-Some}

in_table : (c : In-Some) → c.in-Some.row < sample_rows current (length c.args.samples.now)
in_table c =
    given_row c.args.samples.now c.args.count c.args.first c.into_iter-row-iterator.result (ap rows_left c.into_iter-row-iterator.ensures.into_iter_gives ∙ c.rows_from-row-items.ensures)
    c.loop-row.yielded c.loop-row.row-iterator c.loop-row.yielded_by c.next.result c.next.new.self c.in-Some.row c.in-Some.is c.next.ensures.steps

pub overflow_add-seen : goal.overflow_add-seen
overflow_add-seen c = omega (arith, more _ _ _ _ _ _ _ c.loop-row.invariant c.in-Some.ensures.steps)

pub takes-requires : goal.takes-requires
takes-requires c = in_table c

pub tag-requires : goal.tag-requires
tag-requires c = in_table (goal.at.tag-requires c).In-Some

pub overflow_add-end : goal.overflow_add-end
overflow_add-end c = omega (arith, more _ _ _ _ _ _ _ c.loop-row.invariant c.in-Some.ensures.steps, c.loop-row.invariant.most)

pub loop-row-preserved-then-takes : goal.loop-row-preserved-then-takes
loop-row-preserved-then-takes c =
    is_listed _ _ _ _ _ _ _ c.loop-row.invariant c.in-Some.ensures.steps (sym c.takes.ensures ∙ c.if-takes.true)
    (c.put.ensures ∙ ap (set c.loop-row.listing c.loop-row.end) c.tag.ensures)

pub loop-row-preserved : goal.loop-row-preserved
loop-row-preserved c = not_listed _ _ _ _ _ _ _ c.loop-row.invariant c.in-Some.ensures.steps (sym c.takes.ensures ∙ c.if-takes.false)

pub returns : goal.returns
returns c = following_ends _ _ _ _ _ _ _ c.loop-row.invariant c.in-None.ensures.steps.0

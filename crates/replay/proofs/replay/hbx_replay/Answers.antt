-- `replay::hbx_replay`: after i turns the first i steps are made.
use Prim.Native.Nat.{◌-◌, ◌*◌, ◌^◌, ◌≤◌, ◌<◌}
use mathlib.Core.Path.{◌≡◌, refl, ◌∙◌}
use native.Mathlib.Omega.{arith}
use borrow.Rule.Slice.PartMut.{same_len_mid}
use lib.ListN.{length, take, drop, length-take, length-drop}
use Rattle.replay.specs.Format.{answer_width}
use Rattle.replay.specs.Script.{steps_of}
use Rattle.replay.proofs.Laws.Events.{begin, within, turn}
use Rattle.replay.proofs.Laws.Steps.{lent_within}
use Rattle.replay.proofs.Laws.Day.{replayed}
use Rattle.replay.proofs.replay.hbx_replay.Goals as goal
use Rattle.replay.proofs.replay.hbx_replay.Goals.{In-loop-i}

-- The listings so far are within the place for them, and its bytes can be counted.
room : (c : In-loop-i) → (c.loop-i.at ≤ length c.loop-i.listings) × (length c.loop-i.listings * 4 < 2 ^ 63)
room c =
    let l = c.loop-i.invariant in
    (within _ _ _ _ _ _ _ _ l.4, omega (arith, l.2, c.well_formed.1.1.1.1.1.0.1))

pub loop-i-init : goal.loop-i-init
loop-i-init c =
    (refl, refl, refl, refl, begin _ _ _)

pub offset_bounds-listings-at : goal.offset_bounds-listings-at
offset_bounds-listings-at c =
    omega (arith, room (goal.at.offset_bounds-listings-at c).In-loop-i)

pub slice_bounds-step-count-in-loop-i-2 : goal.slice_bounds-step-count-in-loop-i-2
slice_bounds-step-count-in-loop-i-2 c =
    omega (arith, room (goal.at.slice_bounds-step-count-in-loop-i-2 c).In-loop-i)

pub slice_bounds-step-start-in-loop-i-2 : goal.slice_bounds-step-start-in-loop-i-2
slice_bounds-step-start-in-loop-i-2 c =
    omega (arith, room (goal.at.slice_bounds-step-start-in-loop-i-2 c).In-loop-i)

pub overflow_add-at : goal.overflow_add-at
overflow_add-at c =
    let st = c.step-lent in
    let l = c.loop-i in
    let part : st.result ≤ length (take (length l.listings - l.at) (drop l.at l.listings)) =
    lent_within _ _ _ _ _ _ _ _ _ _ st.ensures in
    let lent = simp (length-take, length-drop) at part in
    omega (arith, room (goal.at.overflow_add-at c).In-loop-i)

pub loop-i-preserved : goal.loop-i-preserved
loop-i-preserved c =
    let st = c.step-lent in
    let l = c.loop-i in (
      st.auto.samples ∙ l.invariant.0,
      st.auto.octants ∙ l.invariant.1,
      same_len_mid l.at (length l.listings - l.at) l.listings st.new.listings st.auto.listings ∙ l.invariant.2,
      same_len_mid (answer_width * l.i) (length l.answers - answer_width * l.i) l.answers st.new.answers st.auto.answers ∙ l.invariant.3,
      turn _ _ _ l.i l.at l.listings l.answers _ l.invariant.4 st.result _ _ _ st.ensures,
    )

pub returns : goal.returns
unfolding steps_of
returns c =
    let l = c.loop-i in
    let n = c.steps_of-steps in
    let all : l.i ≡ n.result = omega arith in
    replayed _ _ _ _ _ _ _ n.ensures (rw all at l.invariant.4.ran)

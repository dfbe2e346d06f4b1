-- `rows::pass_all`: the children before k are passed, and their rows behind the place of the octant's own.
use Prim.Native.Nat.{ℕ, ◌≤◌}
use mathlib.Core.List.{List}
use mathlib.Core.Path.{◌≡◌, sym, ap, ◌∙◌}
use native.Mathlib.Omega.{arith}
use lib.ListN.{length}
use Rattle.model.specs.SampleSet.{splits}
use Rattle.order.specs.Entries.{view}
use Rattle.order.proofs.Laws.Order.{splits_told}
use Rattle.octree.proofs.Laws.Rows.Octant.{empty_is, own_room, leaf_is}
use Rattle.octree.proofs.Laws.Rows.Passed.{opened, pass_begins, pass_bounds, pass_rooted, pass_steps, split_is}
use Rattle.octree.proofs.Laws.Rows.Given.{count_told, count_some, given_none, given_more, given_stopped, given_ends}
use Rattle.octree.proofs.rows.+pass_all.Goals as goal
use Rattle.octree.proofs.rows.+pass_all.Goals.{After-splits}

-- Whether the octant is split.
split_told : (g : _) (t : ℕ) (c : After-splits g t) → splits c.args.bucket c.args.left (view c.args.part.now) ≡ c.splits.result
split_told g t c = splits_told c.args.bucket c.args.left c.args.part.now c.splits.result c.splits.ensures

some_entry : (es : List ℕ) → (length es ≡ 0 → ⊥) → 1 ≤ length es
some_entry es h = omega (arith, h)

pub returns-then-n-eq0-clause-octants : goal.returns-then-n-eq0-clause-octants
returns-then-n-eq0-clause-octants g t c = sym (empty_is c.args.bucket c.args.left c.args.number c.args.part.now c.if-n-eq0.true).0

pub returns-then-n-eq0-clause-rows : goal.returns-then-n-eq0-clause-rows
returns-then-n-eq0-clause-rows g t c =
    rw (empty_is c.args.bucket c.args.left c.args.number c.args.part.now c.if-n-eq0.true).1
    (g.R.Rows.laws.none c.args.rows.now c.args.at c.requires.within.0)

pub pass-requires : goal.pass-requires
pass-requires g t c = omega (arith, own_room c.requires.rooted c.octant_of-octant.ensures.says.held, c.requires.within.0)

pub returns-then-not-splits-clause-octants : goal.returns-then-not-splits-clause-octants
returns-then-not-splits-clause-octants g t c =
    let no = split_told g t (goal.at.returns-then-not-splits-clause-octants g t c).After-splits ∙ c.if-not-splits.true in
    let is = leaf_is c.octant_of-octant.ensures.says c.args.bucket c.args.left c.args.number _ c.requires.rooted no in
    rw c.then_some.ensures (count_told c.pass.result 1 _ is.0)

pub returns-then-not-splits-clause-rows : goal.returns-then-not-splits-clause-rows
returns-then-not-splits-clause-rows g t c =
    let no = split_told g t (goal.at.returns-then-not-splits-clause-rows g t c).After-splits ∙ c.if-not-splits.true in
    let o = c.octant_of-octant.ensures in
    let is = leaf_is o.says c.args.bucket c.args.left c.args.number _ c.requires.rooted no in
    rw (c.then_some.ensures, count_some c.pass.result 1, is.1) (rw o.children at c.pass.ensures)

pub loop-k-init : goal.loop-k-init
loop-k-init g t c = record {
  says = c.octant_of-octant.ensures.says;
  opened = opened c.args.bucket c.args.left c.args.number c.child_shift.result c.args.part.now _ c.sizes-counts.result c.requires.rooted
      (split_told g t (goal.at.loop-k-init g t c).After-splits ∙ c.if-not-splits.false) c.child_shift.ensures.is c.sizes-counts.ensures;
  passed = pass_begins _ _ _ _ _ (ap length c.octant_of-octant.ensures.children);
  given = given_none g.R.Rows.laws _ _ _ _ _ _
      (omega (arith, own_room c.requires.rooted (some_entry c.args.part.now c.if-n-eq0.false), c.requires.within.0));
}

pub overflow_add-end : goal.overflow_add-end
overflow_add-end g t c = let i = c.loop-k.invariant in omega (arith, pass_bounds i.opened i.passed c.loop-k-test.true)

pub overflow_add-number : goal.overflow_add-number
overflow_add-number g t c = let i = c.loop-k.invariant in omega (arith, pass_bounds i.opened i.passed c.loop-k-test.true)

pub offset_bounds-part-from : goal.offset_bounds-part-from
offset_bounds-part-from g t c = let i = c.loop-k.invariant in omega (arith, pass_bounds i.opened i.passed c.loop-k-test.true)

pub slice_bounds-pass_all-end : goal.slice_bounds-pass_all-end
slice_bounds-pass_all-end g t c = let i = c.loop-k.invariant in omega (arith, pass_bounds i.opened i.passed c.loop-k-test.true)

pub overflow_add-number-in-loop-k : goal.overflow_add-number-in-loop-k
overflow_add-number-in-loop-k g t c = let i = c.loop-k.invariant in omega (arith, pass_bounds i.opened i.passed c.loop-k-test.true)

pub pass_all-requires : goal.pass_all-requires
pass_all-requires g t c κs within =
    let i = c.loop-k.invariant in
    let same = g.R.Rows.laws.kept i.given in
    let bounds = pass_bounds i.opened i.passed c.loop-k-test.true in (
      omega (arith, bounds, c.decreases),
      (
        within,
        (
          (omega (arith, bounds, c.octant_words.ensures.is, c.requires.within, same), omega (arith, c.requires.within, same)),
          pass_rooted i.opened i.passed c.loop-k-test.true _ (omega (arith, same, c.octant_words.ensures.is)),
        ),
      ),
    )

pub returns-in_err-used-clause-rows : goal.returns-in_err-used-clause-rows
returns-in_err-used-clause-rows g t c =
    let i = c.loop-k.invariant in
    rw c.from_residual.ensures
    (given_stopped g.R.Rows.laws i.opened i.passed c.loop-k-test.true _ _ c.octant_words.ensures.is i.given c.in_err-used.ensures.rows)

pub overflow_add-used : goal.overflow_add-used
overflow_add-used g t c =
    let i = c.loop-k.invariant in
    omega (arith, pass_bounds i.opened i.passed c.loop-k-test.true, c.in_ok-used.ensures.octants)

pub loop-k-preserved : goal.loop-k-preserved
loop-k-preserved g t c =
    let i = c.loop-k.invariant in record {
      says = i.says;
      opened = i.opened;
      passed = pass_steps i.opened i.passed c.loop-k-test.true _ _ c.child_word.ensures c.in_ok-used.ensures.octants;
      given = given_more g.R.Rows.laws i.opened i.passed c.loop-k-test.true _ _ _ c.octant_words.ensures.is i.given c.in_ok-used.ensures.rows;
    }

pub pass-requires-2 : goal.pass-requires-2
pass-requires-2 g t c =
    let i = c.loop-k.invariant in
    omega (arith, own_room c.requires.rooted i.says.held, c.requires.within.0, g.R.Rows.laws.kept i.given)

pub returns-clause-octants : goal.returns-clause-octants
returns-clause-octants g t c =
    let i = c.loop-k.invariant in
    rw c.then_some-2.ensures
    (count_told c.pass-2.result _ _ (split_is i.says i.opened i.passed c.loop-k-test.false).0)

pub returns-clause-rows : goal.returns-clause-rows
returns-clause-rows g t c =
    let i = c.loop-k.invariant in
    rw (c.then_some-2.ensures, count_some c.pass-2.result _)
    (given_ends g.R.Rows.laws i.says i.opened i.passed c.loop-k-test.false i.given c.pass-2.ensures)

-- Next is the row of the sample that follows in the order, n for the last (document 01, "The tables").
use Prim.Native.Nat.{ℕ, suc, ◌≤◌}
use mathlib.Core.Bool.{Bool, true, false}
use mathlib.Core.List.{List, [], ◌∷◌, ◌++◌}
use mathlib.Core.Path.{◌≡◌, refl, ap, ◌∙◌, subst}
use lib.Dec.{eqb}
use native.Mathlib.Omega.{arith}
use borrow.Author.Tests.{eq-eqb}
use Rattle.model.specs.Lists.{keep}
use Rattle.model.specs.SampleSet.{SampleSet, Placed, order}
use Rattle.model.specs.Tables.{first_row, next_row}
use Rattle.model.proofs.Tree.Order.{count, at_row, order_most}

-- A sample that stands in a list is counted.
pub stands : (before : List Placed) (x : Placed) (after : List Placed) → 1 ≤ count (at_row x.row) (before ++ (x ∷ after))
unfolding count keep at_row
stands [] x after = rw (eq-eqb x.row x.row refl, keep) (omega arith)
stands (y ∷ before) x after = go (eqb y.row x.row) refl (stands before x after)
  where
    go : (r : Bool) → eqb y.row x.row ≡ r → 1 ≤ count (at_row x.row) (before ++ (x ∷ after))
        → 1 ≤ count (at_row x.row) (y ∷ before ++ (x ∷ after))
    go true e h = rw (e, keep) (omega arith)
    go false e h = rw (e, keep) h

pub next_in : (n : ℕ) (before : List Placed) (x : Placed) (after : List Placed) → count (at_row x.row) (before ++ (x ∷ after)) ≤ 1
    → next_row n x.row (before ++ (x ∷ after)) ≡ first_row n after
unfolding next_row count keep at_row
next_in n [] x after h = rw (eq-eqb x.row x.row refl, next_row)
next_in n (y ∷ before) x after h = go (eqb y.row x.row) refl (next_in n before x after)
  where
    go : (r : Bool) → eqb y.row x.row ≡ r
        → (count (at_row x.row) (before ++ (x ∷ after)) ≤ 1 → next_row n x.row (before ++ (x ∷ after)) ≡ first_row n after)
        → next_row n x.row (y ∷ before ++ (x ∷ after)) ≡ first_row n after
    go true e ih =
        let twice : suc (count (at_row x.row) (before ++ (x ∷ after))) ≤ 1 = rw (e, keep) at h in
        absurd (omega (arith, twice, stands before x after))
    go false e ih = rw (e, next_row) (ih (rw (e, keep) at h))

pub next_follows : (n : ℕ) (set : SampleSet) (before : List Placed) (x : Placed) (after : List Placed) → order set ≡ before ++ (x ∷ after)
    → next_row n x.row (order set) ≡ first_row n after
next_follows n set before x after e =
    ap (next_row n x.row) e
    ∙ next_in n before x after (subst (λ (l : List Placed). count (at_row x.row) l ≤ 1) e (order_most set x.row))

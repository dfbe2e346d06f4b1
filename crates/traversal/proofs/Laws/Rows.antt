-- The rows that are visited by their next words.
use Prim.Native.Nat.{ℕ, zero, suc, ◌-◌, ◌≤◌, ◌<◌}
use mathlib.Core.Bool.{Bool, true, false}
use mathlib.Core.List.{List, [], ◌∷◌}
use mathlib.Core.Path.{◌≡◌, refl}
use native.Mathlib.Numerals.{sub-one}
use native.Mathlib.Omega.{arith}
use borrow.Author.Tests.{lt-ltb, le-ltb, ltb-true}
use lib.Dec.{ltb}
use lib.ListN.{length, get_or}
use Rattle.model.specs.Layout.{Next, First, current, sample_rows}
use Rattle.words.specs.Rows.{sample_field, octant_field, sample_budget}
use Rattle.std.specs.Prelude.{Option, Some}
use Rattle.std.specs.Iterator.{Yields, YieldsFirst}
use Rattle.std.proofs.lemmas.Iterator.Consumers.{YieldsList-from_first, YieldsList-turn}
use Rattle.traversal.specs.declared.rows.Rows.{Rows}
use Rattle.traversal.specs.Rows.{rows_left}
use Rattle.traversal.specs.Own.{rows_from, own_most, own_rows}

module _ (ws : List ℕ) where
  -- The next row, the end of the rows and the end of the count.
  pub rows_more : (n row : ℕ) → row < sample_rows current (length ws) → 0 < n → rows_from ws n row ≡ row ∷ rows_from ws (n - 1) (sample_field current ws row Next)
  unfolding rows_from
  rows_more zero row h p = absurd (omega arith)
  rows_more (suc n) row h p = rw (sub-one, lt-ltb row (sample_rows current (length ws)) h, rows_from)

  pub rows_out : (n row : ℕ) → sample_rows current (length ws) ≤ row → rows_from ws n row ≡ []
  unfolding rows_from
  rows_out zero row h = refl
  rows_out (suc n) row h = rw (le-ltb row (sample_rows current (length ws)) h, rows_from)

  pub rows_none : (n row : ℕ) → n ≤ 0 → rows_from ws n row ≡ []
  unfolding rows_from
  rows_none zero row h = refl
  rows_none (suc n) row h = absurd (omega arith)

  -- No more rows than are asked for.
  pub rows_few : (n row : ℕ) → length (rows_from ws n row) ≤ n
  unfolding rows_from
  rows_few zero row = omega arith
  rows_few (suc n) row = go (ltb row (sample_rows current (length ws))) refl (rows_few n (sample_field current ws row Next))
    where
      go : (r : Bool) → ltb row (sample_rows current (length ws)) ≡ r → length (rows_from ws n (sample_field current ws row Next)) ≤ n
          → length (rows_from ws (suc n) row) ≤ suc n
      go true e h = rw (e, rows_from) (omega arith)
      go false e h = rw (e, rows_from) (omega arith)

-- No more samples are visited than a table can have.
pub budget_most : (ws : List ℕ) → sample_budget current ws ≤ 4096
unfolding sample_budget sample_rows
budget_most ws = omega arith

-- An octant's own samples are within the budget.
pub own_few : (ws os : List ℕ) (row visited : ℕ) → length (own_rows ws os row visited) ≤ sample_budget current ws - visited
unfolding own_rows own_most
own_few ws os row visited = omega (arith, rows_few ws (own_most ws os row visited) (octant_field current os row First))

-- Each row that is visited is one of the table's.
rows_in : (ws : List ℕ) (n row k d : ℕ) → k < length (rows_from ws n row) → get_or (rows_from ws n row) k d < sample_rows current (length ws)
unfolding rows_from
rows_in ws zero row k d h = absurd (omega arith)
rows_in ws (suc n) row k d h = go (ltb row (sample_rows current (length ws))) refl (λ k. rows_in ws n (sample_field current ws row Next) k d) k h
  where
    go : (r : Bool) → ltb row (sample_rows current (length ws)) ≡ r
        → ((k : ℕ) → k < length (rows_from ws n (sample_field current ws row Next))
        → get_or (rows_from ws n (sample_field current ws row Next)) k d < sample_rows current (length ws)) → (k : ℕ) → k < length (rows_from ws (suc n) row)
        → get_or (rows_from ws (suc n) row) k d < sample_rows current (length ws)
    go true e f zero h = rw (e, rows_from) (ltb-true _ _ e)
    go true e f (suc k) h = rw (e, rows_from) (f k (omega (arith, rw (e, rows_from) at h)))
    go false e f k h = absurd (omega (arith, rw (e, rows_from) at h))

-- So is each that a run gives.
pub given_row : (ws : List ℕ) (n row : ℕ) (s : Rows) → rows_left s ≡ rows_from ws n row → (xs : List ℕ) (t : Rows) → Yields (YieldsFirst rows_left) s xs t
    → (r : Option ℕ) (u : Rows) (x : ℕ) → r ≡ Some x → YieldsFirst rows_left t r u → x < sample_rows current (length ws)
given_row ws n row s e xs t y r u x is steps =
    let turn = YieldsList-turn (YieldsList-from_first (λ x. x) rows_left (rows_from ws n row) e) xs t y r u x is steps in
    omega (arith, turn, rows_in ws n row (length xs) x turn.0)

-- And so is each of an octant's own.
pub given_own : (ws os : List ℕ) (row visited : ℕ) (s : Rows) → rows_left s ≡ own_rows ws os row visited → (xs : List ℕ) (t : Rows)
    → Yields (YieldsFirst rows_left) s xs t → (r : Option ℕ) (u : Rows) (x : ℕ) → r ≡ Some x → YieldsFirst rows_left t r u
    → x < sample_rows current (length ws)
unfolding own_rows
given_own ws os row visited s e = given_row ws (own_most ws os row visited) (octant_field current os row First) s e

-- Next words along an order.
use Prim.Native.Nat.{ℕ, suc, ◌+◌, ◌%◌, ◌≤◌, ◌<◌}
use mathlib.Core.Bool.{Bool, true, false}
use mathlib.Core.List.{List, [], ◌∷◌, ◌++◌}
use mathlib.Core.Path.{◌≡◌, refl, sym, ap, ◌∙◌}
use native.Mathlib.Omega.{arith}
use borrow.Author.Tests.{eqb-true, eqb-false}
use lib.Dec.{eqb}
use lib.ListN.{length, get_or, take, drop, set, length-set, drop_of_length-le}
use lib.Seq.{drop-cons, get_or-set_same, get_or-set_other}
use Rattle.model.specs.Layout.{SampleField, Next, current, sample_rows}
use Rattle.model.specs.Lists.{keep}
use Rattle.model.specs.Tables.{next_row, first_row}
use Rattle.model.proofs.Tables.Next.{next_in}
use Rattle.model.proofs.Tree.Order.{count, at_row}
use Rattle.words.specs.Rows.{sample_at, sample_field, sample_in, samples_from}
use Rattle.words.proofs.Laws.Layout.Places.{field_place, sample_at_lem, row_room}
use Rattle.words.proofs.Laws.Layout.Samples.{same_sample_lem, same_samples}
use Rattle.order.specs.Entries.{placed_of, view}
use Rattle.order.proofs.Laws.Entries.View.{view_at}
use Rattle.octree.specs.Steps.{times_row, RowsOnce, NextsAre}

-- A next word that is set: it alone changes.
module _ (ws : List ℕ) (i a : ℕ) where
  pub set_next : sample_at current Next i < length ws → sample_field current (set ws (sample_at current Next i) a) i Next ≡ a
  unfolding sample_field
  set_next h = get_or-set_same ws (sample_at current Next i) a 0 h

  set_other : (f : SampleField) (k : ℕ) → (sample_at current f k ≡ sample_at current Next i → ⊥)
      → sample_field current (set ws (sample_at current Next i) a) k f ≡ sample_field current ws k f
  unfolding sample_field
  set_other f k h = get_or-set_other ws (sample_at current Next i) (sample_at current f k) a 0 h

  pub other_next : (k : ℕ) → (k ≡ i → ⊥) → sample_field current (set ws (sample_at current Next i) a) k Next ≡ sample_field current ws k Next
  unfolding field_place
  other_next k h = set_other Next k (λ e. h (omega (arith, sample_at_lem Next k, sample_at_lem Next i)))

  pub set_sample : (k : ℕ) → sample_in current (set ws (sample_at current Next i) a) k ≡ sample_in current ws k
  unfolding field_place
  set_sample k =
      same_sample_lem (set ws (sample_at current Next i) a) ws k
      (λ f p. set_other f k (λ e. omega (arith, sample_at_lem f k, sample_at_lem Next i)))

-- What follows entry i: the row of the entry after it, and their number after the last.
pub after_entry : (n : ℕ) (es : List ℕ) (i : ℕ) → i + 1 < length es → get_or es (i + 1) 0 % 4096 ≡ first_row n (view (drop (suc i) es))
unfolding view placed_of first_row
after_entry n es i h =
    let e : i + 1 ≡ suc i = omega arith in
    rw (drop-cons es (suc i) 0 (omega arith)) (ap (λ (k : ℕ). get_or es k 0 % 4096) e)

pub after_last : (n : ℕ) (es : List ℕ) (i : ℕ) → length es ≤ i + 1 → n ≡ first_row n (view (drop (suc i) es))
unfolding view first_row
after_last n es i h = rw (drop_of_length-le es {i = suc i} (omega arith)) refl

-- It is the next word of its sample, where no row stands twice.
pub next_is : (es : List ℕ) (i : ℕ) → RowsOnce (length es) es → i < length es
    → first_row (length es) (view (drop (suc i) es)) ≡ next_row (length es) (get_or es i 0 % 4096) (view es)
unfolding view placed_of times_row count at_row
next_is es i once h =
    let x : ℕ = get_or es i 0 in
    let seen : view es ≡ view (take i es) ++ (placed_of x ∷ view (drop (suc i) es)) = view_at es i h in
    sym
    (ap (next_row (length es) (x % 4096)) seen
    ∙ next_in (length es) (view (take i es)) (placed_of x) (view (drop (suc i) es)) (rw seen at (once.most (x % 4096))))

-- A row that stands there is that of some entry.
found_at : (es : List ℕ) (r : ℕ) → 1 ≤ times_row r (view es) → (j : ℕ) × ((j < length es) × (get_or es j 0 % 4096 ≡ r))
unfolding view placed_of times_row keep
found_at [] r h = absurd (omega arith)
found_at (e ∷ es) r h = go (eqb (e % 4096) r) refl (found_at es r)
  where
    go : (q : Bool) → eqb (e % 4096) r ≡ q → (1 ≤ times_row r (view es) → (j : ℕ) × ((j < length es) × (get_or es j 0 % 4096 ≡ r))) → (j : ℕ) × ((j < length (e ∷ es)) × (get_or (e ∷ es) j 0 % 4096 ≡ r))
    go true t ih = (0, (omega arith, eqb-true (e % 4096) r t))
    go false t ih = let f = ih (rw (t, keep) at h) in (suc f.0, (omega (arith, f.1.0), f.1.1))

-- The samples of the first k entries have their next words.
abbrev pub NextsTo : List ℕ → List ℕ → ℕ → Type 0
NextsTo es ws k = (j : ℕ) → j < k → sample_field current ws (get_or es j 0 % 4096) Next ≡ next_row (length es) (get_or es j 0 % 4096) (view es)

pub nexts_all : (es ws : List ℕ) (k : ℕ) → RowsOnce (length es) es → length es ≤ k → NextsTo es ws k → NextsAre (length es) es ws
nexts_all es ws k once whole nexts = λ i h.
    let f = found_at es i (once.found i h) in
    let at = nexts f.0 (omega (arith, f.1.0)) in
    rw f.1.1 at at

pub nexts_step : (es ws vs : List ℕ) (k : ℕ) → NextsTo es ws k
    → sample_field current vs (get_or es k 0 % 4096) Next ≡ next_row (length es) (get_or es k 0 % 4096) (view es)
    → ((r : ℕ) → (r ≡ get_or es k 0 % 4096 → ⊥) → sample_field current vs r Next ≡ sample_field current ws r Next) → NextsTo es vs (k + 1)
nexts_step es ws vs k nexts here kept = λ j h. go j h (eqb (get_or es j 0 % 4096) (get_or es k 0 % 4096)) refl
  where
    go : (j : ℕ) → j < k + 1 → (q : Bool) → eqb (get_or es j 0 % 4096) (get_or es k 0 % 4096) ≡ q
        → sample_field current vs (get_or es j 0 % 4096) Next ≡ next_row (length es) (get_or es j 0 % 4096) (view es)
    go j h true t = rw (eqb-true (get_or es j 0 % 4096) (get_or es k 0 % 4096) t) here
    go j h false t =
        let other = eqb-false (get_or es j 0 % 4096) (get_or es k 0 % 4096) t in
        let sooner : (j ≡ k → ⊥) = λ e. other (ap (λ (i : ℕ). get_or es i 0 % 4096) e) in
        kept (get_or es j 0 % 4096) other ∙ nexts j (omega (arith, sooner))

-- Next words that are written: those of the first k entries are right, and no sample has changed.
pub record NextsPut (es before ws : List ℕ) (k : ℕ) : Type 0 where
  pub nexts : NextsTo es ws k
  pub long : length ws ≡ length before
  pub kept : (i : ℕ) → sample_in current ws i ≡ sample_in current before i

pub put_none : (es ws : List ℕ) → NextsPut es ws ws 0
put_none es ws = record { nexts = λ j h. absurd (omega arith); long = refl; kept = λ i. refl }

module _ {es before ws : List ℕ} {k : ℕ} (p : NextsPut es before ws k) where
  pub put_more : (vs : List ℕ) (row next : ℕ) → k < length es → length es ≤ sample_rows current (length before) → RowsOnce (length es) es
      → row ≡ get_or es k 0 % 4096 → next ≡ next_row (length es) (get_or es k 0 % 4096) (view es)
      → vs ≡ set ws (sample_at current Next row) next → NextsPut es before vs (k + 1)
  unfolding field_place
  put_more vs row next h few once e n v =
      let within : row < sample_rows current (length ws) = omega (arith, once.below k h, e, few, ap (sample_rows current) p.long) in
      let at : sample_at current Next row < length ws = omega (arith, sample_at_lem Next row, row_room (length ws) row within) in
      let put : sample_field current vs row Next ≡ next = rw v (set_next ws row next at) in
      let others : (r : ℕ) → (r ≡ row → ⊥) → sample_field current vs r Next ≡ sample_field current ws r Next = rw v (other_next ws row next) in
      record {
        nexts = nexts_step es ws vs k p.nexts (ap (λ (i : ℕ). sample_field current vs i Next) (sym e) ∙ put ∙ n) (λ r d. others r (λ same. d (same ∙ e)));
        long = rw v (length-set ws (sample_at current Next row) next ∙ p.long);
        kept = λ i. rw v (set_sample ws row next i ∙ p.kept i);
      }

  pub put_samples : samples_from current ws 0 (length es) ≡ samples_from current before 0 (length es)
  put_samples = same_samples ws before (length es) 0 (λ i l. p.kept i)

-- Rows that move one row up, over the one that stood there.
use Prim.Native.Nat.{ℕ, zero, suc, ◌+◌, ◌-◌, ◌≤◌, ◌<◌}
use mathlib.Core.Bool.{Bool, true, false}
use mathlib.Core.List.{List}
use mathlib.Core.Path.{◌≡◌, refl, sym, ap, ◌∙◌, subst}
use native.Mathlib.Nat.{zero-add, suc-add}
use native.Mathlib.Omega.{arith}
use borrow.Author.Tests.{eqb-true, eqb-false}
use lib.Dec.{eqb}
use lib.ListN.{length}
use Rattle.colour.specs.declared.Sample.{Sample}
use Rattle.model.specs.Layout.{current, sample_rows}
use Rattle.words.specs.Rows.{sample_in, samples_from, with_sample}
use Rattle.words.proofs.Laws.Layout.Put.{put_length, put_same, put_other}
use Rattle.samples.specs.Steps.{without_row}

module _ (ws vs : List ℕ) where
  -- Rows that say what the row after said.
  next_said : (n i : ℕ) → ((k : ℕ) → i ≤ k → k < i + n → sample_in current ws k ≡ sample_in current vs (suc k))
      → samples_from current ws i n ≡ samples_from current vs (suc i) n
  unfolding samples_from
  next_said zero i h = refl
  next_said (suc n) i h = rw (h i (omega arith) (omega arith), next_said n (suc i) (λ k l r. h k (omega arith) (omega arith)))

  -- The same from the row on that stands r rows after row i, and the rows before it say what they said.
  closed : (r n i : ℕ) → ((k : ℕ) → k < i + r → sample_in current ws k ≡ sample_in current vs k)
      → ((k : ℕ) → i + r ≤ k → k < i + r + n → sample_in current ws k ≡ sample_in current vs (suc k))
      → samples_from current ws i (r + n) ≡ without_row r (samples_from current vs i (suc (r + n)))
  unfolding samples_from without_row
  closed zero n i same next = rw (zero-add n) (next_said n i (λ k l r. next k (omega arith) (omega arith)))
  closed (suc r) n i same next =
      rw (suc-add r n, same i (omega arith), closed r n (suc i) (λ k l. same k (omega arith)) (λ k l m. next k (omega arith) (omega arith)))

-- The samples after a row, up to row i, were moved one row up.
pub record Moved (row n : ℕ) (before ws : List ℕ) (i : ℕ) : Type 0 where
  pub long : length ws ≡ length before
  pub least : row < i
  pub most : i ≤ n
  pub same : (k : ℕ) → k < row → sample_in current ws k ≡ sample_in current before k
  pub moved : (k : ℕ) → row ≤ k → k < i - 1 → sample_in current ws k ≡ sample_in current before (suc k)
  pub rest : (k : ℕ) → i ≤ k → sample_in current ws k ≡ sample_in current before k

module _ {row n : ℕ} {before ws : List ℕ} {i : ℕ} (p : Moved row n before ws i) where
  -- One row more: the sample of row i is put in the row before it.
  put_moved : (s : Sample) → i < n → n ≤ sample_rows current (length before) → s ≡ sample_in current ws i
      → Moved row n before (with_sample current ws (i - 1) s) (i + 1)
  put_moved s h few e =
      record {
        long = put_length ws (i - 1) s ∙ p.long;
        least = omega (arith, p.least);
        most = omega arith;
        same = λ k l. put_other ws (i - 1) s k (λ q. omega (arith, q, p.least)) ∙ p.same k l;
        moved = λ k l r. go (eqb k (i - 1)) k l r refl;
        rest = λ k l. put_other ws (i - 1) s k (λ q. omega (arith, q)) ∙ p.rest k (omega arith);
      }
    where
      -- Row i - 1 says what row i said.
      put : sample_in current (with_sample current ws (i - 1) s) (i - 1) ≡ sample_in current before i
      put =
          put_same ws (i - 1) s (omega (arith, ap (sample_rows current) p.long, few))
          ∙ e ∙ p.rest i (omega arith)

      -- It is the last that moved, or it moved before.
      go : (b : Bool) (k : ℕ) → row ≤ k → k < i + 1 - 1 → eqb k (i - 1) ≡ b
          → sample_in current (with_sample current ws (i - 1) s) k ≡ sample_in current before (suc k)
      go true k l r q =
          let last : k ≡ i - 1 = eqb-true k (i - 1) q in
          let next : i ≡ suc k = omega (arith, last) in
          rw last put ∙ ap (sample_in current before) next
      go false k l r q =
          let other : k ≡ i - 1 → ⊥ = eqb-false k (i - 1) q in
          put_other ws (i - 1) s k other ∙ p.moved k l (omega (arith, other))

  pub moved_more : (s : Sample) (ws' : List ℕ) → i < n → n ≤ sample_rows current (length before) → s ≡ sample_in current ws i
      → ws' ≡ with_sample current ws (i - 1) s → Moved row n before ws' (i + 1)
  moved_more s ws' h few e put = subst (λ (l : List ℕ). Moved row n before l (i + 1)) (sym put) (put_moved s h few e)

  -- All of them.
  pub moved_all : n ≤ i → samples_from current ws 0 (n - 1) ≡ without_row row (samples_from current before 0 n)
  moved_all h =
      let past : ℕ = n - suc row in
      let many : n ≡ suc (row + past) = omega (arith, p.least, p.most) in
      let fewer : n - 1 ≡ row + past = omega (arith, many) in
      ap (samples_from current ws 0) fewer
      ∙ closed ws before row past 0 (λ k l. p.same k (omega arith)) (λ k l r. p.moved k (omega arith) (omega (arith, p.most)))
      ∙ ap (λ (k : ℕ). without_row row (samples_from current before 0 k)) (sym many)

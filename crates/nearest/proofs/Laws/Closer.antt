-- What comes before the closest sample so far, and what taking a sample comes to: one best is a store.
use Prim.Native.Nat.{ℕ, ◌≤◌, ◌<◌}
use mathlib.Core.Bool.{Bool, true, false}
use mathlib.Core.List.{List}
use mathlib.Core.Path.{◌≡◌, refl, sym, ap, ◌∙◌}
use native.Mathlib.Omega.{arith}
use borrow.Author.Tests.{eqb-true, eqb-false, ltb-true, ltb-false, lt-ltb, le-ltb}
use lib.Dec.{eqb, ltb}
use Rattle.colour.specs.declared.Probe.{Probe}
use Rattle.traversal.proofs.Laws.Search.Keeps.{Steady}
use Rattle.traversal.proofs.Laws.Kept.Folds.{Takes}
use Rattle.nearest.specs.Best.{Kept, closer, taken, taken_rank, own_best, bests}

-- What comes before the best is no farther, and at the same d² its row is lower; what does not is no closer, and at the same d² its row is no lower.
module _ (best : Kept) (d octant : ℕ) where
  pub closer_yes : d ≤ best.distance → (d ≡ best.distance → octant < best.octant) → closer best d octant ≡ true
  unfolding closer
  closer_yes h f = go (eqb d best.distance) refl
    where
      go : (r : Bool) → eqb d best.distance ≡ r → closer best d octant ≡ true
      go true e = rw (e, closer) (lt-ltb octant best.octant (f (eqb-true d best.distance e)))
      go false e = rw (e, closer) (lt-ltb d best.distance (omega (arith, eqb-false d best.distance e)))

  pub closer_no : best.distance ≤ d → (d ≡ best.distance → best.octant ≤ octant) → closer best d octant ≡ false
  unfolding closer
  closer_no h f = go (eqb d best.distance) refl
    where
      go : (r : Bool) → eqb d best.distance ≡ r → closer best d octant ≡ false
      go true e = rw (e, closer) (le-ltb octant best.octant (f (eqb-true d best.distance e)))
      go false e = rw (e, closer) (le-ltb d best.distance h)

  pub closer_true : closer best d octant ≡ true → (d ≤ best.distance) × (d ≡ best.distance → octant < best.octant)
  unfolding closer
  closer_true c = go (eqb d best.distance) refl
    where
      go : (r : Bool) → eqb d best.distance ≡ r → (d ≤ best.distance) × (d ≡ best.distance → octant < best.octant)
      go true e =
          let l : ltb octant best.octant ≡ true = rw (e, closer) at c in
          (omega (arith, eqb-true d best.distance e), λ q. ltb-true octant best.octant l)
      go false e =
          let l : ltb d best.distance ≡ true = rw (e, closer) at c in
          (omega (arith, ltb-true d best.distance l), λ q. absurd (eqb-false d best.distance e q))

  closer_false : closer best d octant ≡ false → (best.distance ≤ d) × (d ≡ best.distance → best.octant ≤ octant)
  unfolding closer
  closer_false c = go (eqb d best.distance) refl
    where
      go : (r : Bool) → eqb d best.distance ≡ r → (best.distance ≤ d) × (d ≡ best.distance → best.octant ≤ octant)
      go true e =
          let l : ltb octant best.octant ≡ false = rw (e, closer) at c in
          (omega (arith, eqb-true d best.distance e), λ q. ltb-false octant best.octant l)
      go false e =
          let l : ltb d best.distance ≡ false = rw (e, closer) at c in
          (ltb-false d best.distance l, λ q. absurd (eqb-false d best.distance e q))

-- What is no closer and in no lower row than one that does not come before the best does not either.
pub closer_farther : (best : Kept) (d octant d' octant' : ℕ) → closer best d octant ≡ false → d ≤ d' → octant ≤ octant' → closer best d' octant' ≡ false
closer_farther best d octant d' octant' c h l =
    let s = closer_false best d octant c in
    closer_no best d' octant' (omega (arith, s.0)) (λ q. omega (arith, s.1 (omega (arith, s.0))))

-- The best that a sample is.
abbrev pub new_best : ℕ → ℕ → ℕ → Kept
new_best d octant i = record { distance = d; octant = octant; row = i }

-- What comes before the best takes its place; what does not leaves it.
module _ (best : Kept) (d octant i : ℕ) where
  pub taken_yes : closer best d octant ≡ true → taken best d octant i ≡ new_best d octant i
  unfolding taken
  taken_yes e = rw (e, taken)

  pub taken_no : closer best d octant ≡ false → taken best d octant i ≡ best
  unfolding taken
  taken_no e = rw (e, taken)

-- What does not come before the best does not either once a sample is taken.
closer_stays : (best : Kept) (d octant i d' octant' : ℕ) → closer best d' octant' ≡ false → closer (taken best d octant i) d' octant' ≡ false
closer_stays best d octant i d' octant' h = go (closer best d octant) refl
  where
    go : (r : Bool) → closer best d octant ≡ r → closer (taken best d octant i) d' octant' ≡ false
    go false e = rw (taken_no best d octant i e) h
    go true e =
        let y = closer_true best d octant e in
        let n = closer_false best d' octant' h in
        rw (taken_yes best d octant i e)
        (closer_no (new_best d octant i) d' octant' (omega (arith, y.0, n.0))
        (λ q. omega (arith, y.1 (omega (arith, y.0, n.0)), n.1 (omega (arith, y.0, n.0)))))

-- One that comes before the best and one that does not may be taken in either sequence.
taken_one : (best : Kept) (d octant i d' octant' i' : ℕ) → closer best d' octant' ≡ false
    → taken (taken best d octant i) d' octant' i' ≡ taken (taken best d' octant' i') d octant i
taken_one best d octant i d' octant' i' e =
    taken_no (taken best d octant i) d' octant' i' (closer_stays best d octant i d' octant' e) ∙ ap (λ (k : Kept). taken k d octant i) (sym (taken_no best d' octant' i' e))

-- Two samples in different octant rows may be taken in either sequence.
pub taken_swap : (best : Kept) (d octant i d' octant' i' : ℕ) → (octant ≡ octant' → ⊥)
    → taken (taken best d octant i) d' octant' i' ≡ taken (taken best d' octant' i') d octant i
taken_swap best d octant i d' octant' i' ne = go (closer best d octant) (closer best d' octant') refl refl
  where
    new : Kept
    new = new_best d octant i

    new' : Kept
    new' = new_best d' octant' i'

    both : (r : Bool) → closer new d' octant' ≡ r → taken new d' octant' i' ≡ taken new' d octant i
    both true e =
        let s = closer_true new d' octant' e in
        taken_yes new d' octant' i' e ∙ sym (taken_no new' d octant i (closer_no new' d octant s.0 (λ q. omega (arith, s.1 (sym q)))))
    both false e =
        let s = closer_false new d' octant' e in
        taken_no new d' octant' i' e ∙ sym (taken_yes new' d octant i (closer_yes new' d octant s.0 (λ q. omega (arith, s.1 (sym q), ne))))

    go : (p q : Bool) → closer best d octant ≡ p → closer best d' octant' ≡ q
        → taken (taken best d octant i) d' octant' i' ≡ taken (taken best d' octant' i') d octant i
    go p false e e' = taken_one best d octant i d' octant' i' e'
    go false true e e' = sym (taken_one best d' octant' i' d octant i e)
    go true true e e' = rw (taken_yes best d octant i e, taken_yes best d' octant' i' e') (both (closer new d' octant') refl)

-- So one best is a steady store, and what is farther than it never comes before it.
pub best_steady : (ws : List ℕ) (p : Probe) → Steady (bests ws p)
unfolding own_best taken_rank
best_steady ws p = record { stays = λ best at rows d octant h. closer_stays best _ at _ d octant h }

pub best_beyond : (best : Kept) (d octant : ℕ) → best.distance < d → closer best d octant ≡ false
best_beyond best d octant h = closer_no best d octant (omega arith) (λ q. absurd (omega arith))

-- And it takes samples one by one, whatever the top of the rows is.
abbrev pub best_takes : (ws : List ℕ) (p : Probe) → ℕ → Takes (bests ws p)
best_takes ws p top =
    record {
      top = top;
      take = taken;
      no = taken_no;
      farther = closer_farther;
      swap = λ best d octant i d' octant' i' h l apart. taken_swap best d octant i d' octant' i' apart;
    }

-- Visits one after the other.
use Prim.Native.Nat.{ℕ, zero, suc, ◌≤◌, ◌<◌}
use mathlib.Core.Bool.{Bool, true, false, ◌&&◌, and-false}
use mathlib.Core.List.{List, ◌++◌, append-nil}
use mathlib.Core.Path.{◌≡◌, refl, sym, ap, ◌∙◌}
use native.Mathlib.Omega.{arith}
use borrow.Author.Tests.{eqb-true, eqb-false, le-leb, lt-leb, lt-ltb}
use lib.Dec.{eqb, leb, ltb}
use Rattle.colour.specs.Channels.{Colour}
use Rattle.colour.specs.declared.Region.{Region}
use Rattle.colour.specs.Octant.{child_low}
use Rattle.colour.specs.Region.{overlaps}
use Rattle.model.specs.Layout.{current}
use Rattle.words.specs.Rows.{octant_limit}
use Rattle.traversal.specs.Children.{child_at}
use Rattle.listing.specs.Pass.{Tally, Visit, enters, nothing, and_then, visit_each, child_visit}

-- A visit that finds nothing adds nothing.
pub then_nothing : (v : Visit) (f : Tally → Visit) → f v.after ≡ nothing v.after → and_then v f ≡ v
unfolding and_then nothing
then_nothing v f e =
    ap (λ (w : Visit). record { tags = v.tags ++ w.tags; after = w.after }) e
    ∙ ap (λ (l : List ℕ). record { tags = l; after = v.after }) (append-nil v.tags)

module _ (f : ℕ → Tally → Visit) (t : Tally) where
  pub turn_more : (n : ℕ) → visit_each f (suc n) t ≡ and_then (visit_each f n t) (f n)
  unfolding visit_each
  turn_more n = refl

  pub turn_none : visit_each f 0 t ≡ nothing t
  unfolding visit_each
  turn_none = refl

  -- Turns that find nothing, whatever was counted before them, can be left out.
  pub turns_skipped : (p k : ℕ) → p ≤ k → ((i : ℕ) → p ≤ i → i < k → (u : Tally) → f i u ≡ nothing u) → visit_each f k t ≡ visit_each f p t
  turns_skipped p zero h s = ap (λ (n : ℕ). visit_each f n t) (omega arith)
  turns_skipped p (suc k) h s = go (eqb p (suc k)) refl (λ l. turns_skipped p k l (λ i a b u. s i a (omega arith) u))
    where
      go : (r : Bool) → eqb p (suc k) ≡ r → (p ≤ k → visit_each f k t ≡ visit_each f p t) → visit_each f (suc k) t ≡ visit_each f p t
      go true e ih = ap (λ (n : ℕ). visit_each f n t) (sym (eqb-true p (suc k) e))
      go false e ih =
          let d : p ≡ suc k → ⊥ = eqb-false p (suc k) e in
          let l : p ≤ k = omega (arith, d) in
          turn_more k
          ∙ then_nothing (visit_each f k t) (f k) (s k l (omega arith) (visit_each f k t).after)
          ∙ ih l

-- When a child is not entered: its row is 0, the root's, which is passed; it does not overlap; its row is passed or not there.
module _ (os : List ℕ) (R : Region) (s : ℕ) (low : Colour) (row : ℕ) (t : Tally) where
  -- The octant's row is past those entered before, and the table has it.
  abbrev pub allowed : Bool
  allowed = leb t.next row && ltb row (octant_limit current os)

  pub passed_by : row ≡ 0 → 0 < t.next → enters os R s low row t ≡ false
  unfolding enters
  passed_by e h = rw (e, lt-leb t.next 0 h, and-false (overlaps R s low))

  pub apart_from : overlaps R s low ≡ false → enters os R s low row t ≡ false
  unfolding enters
  apart_from e = rw e

  pub barred : allowed ≡ false → enters os R s low row t ≡ false
  unfolding enters
  barred e = rw (e, and-false (overlaps R s low))

  -- When it is.
  pub let_in : overlaps R s low ≡ true → allowed ≡ true → enters os R s low row t ≡ true
  unfolding enters
  let_in e o = rw (e, o)

  pub goes_in : overlaps R s low ≡ true → t.next ≤ row → row < octant_limit current os → enters os R s low row t ≡ true
  goes_in e h l = let_in e (rw (le-leb t.next row h, lt-ltb row (octant_limit current os) l))

-- What the visit of a child is then.
module _ (os : List ℕ) (R : Region) (f : ℕ → Colour → Tally → Visit) (s row : ℕ) (low : Colour) (k : ℕ) (t : Tally) where
  pub turned_off : enters os R s (child_low s k low) (child_at os row k) t ≡ false → child_visit os R f s row low k t ≡ nothing t
  unfolding child_visit
  turned_off e = rw (e, child_visit)

  pub turned_in : enters os R s (child_low s k low) (child_at os row k) t ≡ true
      → child_visit os R f s row low k t ≡ f (child_at os row k) (child_low s k low) t
  unfolding child_visit
  turned_in e = rw (e, child_visit)

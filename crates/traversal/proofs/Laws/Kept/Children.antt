-- The children of an octant, in whatever sequence they are taken.
use Prim.Native.Nat.{ℕ, zero, suc, ◌+◌, ◌≤◌, ◌<◌}
use mathlib.Core.Bool.{Bool, true, false}
use mathlib.Core.List.{List}
use mathlib.Core.Path.{◌≡◌, refl, sym, ap, ◌∙◌}
use native.Mathlib.Omega.{arith}
use borrow.Author.Tests.{ltb-true, ltb-false}
use lib.Dec.{ltb}
use Rattle.colour.specs.declared.Probe.{Probe}
use Rattle.colour.specs.Octant.{children}
use Rattle.model.specs.Lists.{joined}
use Rattle.model.specs.SampleSet.{Placed, part, octants_of}
use Rattle.model.specs.Tables.{child_row}
use Rattle.model.proofs.Lists.{total_past}
use Rattle.traversal.proofs.Laws.Sound.Each.{all_then}
use Rattle.traversal.specs.Search.{Store}
use Rattle.traversal.specs.Turns.{in_turn}
use Rattle.traversal.proofs.Laws.Kept.Labels.{Label, child_labels, labelled_within}
use Rattle.traversal.proofs.Laws.Kept.Folds.{Takes, measured, measured_append, measured_swap}
use Rattle.traversal.proofs.Laws.Search.Turns.{Commute}

-- Lists that are measured in turn are measured as one.
pub turns_measured : {S : Type 0} (K : Store S) (T : Takes K) (p : Probe) (s : S) (f : ℕ → List Label) (n : ℕ)
    → in_turn (λ k a. measured K T p a (f k)) n s ≡ measured K T p s (joined f n)
unfolding in_turn measured joined
turns_measured K T p s f zero = refl
turns_measured {S} K T p s f (suc n) =
    ap (λ (a : S). measured K T p a (f n)) (turns_measured K T p s f n) ∙ sym (measured_append K T p s (joined f n) (f n))

module _ {S : Type 0} (K : Store S) (T : Takes K) (p : Probe) (b j at : ℕ) (xs : List Placed) where
  -- What is kept, once child k's samples are measured.
  abbrev pub child_measured : ℕ → S → S
  child_measured k s = measured K T p s (child_labels b j at xs k)

module _ {S : Type 0} (K : Store S) (T : Takes K) (p : Probe) (b j at : ℕ) (xs : List Placed)
    (fits : (k : ℕ) → k < children → child_row b j at xs k + octants_of b j (part j k xs) ≤ T.top) where
  abbrev after : ℕ → S → S
  after = child_measured K T p b j at xs

  -- A child's rows come before those of a later child.
  rows_apart : (i k : ℕ) → i < k → child_row b j at xs i + octants_of b j (part j i xs) ≤ child_row b j at xs k
  unfolding child_row
  rows_apart i k h = omega (arith, total_past (λ e. octants_of b j (part j e xs)) i k h)

  -- An earlier child and a later one may be measured in either sequence.
  earlier_later : (i k : ℕ) → i < k → k < children → (a : S) → after k (after i a) ≡ after i (after k a)
  earlier_later i k h e a =
      measured_swap K T p a (child_row b j at xs k) (child_labels b j at xs i) (child_labels b j at xs k) (omega (arith, fits k e))
      (all_then _ _ (λ l w. omega (arith, w.1, rows_apart i k h)) _ (labelled_within b j (child_row b j at xs i) (part j i xs)))
      (all_then _ _ (λ l w. (w.0, omega (arith, w.1, fits k e))) _ (labelled_within b j (child_row b j at xs k) (part j k xs)))

  -- Any two children may.
  pub children_commute : Commute (child_measured K T p b j at xs) children
  children_commute i k h l d a = go (ltb i k) refl
    where
      go : (r : Bool) → ltb i k ≡ r → after i (after k a) ≡ after k (after i a)
      go true e = sym (earlier_later i k (ltb-true i k e) l a)
      go false e = earlier_later k i (omega (arith, ltb-false i k e, d)) h a

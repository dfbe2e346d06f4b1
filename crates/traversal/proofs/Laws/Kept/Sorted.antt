-- The samples of an octant stand by rising rows.
use Prim.Native.Nat.{ℕ, suc, ◌^◌, ◌≤◌}
use mathlib.Core.Bool.{Bool, true, false}
use mathlib.Core.List.{List, [], ◌∷◌}
use mathlib.Core.Path.{◌≡◌, refl, sym, subst}
use native.Mathlib.Omega.{arith}
use Rattle.colour.specs.Channels.{Colour}
use Rattle.colour.specs.declared.Sample.{Sample}
use Rattle.model.specs.Lists.{keep}
use Rattle.model.specs.SampleSet.{SampleSet, Placed, placed, placed_from}
use Rattle.model.specs.Sound.{CodesInRange}
use Rattle.model.proofs.Tree.Cubes.{Reached, lies, octant_samples}

-- Rows from n on that rise.
unfoldable pub Sorted : ℕ → List Placed → Type 0
Sorted n [] = Unit {0}
Sorted n (x ∷ rest) = (n ≤ x.row) × Sorted (suc x.row) rest

pub sorted_lower : (n m : ℕ) (xs : List Placed) → n ≤ m → Sorted m xs → Sorted n xs
unfolding Sorted
sorted_lower n m [] h s = tt
sorted_lower n m (x ∷ xs) h s = (omega (arith, s.0), s.1)

sorted_keep : (p : Placed → Bool) (n : ℕ) (xs : List Placed) → Sorted n xs → Sorted n (keep p xs)
unfolding Sorted keep
sorted_keep p n [] s = tt
sorted_keep p n (x ∷ xs) s = go (p x) refl (sorted_keep p (suc x.row) xs s.1)
  where
    go : (r : Bool) → p x ≡ r → Sorted (suc x.row) (keep p xs) → Sorted n (keep p (x ∷ xs))
    go true e ih = rw (e, keep) (s.0, ih)
    go false e ih = rw (e, keep) (sorted_lower n (suc x.row) (keep p xs) (omega (arith, s.0)) ih)

placed_sorted : (i : ℕ) (ss : List Sample) → Sorted i (placed_from i ss)
unfolding Sorted placed_from
placed_sorted i [] = tt
placed_sorted i (s ∷ ss) = (omega arith, placed_sorted (suc i) ss)

pub reached_sorted : {set : SampleSet} {j : ℕ} {low : Colour} {xs : List Placed} → CodesInRange set.samples → Reached set j low xs → Sorted 0 xs
unfolding placed
reached_sorted {set = set} {j} {low} c r =
    subst (Sorted 0) (sym (octant_samples c r)) (sorted_keep (lies (2 ^ j) low) 0 (placed_from 0 set.samples) (placed_sorted 0 set.samples))

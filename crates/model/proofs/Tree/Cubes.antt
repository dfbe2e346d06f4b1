-- An octant of the tree holds exactly the samples of the set whose colours lie in its cube (document 01, "Colours and octants", "The bin").
-- The definitions part samples by their child numbers, and go by the cube where a query looks at it; this law joins the two.
use Prim.Native.Nat.{ℕ, suc, ◌^◌, ◌<◌}
use mathlib.Core.Bool.{Bool, true, false, ◌&&◌, and-eq-true_iff}
use mathlib.Core.List.{List, [], ◌∷◌}
use mathlib.Core.Logic.{◌↔◌}
use mathlib.Core.Path.{◌≡◌, refl, sym, ap, ◌∙◌}
use lib.Dec.{eqb}
use borrow.Author.Tests.{eqb-true, eq-eqb}
use Rattle.colour.specs.Channels.{Colour}
use Rattle.colour.specs.declared.Sample.{Sample}
use Rattle.colour.specs.Colour.{black}
use Rattle.colour.specs.Octant.{Octant, root, child, depths, children, cube_holds, child_number, child_low}
use Rattle.colour.proofs.Laws.Octants.{child_holds, root_holds}
use Rattle.model.specs.Lists.{keep}
use Rattle.model.specs.SampleSet.{SampleSet, Placed, placed_from, placed, part}
use Rattle.model.specs.Sound.{CodesInRange}

-- Whether a sample lies in the octant of side s at low.
abbrev pub lies : ℕ → Colour → Placed → Bool
lies s low x = cube_holds s low x.sample.colour

same_test : (a b : Bool) → (a ≡ true) ↔ (b ≡ true) → a ≡ b
same_test true b e = sym (e.0 refl)
same_test false true e = e.1 refl
same_test false false e = refl

-- What one test keeps of what another keeps is what both let through.
keep_keep : (p q r : Placed → Bool) → ((x : Placed) → r x ≡ (p x && q x)) → (xs : List Placed) → keep q (keep p xs) ≡ keep r xs
unfolding keep
keep_keep p q r h [] = refl
keep_keep p q r h (x ∷ xs) = go (p x) (q x) refl refl (keep_keep p q r h xs)
  where
    go : (a b : Bool) → p x ≡ a → q x ≡ b → keep q (keep p xs) ≡ keep r xs → keep q (keep p (x ∷ xs)) ≡ keep r (x ∷ xs)
    go true true e f i =
        let both : r x ≡ true = rw (h x, e, f) in
        rw (e, keep) (rw (f, both, keep) (ap (λ (l : List Placed). x ∷ l) i))
    go true false e f i =
        let one : r x ≡ false = rw (h x, e, f) in
        rw (e, keep) (rw (f, one, keep) i)
    go false b e f i =
        let none : r x ≡ false = rw (h x, e) in
        rw (e, keep) (rw (none, keep) i)

-- Every octant from the root down, whether it is in the set's tree or not, with the samples that the definitions give it.
pub data Reached (set : SampleSet) : ℕ → Colour → List Placed → Type 0 where
  whole : Reached set depths black (placed set)
  below : {j : ℕ} {low : Colour} {xs : List Placed} (k : ℕ) → k < children → Reached set (suc j) low xs
      → Reached set j (child_low (2 ^ j) k low) (part j k xs)

pub reached_octant : {set : SampleSet} {j : ℕ} {low : Colour} {xs : List Placed} → Reached set j low xs → Octant j low
reached_octant whole = root
reached_octant (below k h r) = child k h (reached_octant r)

all_in : (i : ℕ) (xs : List Sample) → CodesInRange xs → keep (lies (2 ^ depths) black) (placed_from i xs) ≡ placed_from i xs
unfolding keep placed_from CodesInRange depths
all_in i [] h = refl
all_in i (x ∷ xs) h = rw (root_holds x.colour ∙ h.0, keep) (ap (λ (l : List Placed). record { row = i; sample = x } ∷ l) (all_in (suc i) xs h.1))

-- Of a list of samples that an octant holds, a part by the child number is the part by the child's cube.
part_lies : {j : ℕ} {low : Colour} → Octant (suc j) low → (k : ℕ) → k < children → (xs : List Placed)
    → part j k (keep (lies (2 ^ suc j) low) xs) ≡ keep (lies (2 ^ j) (child_low (2 ^ j) k low)) xs
unfolding part
part_lies {j} {low} o k h xs =
    keep_keep (lies (2 ^ suc j) low) (λ x. eqb (child_number j x.sample.colour) k) (lies (2 ^ j) (child_low (2 ^ j) k low))
    (λ x. same_test _ _ (by x.sample.colour)) xs
  where
    by : (c : Colour)
        → (cube_holds (2 ^ j) (child_low (2 ^ j) k low) c ≡ true) ↔ ((cube_holds (2 ^ suc j) low c && eqb (child_number j c) k) ≡ true)
    by c = (
      λ e. let t = (child_holds o c k h).0 e in (and-eq-true_iff (cube_holds (2 ^ suc j) low c) _).1 (t.0, eq-eqb _ _ t.1),
      λ e. let t = (and-eq-true_iff (cube_holds (2 ^ suc j) low c) _).0 e in (child_holds o c k h).1 (t.0, eqb-true _ _ t.1),
    )

pub octant_samples : {set : SampleSet} {j : ℕ} {low : Colour} {xs : List Placed} → CodesInRange set.samples → Reached set j low xs
    → xs ≡ keep (lies (2 ^ j) low) (placed set)
unfolding placed
octant_samples {set = set} c whole = sym (all_in 0 set.samples c)
octant_samples {set = set} c (below {j} {low} {xs} k h r) =
    ap (part j k) (octant_samples c r) ∙ part_lies (reached_octant r) k h (placed set)

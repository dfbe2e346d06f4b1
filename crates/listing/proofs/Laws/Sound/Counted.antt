-- What document 01 enters and measures at an octant, by how the region lies to it.
use Prim.Native.Nat.{ℕ, zero, suc, ◌^◌, ◌≤◌}
use mathlib.Core.Bool.{true, false}
use mathlib.Core.List.{List, [], ◌∷◌}
use mathlib.Core.Path.{◌≡◌, refl, ap, ◌∙◌}
use native.Mathlib.Omega.{arith}
use lib.ListN.{length}
use Rattle.colour.specs.Channels.{Colour}
use Rattle.colour.specs.declared.Region.{Region}
use Rattle.colour.specs.Octant.{children, child_low}
use Rattle.colour.specs.Region.{overlaps, inside}
use Rattle.model.specs.Lists.{total}
use Rattle.model.specs.SampleSet.{Placed, part, splits}
use Rattle.model.specs.Queries.{Counts, no_counts, total_counts, measure_all, enter, visit}

-- What document 01 enters and measures at an octant that holds no sample, that does not overlap, and that is gone through sample by sample.
module _ (R : Region) (b : ℕ) where
  pub visit_empty : (j : ℕ) (low : Colour) → visit R b j low [] ≡ no_counts
  unfolding visit enter
  visit_empty zero low = refl
  visit_empty (suc j) low = refl

  enter_misses : (s : ℕ) (low : Colour) (xs : List Placed) (c : Counts) → overlaps R s low ≡ false → enter R s low xs c ≡ no_counts
  unfolding enter
  enter_misses s low [] c e = refl
  enter_misses s low (x ∷ xs) c e = rw (e, enter)

  pub visit_misses : (j : ℕ) (low : Colour) (xs : List Placed) → overlaps R (2 ^ j) low ≡ false → visit R b j low xs ≡ no_counts
  unfolding visit
  visit_misses zero low xs e = enter_misses (2 ^ zero) low xs _ e
  visit_misses (suc j) low xs e = enter_misses (2 ^ suc j) low xs _ e

  -- One that overlaps is entered; then it is taken whole, or what is below it counts.
  enter_meets : (s : ℕ) (low : Colour) (xs : List Placed) (c : Counts) → 1 ≤ length xs → overlaps R s low ≡ true
      → enter R s low xs c ≡ elim (inside R s low) [ true ↦ record { entered = 1; measured = 0 } | false ↦ record { entered = suc c.entered; measured = c.measured } ]
  unfolding enter
  enter_meets s low [] c h e = absurd (omega arith)
  enter_meets s low (x ∷ xs) c h e = rw (e, enter)

  abbrev pub child_counts : ℕ → Colour → List Placed → ℕ → Counts
  child_counts j low xs k = visit R b j (child_low (2 ^ j) k low) (part j k xs)

  unfoldable below_counts : ℕ → Colour → List Placed → Counts
  below_counts zero low xs = measure_all xs
  below_counts (suc j) low xs = elim (splits b (suc j) xs) [ true ↦ total_counts (child_counts j low xs) children | false ↦ measure_all xs ]

  visit_is : (j : ℕ) (low : Colour) (xs : List Placed) → visit R b j low xs ≡ enter R (2 ^ j) low xs (below_counts j low xs)
  unfolding visit below_counts
  visit_is zero low xs = refl
  visit_is (suc j) low xs = refl

  below_leaf : (j : ℕ) (low : Colour) (xs : List Placed) → splits b j xs ≡ false → below_counts j low xs ≡ measure_all xs
  unfolding below_counts
  below_leaf zero low xs e = refl
  below_leaf (suc j) low xs e = rw (e, below_counts)

  module _ (j : ℕ) (low : Colour) (xs : List Placed) (some : 1 ≤ length xs) (meets : overlaps R (2 ^ j) low ≡ true) where
    pub visit_inside : inside R (2 ^ j) low ≡ true → visit R b j low xs ≡ record { entered = 1; measured = 0 }
    visit_inside i = visit_is j low xs ∙ enter_meets (2 ^ j) low xs (below_counts j low xs) some meets ∙ rw i

    visit_below : inside R (2 ^ j) low ≡ false
        → visit R b j low xs ≡ record { entered = suc (below_counts j low xs).entered; measured = (below_counts j low xs).measured }
    visit_below i = visit_is j low xs ∙ enter_meets (2 ^ j) low xs (below_counts j low xs) some meets ∙ rw i

    pub visit_leaf : inside R (2 ^ j) low ≡ false → splits b j xs ≡ false → visit R b j low xs ≡ record { entered = 1; measured = length xs }
    unfolding measure_all
    visit_leaf i e =
        visit_below i ∙ ap (λ (c : Counts). record { entered = suc c.entered; measured = c.measured }) (below_leaf j low xs e)

  pub visit_split : (j : ℕ) (low : Colour) (xs : List Placed) → 1 ≤ length xs → overlaps R (2 ^ suc j) low ≡ true → inside R (2 ^ suc j) low ≡ false
      → splits b (suc j) xs ≡ true
      → visit R b (suc j) low xs
      ≡ record { entered = suc (total (λ k. (child_counts j low xs k).entered) children); measured = total (λ k. (child_counts j low xs k).measured) children }
  unfolding below_counts total_counts
  visit_split j low xs some meets i e = visit_below (suc j) low xs some meets i ∙ rw (e, below_counts)

-- A query's entered is at most the octant count, and its measured at most the sample count (document 01, "Picks").
use Prim.Native.Nat.{ℕ, zero, suc, ◌^◌, ◌≤◌, min}
use mathlib.Core.Bool.{Bool, true, false}
use mathlib.Core.List.{List, [], ◌∷◌}
use mathlib.Core.Path.{◌≡◌, refl}
use lib.ListN.{length}
use native.Mathlib.Omega.{arith}
use Rattle.colour.specs.Channels.{Colour}
use Rattle.colour.specs.declared.Region.{Region}
use Rattle.colour.specs.Colour.{black}
use Rattle.colour.specs.Octant.{depths, children, child_low}
use Rattle.colour.specs.Region.{overlaps, inside}
use Rattle.model.specs.Lists.{total}
use Rattle.model.specs.SampleSet.{SampleSet, Placed, placed, part, splits, octants_of, octants}
use Rattle.model.specs.Queries.{Counts, no_counts, total_counts, measure_all, enter, visit, counts}
use Rattle.model.proofs.Lists.{total_le}
use Rattle.model.proofs.Tree.Order.{parts_length, placed_length}

-- An octant adds at most itself to what is below it, and nothing where it holds no sample.
module _ (R : Region) (s : ℕ) (low : Colour) where
  enter_by : (x : Placed) (xs : List Placed) (below : Counts) (p q : Bool) → overlaps R s low ≡ p → inside R s low ≡ q
      → ((enter R s low (x ∷ xs) below).entered ≤ suc below.entered) × ((enter R s low (x ∷ xs) below).measured ≤ below.measured)
  unfolding enter no_counts
  enter_by x xs below false q d e = rw (d, enter) (omega arith, omega arith)
  enter_by x xs below true true d e = rw (d, e, enter) (omega arith, omega arith)
  enter_by x xs below true false d e = rw (d, e, enter) (omega arith, omega arith)

  pub enter_most : (xs : List Placed) (below : Counts)
      → ((enter R s low xs below).entered ≤ suc below.entered) × ((enter R s low xs below).measured ≤ below.measured)
  unfolding enter no_counts
  enter_most [] below = (omega arith, omega arith)
  enter_most (x ∷ xs) below = enter_by x xs below (overlaps R s low) (inside R s low) refl refl

  pub enter_leaf : (xs : List Placed)
      → ((enter R s low xs (measure_all xs)).entered ≤ min 1 (length xs)) × ((enter R s low xs (measure_all xs)).measured ≤ length xs)
  unfolding enter no_counts measure_all
  enter_leaf [] = (omega arith, omega arith)
  enter_leaf (x ∷ xs) =
      let h = enter_most (x ∷ xs) (measure_all (x ∷ xs)) in
      (omega (arith, h.0), h.1)

pub visit_most : (R : Region) (b j : ℕ) (low : Colour) (xs : List Placed)
    → ((visit R b j low xs).entered ≤ octants_of b j xs) × ((visit R b j low xs).measured ≤ length xs)
unfolding visit octants_of total_counts
visit_most R b zero low xs = enter_leaf R (2 ^ zero) low xs
visit_most R b (suc j) low xs = go (splits b (suc j) xs) refl (λ k. visit_most R b j (child_low (2 ^ j) k low) (part j k xs))
  where
    go : (r : Bool) → splits b (suc j) xs ≡ r
        → ((k : ℕ) → ((visit R b j (child_low (2 ^ j) k low) (part j k xs)).entered ≤ octants_of b j (part j k xs))
        × ((visit R b j (child_low (2 ^ j) k low) (part j k xs)).measured ≤ length (part j k xs)))
        → ((visit R b (suc j) low xs).entered ≤ octants_of b (suc j) xs) × ((visit R b (suc j) low xs).measured ≤ length xs)
    go true e ih =
        let f : ℕ → Counts = λ k. visit R b j (child_low (2 ^ j) k low) (part j k xs) in
        let h = enter_most R (2 ^ suc j) low xs (total_counts f children) in
        let n : total (λ k. (f k).entered) children ≤ total (λ k. octants_of b j (part j k xs)) children =
        total_le (λ k. (f k).entered) (λ k. octants_of b j (part j k xs)) (λ k. (ih k).0) children in
        let m : total (λ k. (f k).measured) children ≤ total (λ k. length (part j k xs)) children =
        total_le (λ k. (f k).measured) (λ k. length (part j k xs)) (λ k. (ih k).1) children in
        rw (e, visit, octants_of) (omega (arith, h.0, n), omega (arith, h.1, m, parts_length j xs))
    go false e ih = rw (e, visit, octants_of) (enter_leaf R (2 ^ suc j) low xs)

-- Over a whole query.
pub counts_most : (R : Region) (set : SampleSet) → ((counts R set).entered ≤ octants set) × ((counts R set).measured ≤ length set.samples)
unfolding counts octants placed
counts_most R set =
    let h = visit_most R set.settings.bucket depths black (placed set) in
    (h.0, omega (arith, h.1, placed_length 0 set.samples))

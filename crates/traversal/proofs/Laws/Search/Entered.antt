-- When an octant is entered, on any words, and what the search of a child is then.
use Prim.Native.Nat.{ℕ, ◌<◌}
use mathlib.Core.Bool.{true, false, ◌&&◌, and-false, and-eq-true_iff}
use mathlib.Core.List.{List}
use mathlib.Core.Path.{◌≡◌}
use native.Mathlib.Omega.{arith}
use borrow.Author.Tests.{lt-ltb, le-ltb, ltb-true}
use lib.Dec.{ltb}
use Rattle.colour.specs.Channels.{Colour}
use Rattle.colour.specs.declared.Probe.{Probe}
use Rattle.colour.specs.Colour.{distance}
use Rattle.colour.specs.Octant.{child_low}
use Rattle.colour.specs.Region.{closest}
use Rattle.model.specs.Layout.{current}
use Rattle.words.specs.Rows.{octant_limit}
use Rattle.traversal.specs.Children.{child_at}
use Rattle.traversal.specs.Search.{Store, Searching, reaches, child_search}

module _ {S : Type 0} (K : Store S) (limit row d : ℕ) (s : Searching S) where
  -- An octant whose row is 0 is not entered.
  pub reaches_none : row ≡ 0 → reaches K limit row d s ≡ false
  unfolding reaches
  reaches_none e = rw (le-ltb 0 row (omega arith))

  -- Nor is one that does not come before what is kept.
  pub reaches_farther : K.closer s.kept d row ≡ false → reaches K limit row d s ≡ false
  unfolding reaches
  reaches_farther e = rw (e, and-false (ltb s.entered limit), and-false _)

  -- An octant is entered if it is there, another may be entered, and it comes before what is kept.
  pub reaches_yes : 0 < row → row < limit → s.entered < limit → K.closer s.kept d row ≡ true → reaches K limit row d s ≡ true
  unfolding reaches
  reaches_yes a h l e = rw (lt-ltb 0 row a, lt-ltb row limit h, lt-ltb s.entered limit l, e)

  -- One that is entered is in the table, and another may be entered.
  pub reaches_room : reaches K limit row d s ≡ true → (row < limit) × (s.entered < limit)
  unfolding reaches
  reaches_room e =
      let t = (and-eq-true_iff (ltb 0 row && ltb row limit) (ltb s.entered limit && K.closer s.kept d row)).0 e in
      let r = (and-eq-true_iff (ltb 0 row) (ltb row limit)).0 t.0 in
      let b = (and-eq-true_iff (ltb s.entered limit) (K.closer s.kept d row)).0 t.1 in
      (ltb-true _ _ r.1, ltb-true _ _ b.0)

module _ {S : Type 0} (K : Store S) (os : List ℕ) (p : Probe) (below : ℕ → Colour → Searching S → Searching S) (s row : ℕ) (low : Colour) (k : ℕ)
    (u : Searching S) where
  -- How far the closest colour of child k is.
  abbrev gap : ℕ
  gap = distance p (closest p.centre s (child_low s k low))

  -- A child that is not entered leaves the search as it is.
  pub child_barred : reaches K (octant_limit current os) (child_at os row k) gap u ≡ false → child_search K os p below s row low k u ≡ u
  unfolding child_search
  child_barred e = rw (e, child_search)

  -- One that is entered is searched.
  pub child_entered : reaches K (octant_limit current os) (child_at os row k) gap u ≡ true
      → child_search K os p below s row low k u ≡ below (child_at os row k) (child_low s k low) u
  unfolding child_search
  child_entered e = rw (e, child_search)

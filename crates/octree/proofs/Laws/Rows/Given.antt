-- The rows of an octant as they are passed to a table, child by child, and then its own.
use Prim.Native.Nat.{ℕ, zero, suc, ◌+◌, ◌-◌, ◌*◌, ◌≤◌, ◌<◌}
use mathlib.Core.Bool.{Bool, true, false}
use mathlib.Core.List.{List, ◌++◌}
use mathlib.Core.Path.{◌≡◌, refl, sym, ap}
use native.Mathlib.Omega.{arith}
use lib.ListN.{length, get_or, take, drop, length-append}
use Rattle.std.specs.Prelude.{IfSome, is_some}
use Rattle.std.specs.Bool.{then_some}
use Rattle.colour.specs.Octant.{children}
use Rattle.model.specs.Layout.{current, octant_width}
use Rattle.model.specs.Lists.{joined, total}
use Rattle.model.specs.SampleSet.{octants_of, part}
use Rattle.model.specs.Tables.{octant_row}
use Rattle.model.proofs.Tables.Size.{octant_rows_length}
use Rattle.model.proofs.Tree.Splits.{octants_split, rows_split}
use Rattle.words.specs.Rows.{octant_row_by}
use Rattle.words.proofs.Laws.Layout.Octants.{octant_row_length}
use Rattle.order.specs.Entries.{view}
use Rattle.octree.specs.Passes.{PassLaws}
use Rattle.octree.specs.Steps.{rows_of, Says}
use Rattle.octree.proofs.Laws.Rows.Passed.{child_rows, child_rows_length, own_and_children, Opened, Passed, pass_rows, pass_place, split_is}

-- A count is told where the last row is not denied.
pub count_told : (b : Bool) (n m : ℕ) → m ≡ n → IfSome (then_some b n) (λ x. x ≡ m)
count_told true n m e = sym e
count_told false n m e = tt

pub count_some : (b : Bool) (n : ℕ) → is_some (then_some b n) ≡ b
count_some true n = refl
count_some false n = refl

-- The row of a split octant has its words.
own_length : {b left number : ℕ} {es : List ℕ} {words : ℕ} {sizes : List ℕ} → Opened b left number es words sizes
    → length (octant_row current b left number (view es)) ≡ octant_width current
unfolding children
own_length {b} {left} {number} {es} octant =
    let j : ℕ = left - 1 in
    let R : ℕ → List ℕ = child_rows b j number (view es) in
    let row : List ℕ = octant_row current b left number (view es) in
    let whole : rows_of b left number es ≡ row ++ joined R 8 = rows_split b current left number (view es) octant.split in
    omega (
      arith,
      ap length whole,
      length-append row (joined R 8),
      octant_rows_length current b left number (view es),
      child_rows_length b j number (view es) 8,
      own_and_children (octant_width current) (octants_of b left (view es)) (total (λ i. octants_of b j (part j i (view es))) 8)
          (octants_split b left (view es) octant.split),
    )

module _ {T : Type 0} {lent : T → ℕ} {passed : T → ℕ → List ℕ → Bool → T → Type 0} (laws : PassLaws lent passed) where
  -- A no stays a no, whatever stands behind.
  no_more : {s t : T} {at : ℕ} (R : ℕ → List ℕ) (k d : ℕ) → passed s at (joined R k) false t → passed s at (joined R (d + k)) false t
  unfolding joined
  no_more {s} {t} {at} R k zero p = let e : 0 + k ≡ k = omega arith in rw e p
  no_more {s} {t} {at} R k (suc d) p = let e : suc d + k ≡ suc (d + k) = omega arith in rw e (laws.stopped (R (d + k)) (no_more R k d p))

  -- The rows of no child.
  pub given_none : (b j number at : ℕ) (es : List ℕ) (s : T) → at ≤ lent s → passed s at (joined (child_rows b j number (view es)) 0) true s
  unfolding joined
  given_none b j number at es s room = laws.none s at room

  -- One child more.
  module _ {b left number : ℕ} {es : List ℕ} {words : ℕ} {sizes : List ℕ} (octant : Opened b left number es words sizes) {kids : List ℕ}
      {used from k : ℕ} (so_far : Passed b (left - 1) number (view es) kids used from k) (inside : k < 8) {s t u : T} (at : ℕ) where
    pub given_more : (said : Bool) (place : ℕ) → place ≡ octant_width current * used
        → passed s (at + octant_width current) (joined (child_rows b (left - 1) number (view es)) k) true t
        → passed t (at + place) (rows_of b (left - 1) (number + used) (take (from + get_or sizes k 0 - from) (drop from es))) said u
        → passed s (at + octant_width current) (joined (child_rows b (left - 1) number (view es)) (k + 1)) said u
    unfolding joined
    given_more said place e done new =
        let R : ℕ → List ℕ = child_rows b (left - 1) number (view es) in
        let z : k + 1 ≡ suc k = omega arith in
        let at_end : at + place ≡ at + octant_width current + length (joined R k) =
        omega (arith, e, pass_place octant so_far inside, child_rows_length b (left - 1) number (view es) k) in
        rw z (laws.behind done (rw (at_end, pass_rows octant so_far inside) at new))

    -- A child that is denied denies the octant.
    pub given_stopped : (place : ℕ) → place ≡ octant_width current * used
        → passed s (at + octant_width current) (joined (child_rows b (left - 1) number (view es)) k) true t
        → passed t (at + place) (rows_of b (left - 1) (number + used) (take (from + get_or sizes k 0 - from) (drop from es))) false u → passed s at (rows_of b left number es) false u
    unfolding children
    given_stopped place e done new =
        let R : ℕ → List ℕ = child_rows b (left - 1) number (view es) in
        let whole : rows_of b left number es ≡ octant_row current b left number (view es) ++ joined R 8 =
        rows_split b current left number (view es) octant.split in
        let all : 8 - (k + 1) + (k + 1) ≡ 8 = omega arith in
        let no : passed s (at + octant_width current) (joined R 8) false u =
        rw all at (no_more R (k + 1) (8 - (k + 1)) (given_more false place e done new)) in
        rw whole (laws.stopped_behind (octant_row current b left number (view es)) (rw (own_length octant) no))

  -- The octant's own row comes last.
  pub given_ends : {b left number first last count : ℕ} {es : List ℕ} → Says first last count es → {words : ℕ} {sizes kids : List ℕ}
      {used from k : ℕ} → Opened b left number es words sizes → Passed b (left - 1) number (view es) kids used from k → 8 ≤ k
      → {at : ℕ} {s t u : T} {said : Bool} → passed s (at + octant_width current) (joined (child_rows b (left - 1) number (view es)) k) true t
      → passed t at (octant_row_by current first last count kids) said u → passed s at (rows_of b left number es) said u
  given_ends {b} {left} {number} {first} {last} {count} {es} says {words} {sizes} {kids} {used} {from} {k} octant so_far e done own =
      let whole : k ≡ 8 = omega (arith, so_far.child) in
      rw (split_is says octant so_far e).1
      (laws.before (rw (octant_row_length first last count kids) (rw whole at done)) own)

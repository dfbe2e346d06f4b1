-- On sound tables the next words from an octant's first sample on go through its samples in their order, and the rows say those samples.
use Prim.Native.Nat.{ℕ, suc, ◌≤◌, ◌<◌}
use mathlib.Core.List.{List, [], ◌∷◌, ◌++◌, map, append_assoc, append-nil}
use mathlib.Core.Path.{◌≡◌, refl, sym, ap, ◌∙◌, subst}
use native.Mathlib.Numerals.{sub-one}
use native.Mathlib.Omega.{arith}
use lib.ListN.{length}
use Rattle.model.specs.SampleSet.{Placed}
use Rattle.model.specs.Layout.{Next, current, sample_rows}
use Rattle.model.specs.Tables.{first_row, next_row}
use Rattle.model.proofs.Tables.Next.{next_in}
use Rattle.model.proofs.Tree.Order.{count, at_row}
use Rattle.words.specs.Rows.{sample_field}
use Rattle.traversal.specs.Own.{rows_from}
use Rattle.traversal.proofs.Laws.Sound.Each.{All}
use Rattle.traversal.proofs.Laws.Sound.Shown.{Said}
use Rattle.traversal.proofs.Laws.Rows.{rows_more}

-- Part of an order: the samples before it and after it.
pub record Segment (ordered ys : List Placed) : Type 0 where
  pub before : List Placed
  pub after : List Placed
  pub whole : ordered ≡ before ++ (ys ++ after)

-- A part of a part.
pub segment_part : (ordered ys : List Placed) (a zs c : List Placed) → ys ≡ a ++ (zs ++ c) → Segment ordered ys → Segment ordered zs
segment_part ordered ys a zs c e s =
    record {
      before = s.before ++ a;
      after = c ++ s.after;
      whole =
          s.whole
          ∙ ap (λ (l : List Placed). s.before ++ (l ++ s.after)) e
          ∙ simp append_assoc;
    }

abbrev pub row_of : Placed → ℕ
row_of x = x.row

-- The first of two lists is the first of the front, where that has one.
first_front : (ws : List ℕ) (n : ℕ) (ys after : List Placed) → rows_from ws (length ys) (first_row n (ys ++ after)) ≡ rows_from ws (length ys) (first_row n ys)
unfolding first_row rows_from
first_front ws n [] after = refl
first_front ws n (y ∷ ys) after = refl

module _ (ws : List ℕ) (n : ℕ) (ordered : List Placed)
    (few : n ≤ sample_rows current (length ws))
    (once : (i : ℕ) → count (at_row i) ordered ≤ 1)
    (next : (i : ℕ) → i < n → sample_field current ws i Next ≡ next_row n i ordered) where
  -- The row that follows a sample is that of the sample after it.
  next_follows : (x : Placed) (ys : List Placed) → Said ws n x → (s : Segment ordered (x ∷ ys))
      → sample_field current ws x.row Next ≡ first_row n (ys ++ s.after)
  next_follows x ys said s =
      next x.row said.within
      ∙ ap (next_row n x.row) s.whole
      ∙ next_in n s.before x (ys ++ s.after)
      (subst (λ (l : List Placed). count (at_row x.row) l ≤ 1) s.whole (once x.row))

  -- The rows from the first of a segment on.
  pub rows_follow : (ys : List Placed) (d : ℕ) → All (Said ws n) ys → Segment ordered ys → rows_from ws (length ys) (first_row d ys) ≡ map row_of ys
  unfolding rows_from first_row All
  rows_follow [] d said s = refl
  rows_follow (x ∷ ys) d said s =
      rows_more ws (suc (length ys)) x.row (omega (arith, said.0.within)) (omega arith)
      ∙ ap (λ (l : List ℕ). x.row ∷ l)
      (rw (sub-one, next_follows x ys said.0 s)
      (first_front ws n ys s.after ∙ rows_follow ys n said.1 (segment_part ordered (x ∷ ys) (x ∷ []) ys [] (ap (λ (l : List Placed). x ∷ l) (sym (append-nil ys))) s)))

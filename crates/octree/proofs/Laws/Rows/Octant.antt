-- The rows of one octant: its own, none where it holds no sample, and those of its children.
use Prim.Native.Nat.{ℕ, zero, suc, ◌-◌, ◌*◌, ◌%◌, ◌≤◌, ◌<◌}
use mathlib.Core.Bool.{Bool, true, false}
use mathlib.Core.List.{List, [], ◌∷◌}
use mathlib.Core.Path.{◌≡◌, refl, sym, ap, ◌∙◌}
use native.Mathlib.Nat.{mul-zero, mul-one, mul-le-mul_left}
use native.Mathlib.Numerals.{sub-one}
use native.Mathlib.Omega.{arith}
use borrow.Author.Tests.{eq-eqb, ne_eqb}
use lib.ListN.{length, get_or, replicate, get_or-replicate}
use Rattle.colour.specs.Octant.{children}
use Rattle.model.specs.Layout.{current, octant_width}
use Rattle.model.specs.Lists.{joined}
use Rattle.model.specs.SampleSet.{Placed, order_of, octants_of, part, splits}
use Rattle.model.specs.Tables.{first_row, last_row, row_or_none, child_word, octant_word, octant_row}
use Rattle.std.proofs.lemmas.List.{nil_from_length}
use Rattle.model.proofs.Tables.Size.{octant_rows_length}
use Rattle.model.proofs.Tree.Octants.{no_octants}
use Rattle.model.proofs.Tree.Ordered.{ordered_parts}
use Rattle.model.proofs.Tree.Splits.{split_deep, octants_leaf, octants_split, rows_leaf, word_leaf, some_row}
use Rattle.words.specs.Rows.{octant_field_of, octant_row_by}
use Rattle.order.specs.Entries.{placed_of, view}
use Rattle.order.proofs.Laws.Entries.View.{view_length}
use Rattle.octree.specs.Steps.{rows_of, Rooted, Says, child_word_of}

-- The first entry has the first row, and the last the last.
pub first_entry : (es : List ℕ) → 1 ≤ length es → get_or es 0 0 % 4096 ≡ first_row 0 (view es)
unfolding view placed_of first_row
first_entry [] h = absurd (omega arith)
first_entry (e ∷ es) h = refl

last_from : (d e : ℕ) (es : List ℕ) → get_or (e ∷ es) (length es) 0 % 4096 ≡ last_row d (view (e ∷ es))
unfolding view placed_of last_row
last_from d e [] = refl
last_from d e (x ∷ es) = last_from (e % 4096) x es

pub last_entry : (es : List ℕ) → 1 ≤ length es → get_or es (length es - 1) 0 % 4096 ≡ last_row 0 (view es)
last_entry [] h = absurd (omega arith)
last_entry (e ∷ es) h =
    let n : length (e ∷ es) - 1 ≡ length es = omega arith in
    ap (λ (i : ℕ). get_or (e ∷ es) i 0 % 4096) n ∙ last_from 0 e es

-- The word for a child that holds those samples.
pub child_word_is : (size number : ℕ) (xs : List Placed) → size ≡ length xs → child_word_of size number ≡ row_or_none number xs
unfolding child_word_of row_or_none
child_word_is size number [] e = rw (eq-eqb size 0 e, child_word_of)
child_word_is size number (x ∷ xs) e = rw (ne_eqb size 0 (λ z. omega arith), child_word_of)

-- The children of an ordered octant that is split stand in it one after the other, each ordered.
pub ordered_children : (b left : ℕ) (xs : List Placed) → order_of b left xs ≡ xs → splits b left xs ≡ true
    → (xs ≡ joined (λ k. part (left - 1) k xs) children)
    × ((k : ℕ) → k < children → order_of b (left - 1) (part (left - 1) k xs) ≡ part (left - 1) k xs)
ordered_children b zero xs o e = absurd (omega (arith, split_deep b zero xs e))
ordered_children b (suc j) xs o e = rw sub-one (ordered_parts b j xs o e)

-- An ordered octant's row, field by field.
row_is : (b left number first last count : ℕ) (xs : List Placed) (kids : List ℕ) → 1 ≤ length xs → order_of b left xs ≡ xs
    → first ≡ first_row 0 xs → last ≡ last_row 0 xs → count ≡ length xs
    → ((i : ℕ) → i < 8 → get_or kids i 0 ≡ child_word b left number xs i)
    → octant_row_by current first last count kids ≡ octant_row current b left number xs
unfolding octant_row_by octant_field_of octant_word current
row_is b left number first last count xs kids held o f l c w =
    let h : first ≡ first_row 0 (order_of b left xs) = rw o f in
    let z : last ≡ last_row 0 (order_of b left xs) = rw o l in
    cc (
      some_row current b left number xs held,
      w 0 (omega arith),
      w 1 (omega arith),
      w 2 (omega arith),
      w 3 (omega arith),
      w 4 (omega arith),
      w 5 (omega arith),
      w 6 (omega arith),
      w 7 (omega arith),
    )

-- An octant with no samples comes to no rows.
pub empty_is : (b left number : ℕ) (es : List ℕ) → length es ≡ 0 → (octants_of b left (view es) ≡ 0) × (rows_of b left number es ≡ [])
empty_is b left number es e =
    let none : octants_of b left (view es) ≡ 0 = ap (octants_of b left) (nil_from_length (view es) (view_length es ∙ e)) ∙ no_octants b left in (
      none,
      nil_from_length (rows_of b left number es)
          (octant_rows_length current b left number (view es) ∙ ap (λ (n : ℕ). octant_width current * n) none ∙ mul-zero (octant_width current)),
    )

-- An octant that holds a sample is in the tree, and there is room for its own row.
some_octant : (b left : ℕ) (xs : List Placed) → 1 ≤ length xs → 1 ≤ octants_of b left xs
some_octant b left xs h = go (splits b left xs) refl
  where
    go : (r : Bool) → splits b left xs ≡ r → 1 ≤ octants_of b left xs
    go true e = omega (arith, octants_split b left xs e)
    go false e = omega (arith, octants_leaf b left xs e)

pub own_room : {b left number words : ℕ} {es : List ℕ} → Rooted b left number es words → 1 ≤ length es → octant_width current ≤ words
own_room {b} {left} {number} {words} {es} r h =
    omega (
      arith,
      mul-one (octant_width current),
      mul-le-mul_left (octant_width current) (some_octant b left (view es) (omega (arith, view_length es))),
      r.room,
    )

module _ {first last count : ℕ} {es : List ℕ} (says : Says first last count es) (b left number : ℕ) where
  pub said : (kids : List ℕ) → order_of b left (view es) ≡ view es → ((i : ℕ) → i < 8 → get_or kids i 0 ≡ child_word b left number (view es) i)
      → octant_row_by current first last count kids ≡ octant_row current b left number (view es)
  said kids o w =
      row_is b left number first last count (view es) kids (omega (arith, view_length es, says.held)) o says.first_is says.last_is
      (says.count_is ∙ sym (view_length es)) w

  pub leaf_is : (words : ℕ) → Rooted b left number es words → splits b left (view es) ≡ false
      → (octants_of b left (view es) ≡ 1) × (rows_of b left number es ≡ octant_row_by current first last count (replicate 8 0))
  leaf_is words r s = (
    octants_leaf b left (view es) s ∙ omega (arith, view_length es, says.held),
    rows_leaf b current left number (view es) s
        ∙ sym (said (replicate 8 0) r.ordered (λ i h. get_or-replicate 8 i 0 0 h ∙ sym (word_leaf b left number i (view es) s))),
  )

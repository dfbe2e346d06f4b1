-- Going through the children of a split octant: where the samples and the rows of each stand.
use Prim.Native.Nat.{ℕ, suc, ◌+◌, ◌-◌, ◌*◌, ◌^◌, ◌≤◌, ◌<◌}
use mathlib.Core.Bool.{Bool, true, false}
use mathlib.Core.List.{List, ◌++◌}
use mathlib.Core.Path.{◌≡◌, refl, sym, ap, ◌∙◌}
use native.Mathlib.Nat.{mul-suc, mul-add, mul-le-mul_left}
use native.Mathlib.Omega.{arith}
use borrow.Author.Tests.{eqb-true, eqb-false}
use lib.Dec.{eqb}
use lib.ListN.{length, get_or, take, drop, set, length-set}
use lib.Seq.{get_or-set_same, get_or-set_other}
use Rattle.colour.specs.Octant.{children}
use Rattle.model.specs.Layout.{current, octant_width}
use Rattle.model.specs.Lists.{joined, total}
use Rattle.model.specs.SampleSet.{Placed, order_of, octants_of, part, splits}
use Rattle.model.specs.Tables.{octant_rows_of, child_row, row_or_none}
use Rattle.model.proofs.Lists.{total_same, joined_length, total_times}
use Rattle.model.proofs.Tables.Size.{octant_rows_length}
use Rattle.model.proofs.Tree.Splits.{split_deep, octants_split, rows_split, word_split, octants_within, child_within}
use Rattle.model.proofs.Joined.{joined_slice, part_short}
use Rattle.words.specs.Rows.{octant_row_by}
use Rattle.order.specs.Entries.{view, child_shift}
use Rattle.order.specs.Steps.{Sizes}
use Rattle.order.proofs.Laws.Entries.View.{view_length, view_take, view_drop}
use Rattle.order.proofs.Laws.Order.{child_size}
use Rattle.octree.specs.Steps.{rows_of, Rooted, Says, child_word_of}
use Rattle.octree.proofs.Laws.Rows.Octant.{child_word_is, ordered_children, said}

-- The rows of child i and of the octants below it.
abbrev pub child_rows : ℕ → ℕ → ℕ → List Placed → ℕ → List ℕ
child_rows b j number xs i = octant_rows_of current b j (child_row b j number xs i) (part j i xs)

-- The rows of the first k children have so many words.
pub child_words : (b j number : ℕ) (xs : List Placed) (k : ℕ)
    → total (λ i. length (child_rows b j number xs i)) k ≡ octant_width current * total (λ i. octants_of b j (part j i xs)) k
child_words b j number xs k =
    total_same (λ i. length (child_rows b j number xs i)) (λ i. octant_width current * octants_of b j (part j i xs))
    (λ i. octant_rows_length current b j (child_row b j number xs i) (part j i xs)) k
    ∙ total_times (octant_width current) (λ i. octants_of b j (part j i xs)) k

pub child_rows_length : (b j number : ℕ) (xs : List Placed) (k : ℕ)
    → length (joined (child_rows b j number xs) k) ≡ octant_width current * total (λ i. octants_of b j (part j i xs)) k
child_rows_length b j number xs k = joined_length (child_rows b j number xs) k ∙ child_words b j number xs k

-- Words of the rows so far: the octant's own, and those of the first k children.
pub own_and_children : (w used n : ℕ) → used ≡ suc n → w * used ≡ w + w * n
own_and_children w used n e = ap (λ (m : ℕ). w * m) e ∙ mul-suc w n ∙ omega arith

-- What a function that goes through the children of a split octant asks, with the children's sizes.
pub record Opened (b left number : ℕ) (es : List ℕ) (words : ℕ) (sizes : List ℕ) : Type 0 where
  pub rooted : Rooted b left number es words
  pub split : splits b left (view es) ≡ true
  pub told : Sizes (child_shift (left - 1)) es sizes

pub opened : (b left number shift : ℕ) (es : List ℕ) (words : ℕ) (sizes : List ℕ) → Rooted b left number es words → splits b left (view es) ≡ true
    → shift ≡ child_shift (left - 1) → Sizes shift es sizes → Opened b left number es words sizes
opened b left number shift es words sizes r s e t = record { rooted = r; split = s; told = rw e at t }

-- The first k children are passed: how many octants and samples they hold, and their words.
pub record Passed (b j number : ℕ) (xs : List Placed) (kids : List ℕ) (used at k : ℕ) : Type 0 where
  pub child : k ≤ 8
  pub eight : length kids ≡ 8
  pub start : at ≡ total (λ i. length (part j i xs)) k
  pub counted : used ≡ suc (total (λ i. octants_of b j (part j i xs)) k)
  pub word : (i : ℕ) → i < k → get_or kids i 0 ≡ row_or_none (child_row b j number xs i) (part j i xs)

pub pass_begins : (b j number : ℕ) (xs : List Placed) (kids : List ℕ) → length kids ≡ 8 → Passed b j number xs kids 1 0 0
unfolding total
pass_begins b j number xs kids e =
    record { child = omega arith; eight = e; start = refl; counted = refl; word = λ i h. absurd (omega arith) }

-- A child whose entries stand from `at` up to `end` lies within its octant, and its number, its count and its rows within theirs.
pub record ChildBounds (b left number : ℕ) (es : List ℕ) (words used at end : ℕ) : Type 0 where
  pub inside : end ≤ length es
  pub few : length es ≤ 4096
  pub number_fits : number + used < 2 ^ 32
  pub deep : 1 ≤ left
  pub count_fits : used + octants_of b (left - 1) (view (take (end - at) (drop at es))) < 2 ^ 32
  pub room : octant_width current * used ≤ words

-- The step to child k, whose entries stand from `at` up to `end`.
module _ {b left number : ℕ} {es : List ℕ} {words : ℕ} {sizes : List ℕ} (octant : Opened b left number es words sizes) {kids : List ℕ}
    {used at k : ℕ} (so_far : Passed b (left - 1) number (view es) kids used at k) (inside : k < 8) where
  abbrev end : ℕ
  end = at + get_or sizes k 0

  abbrev entries : List ℕ
  entries = take (end - at) (drop at es)

  abbrev mine : List Placed
  mine = part (left - 1) k (view es)

  deep : (1 ≤ left) × (left ≤ 16)
  deep = (split_deep b left (view es) octant.split, octant.rooted.deep)

  pass_size : get_or sizes k 0 ≡ length mine
  pass_size = child_size (left - 1) k es sizes (omega (arith, deep)) octant.told inside

  pass_within : end ≤ length es
  unfolding children
  pass_within = omega (arith, pass_size, child_within (left - 1) k (view es) inside, so_far.start, view_length es)

  -- The child's entries stand for its samples.
  pub pass_view : view entries ≡ mine
  unfolding children
  pass_view =
      let n : end - at ≡ length mine = omega (arith, pass_size) in
      let all : view es ≡ joined (λ i. part (left - 1) i (view es)) children =
      (ordered_children b left (view es) octant.rooted.ordered octant.split).0 in
      view_take (end - at) (drop at es)
      ∙ rw (view_drop at es, n, so_far.start)
      (ap (λ (l : List Placed). take (length mine) (drop (total (λ i. length (part (left - 1) i (view es))) k) l)) all
      ∙ joined_slice (λ i. part (left - 1) i (view es)) k children inside)

  -- Its octants are within the octant's.
  pass_octants : used + octants_of b (left - 1) (view entries) ≤ octants_of b left (view es)
  unfolding children
  pass_octants =
      omega (arith, octants_within b left k (view es) octant.split inside, so_far.counted, ap (octants_of b (left - 1)) pass_view)

  -- Its number is that of the next row.
  pass_number : number + used ≡ child_row b (left - 1) number (view es) k
  unfolding child_row
  pass_number = omega (arith, so_far.counted)

  -- Its rows are the definition's for that child.
  pub pass_rows : rows_of b (left - 1) (number + used) entries ≡ child_rows b (left - 1) number (view es) k
  pass_rows = rw pass_number (ap (octant_rows_of current b (left - 1) (child_row b (left - 1) number (view es) k)) pass_view)

  -- They stand behind the octant's own row and those of the children before it.
  pub pass_place : octant_width current * used
      ≡ octant_width current + octant_width current * total (λ i. octants_of b (left - 1) (part (left - 1) i (view es))) k
  pass_place = own_and_children (octant_width current) used (total (λ i. octants_of b (left - 1) (part (left - 1) i (view es))) k) so_far.counted

  -- There are rows enough, and the child can be asked what its octant was asked.
  pub pass_room : octant_width current * used + octant_width current * octants_of b (left - 1) (view entries) ≤ words
  pass_room =
      omega (
        arith,
        mul-add (octant_width current) used (octants_of b (left - 1) (view entries)),
        mul-le-mul_left (octant_width current) pass_octants,
        octant.rooted.room,
      )

  pub pass_bounds : ChildBounds b left number es words used at end
  pass_bounds =
      record {
        inside = pass_within;
        few = octant.rooted.few;
        number_fits = omega (arith, pass_octants, octant.rooted.numbers);
        deep = omega (arith, deep);
        count_fits = omega (arith, pass_octants, octant.rooted.numbers);
        room = omega (arith, pass_room);
      }

  pub pass_rooted : (left-words : ℕ) → left-words ≡ words - octant_width current * used → Rooted b (left - 1) (number + used) entries left-words
  unfolding children
  pass_rooted left-words e =
      record {
        few = omega (arith, part_short (end - at) at es, octant.rooted.few);
        deep = omega (arith, deep);
        ordered = ap (order_of b (left - 1)) pass_view
            ∙ (ordered_children b left (view es) octant.rooted.ordered octant.split).1 k inside
            ∙ sym pass_view;
        numbers = omega (arith, pass_octants, octant.rooted.numbers);
        room = omega (arith, pass_room);
      }

  -- One child more is passed.
  pub pass_steps : (word n : ℕ) → word ≡ child_word_of (get_or sizes k 0) (number + used) → n ≡ octants_of b (left - 1) (view entries)
      → Passed b (left - 1) number (view es) (set kids k word) (used + n) end (k + 1)
  unfolding total
  pass_steps word n e d =
      let z : k + 1 ≡ suc k = omega arith in
      rw z
      (record {
        child = omega arith;
        eight = length-set kids k word ∙ so_far.eight;
        start = omega (arith, so_far.start, pass_size);
        counted = omega (arith, so_far.counted, ap (octants_of b (left - 1)) pass_view);
        word = λ i h. go i (eqb i k) refl h;
      })
    where
      go : (i : ℕ) (r : Bool) → eqb i k ≡ r → i < suc k
          → get_or (set kids k word) i 0 ≡ row_or_none (child_row b (left - 1) number (view es) i) (part (left - 1) i (view es))
      go i true q h =
          rw (eqb-true i k q)
          (get_or-set_same kids k word 0 (omega (arith, so_far.eight))
          ∙ e
          ∙ child_word_is (get_or sizes k 0) (number + used) mine pass_size
          ∙ ap (λ (m : ℕ). row_or_none m mine) pass_number)
      go i false q h =
          get_or-set_other kids k i word 0 (eqb-false i k q) ∙ so_far.word i (omega (arith, eqb-false i k q))

-- All children are passed: the octant count, and the rows.
pub split_is : {b left number first last count : ℕ} {es : List ℕ} → Says first last count es → {words : ℕ} {sizes kids : List ℕ}
    {used at k : ℕ} → Opened b left number es words sizes → Passed b (left - 1) number (view es) kids used at k → 8 ≤ k
    → (octants_of b left (view es) ≡ used)
    × (rows_of b left number es ≡ octant_row_by current first last count kids ++ joined (child_rows b (left - 1) number (view es)) 8)
unfolding children
split_is {b} {left} {number} {first} {last} {count} {es} says {words} {sizes} {kids} {used} {at} {k} octant so_far e =
    let whole : k ≡ 8 = omega (arith, so_far.child) in (
      octants_split b left (view es) octant.split
          ∙ sym (so_far.counted ∙ ap (λ (n : ℕ). suc (total (λ i. octants_of b (left - 1) (part (left - 1) i (view es))) n)) whole),
      rows_split b current left number (view es) octant.split
          ∙ ap (λ (l : List ℕ). l ++ joined (child_rows b (left - 1) number (view es)) 8)
          (sym
          (said says b left number kids octant.rooted.ordered
          (λ i h. so_far.word i (omega arith) ∙ sym (word_split b left number i (view es) octant.split)))),
    )

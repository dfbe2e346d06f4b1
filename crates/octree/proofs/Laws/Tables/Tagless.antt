-- The tables of ordered entries are those of the samples that they were made from: the tree asks no tag.
use Prim.Native.Nat.{ℕ, suc, ◌+◌, ◌*◌, ◌/◌, ◌%◌, ◌≤◌, ◌<◌}
use mathlib.Core.Bool.{Bool, true, false}
use mathlib.Core.List.{List, [], ◌∷◌, ◌++◌, map}
use mathlib.Core.Path.{◌≡◌, refl, sym, ap, ap₂, ◌∙◌, subst}
use native.Mathlib.Omega.{arith}
use borrow.Author.Tests.{ltb-true, ltb-false}
use lib.Dec.{ltb}
use lib.ListN.{length, get_or, take, drop, length-map}
use Rattle.colour.specs.Key.{key}
use Rattle.colour.specs.Octant.{depths, child_number}
use Rattle.colour.specs.declared.Sample.{Sample}
use Rattle.colour.specs.declared.Settings.{Settings}
use Rattle.colour.proofs.Laws.Keys.{key_digit}
use Rattle.model.specs.Layout.{SampleField, Tag, Code, Next, current}
use Rattle.model.specs.Lists.{padded}
use Rattle.model.specs.SampleSet.{SampleSet, Placed, placed_from, placed, order_of, octants_of, order, octants}
use Rattle.model.specs.Tables.{next_row, header_words, sample_word, sample_rows_of, sample_words, octant_rows_of, octant_words}
use Rattle.model.proofs.Kept.{map_same}
use Rattle.model.proofs.Tables.Next.{stands}
use Rattle.model.proofs.Tree.Alike.{Alike, none, more, alike_times, alike_order, alike_octants, alike_next, alike_rows}
use Rattle.model.proofs.Tree.Order.{count, at_row, placed_length, order_of_length, order_most, order_once, order_none}
use Rattle.model.proofs.Tree.Ordered.{order_order, octants_order, rows_order}
use Rattle.order.specs.Entries.{entry_of, entries_of, colour_of, placed_of, view}
use Rattle.order.proofs.Laws.Entries.View.{view_length, view_at, colour_child}
use Rattle.octree.specs.Steps.{Ordered, rows_of, times_row, RowsOnce, sample_table_by, octant_table_by}

-- What an entry of a sample stands for agrees with the sample in row and child numbers.
entry_row : (k i : ℕ) → i < 4096 → (k * 4096 + i) % 4096 ≡ i
entry_row k i h = omega arith

entry_key : (k i : ℕ) → i < 4096 → (k * 4096 + i) / 4096 ≡ k
entry_key k i h = omega arith

entry_alike : (i j : ℕ) (s : Sample) → i < 4096 → j < depths
    → child_number j (placed_of (entry_of (record { row = i; sample = s }))).sample.colour ≡ child_number j s.colour
unfolding placed_of entry_of depths
entry_alike i j s h l =
    ap (λ (k : ℕ). child_number j (colour_of k)) (entry_key (key s.colour) i h) ∙ colour_child j (key s.colour) l ∙ key_digit s.colour j l

pub entries_alike : (i : ℕ) (xs : List Sample) → i + length xs ≤ 4096 → Alike (view (map entry_of (placed_from i xs))) (placed_from i xs)
unfolding view placed_from placed_of entry_of
entries_alike i [] h = none
entries_alike i (s ∷ xs) h =
    more (entry_row (key s.colour) i (omega arith)) (λ j l. entry_alike i j s (omega arith) l) (entries_alike (suc i) xs (omega arith))

-- The row of each entry stands among them.
stands_once : (es : List ℕ) (i : ℕ) → i < length es → 1 ≤ times_row (get_or es i 0 % 4096) (view es)
unfolding times_row count at_row placed_of
stands_once es i h = rw (view_at es i h) (stands (view (take i es)) (placed_of (get_or es i 0)) (view (drop (suc i) es)))

-- A set by its settings and its samples.
abbrev pub set_by : Settings → List Sample → SampleSet
set_by s xs = record { settings = s; samples = xs }

-- The octants that entries come to, by arrival.
pub entries_octants : (s : Settings) (xs : List Sample) → length xs ≤ 4096
    → octants_of s.bucket depths (view (entries_of xs)) ≡ octants (set_by s xs)
unfolding octants entries_of placed
entries_octants s xs h = alike_octants s.bucket depths (omega arith) (entries_alike 0 xs (omega arith))

-- Entries that stand for samples in their order.
pub record InOrder (s : Settings) (xs : List Sample) (es : List ℕ) : Type 0 where
  pub few : length xs ≤ 4096
  pub order : view es ≡ order_of s.bucket depths (view (entries_of xs))

module _ {s : Settings} {xs : List Sample} {es : List ℕ} (o : InOrder s xs es) where
  abbrev b : ℕ
  b = s.bucket

  start_alike : Alike (view (entries_of xs)) (placed (set_by s xs))
  unfolding entries_of placed
  start_alike = entries_alike 0 xs (omega (arith, o.few))

  in_order_alike : Alike (view es) (order (set_by s xs))
  unfolding order
  in_order_alike =
      subst (λ (l : List Placed). Alike l (order_of b depths (placed (set_by s xs)))) (sym o.order) (alike_order b depths (omega arith) start_alike)

  pub as_many : length es ≡ length xs
  unfolding entries_of
  as_many =
      sym (view_length es)
      ∙ ap length o.order
      ∙ order_of_length b depths (view (entries_of xs))
      ∙ view_length (entries_of xs)
      ∙ length-map (placed_from 0 xs) entry_of
      ∙ placed_length 0 xs

  pub is_ordered : Ordered b depths es
  is_ordered = ap (order_of b depths) o.order ∙ order_order b depths (view (entries_of xs)) ∙ sym o.order

  pub same_octants : octants_of b depths (view es) ≡ octants (set_by s xs)
  unfolding octants
  same_octants = ap (octants_of b depths) o.order ∙ octants_order b depths (view (entries_of xs)) ∙ alike_octants b depths (omega arith) start_alike

  same_rows : rows_of b depths 0 es ≡ octant_rows_of current b depths 0 (placed (set_by s xs))
  same_rows =
      ap (octant_rows_of current b depths 0) o.order
      ∙ rows_order current b depths 0 (view (entries_of xs))
      ∙ alike_rows b current depths 0 0 (omega arith) refl start_alike

  same_next : (n i : ℕ) → next_row n i (view es) ≡ next_row n i (order (set_by s xs))
  same_next n i = alike_next n i in_order_alike

  word_same : (n : ℕ) (x : Placed) (f : SampleField) → sample_word n (view es) x f ≡ sample_word n (order (set_by s xs)) x f
  unfolding sample_word
  word_same n x Tag = refl
  word_same n x (Code h) = refl
  word_same n x Next = same_next n x.row

  sample_rows_same : (n : ℕ) (ys : List Placed) → sample_rows_of current n (view es) ys ≡ sample_rows_of current n (order (set_by s xs)) ys
  unfolding sample_rows_of
  sample_rows_same n [] = refl
  sample_rows_same n (y ∷ ys) =
      ap₂ (λ (u v : List ℕ). u ++ v) (map_same (sample_word n (view es) y) (sample_word n (order (set_by s xs)) y) (word_same n y) current.sample)
      (sample_rows_same n ys)

  -- Both tables are the definition's.
  pub sample_table : (len : ℕ) → sample_table_by len s (view es) xs ≡ padded len (sample_words current (set_by s xs))
  unfolding sample_table_by sample_words placed
  sample_table len =
      ap (λ (rows : List ℕ). padded len (header_words current (length xs) s ++ rows))
      (sample_rows_same (length xs) (placed_from 0 xs))

  pub octant_table : (len : ℕ) → octant_table_by len b es ≡ padded len (octant_words current (set_by s xs))
  unfolding octant_table_by octant_words
  octant_table len = ap₂ (λ (n : ℕ) (rows : List ℕ). padded len (n ∷ rows)) same_octants same_rows

  -- Each row stands among the entries once.
  times_same : (i : ℕ) → times_row i (view es) ≡ count (at_row i) (order (set_by s xs))
  unfolding times_row count at_row
  times_same i = alike_times i in_order_alike

  entry_below : (i : ℕ) → i < length es → get_or es i 0 % 4096 < length xs
  entry_below i h = go (get_or es i 0 % 4096) (ltb (get_or es i 0 % 4096) (length xs)) (stands_once es i h) refl
    where
      go : (row : ℕ) (r : Bool) → 1 ≤ times_row row (view es) → ltb row (length xs) ≡ r → row < length xs
      go row true k e = ltb-true row (length xs) e
      go row false k e = absurd (omega (arith, times_same row, order_none (set_by s xs) row (omega (arith, ltb-false row (length xs) e))))

  pub rows_once : RowsOnce (length xs) es
  rows_once =
      record {
        many = as_many;
        below = λ i h. entry_below i (omega (arith, as_many));
        most = λ i. omega (arith, times_same i, order_most (set_by s xs) i);
        found = λ i h. omega (arith, times_same i, order_once (set_by s xs) i h);
      }

-- Where an octant table has the rows of an octant: its own words, and the rows of its children.
use Prim.Native.Nat.{ℕ, zero, suc, ◌+◌, ◌-◌, ◌≤◌, ◌<◌}
use mathlib.Core.Bool.{Bool, true, false}
use mathlib.Core.List.{List, ◌++◌, append_assoc}
use mathlib.Core.Path.{◌≡◌, refl, sym, ap, ◌∙◌}
use native.Mathlib.Nat.{mul-add, mul-suc}
use native.Mathlib.Omega.{arith}
use lib.ListN.{length, get_or, take, drop, replicate, length-append, length-map, take-append-drop, get_or-append}
use lib.Seq.{take_at, drop_at, drop-drop, get_or-take, get_or-drop}
use Rattle.colour.specs.Octant.{depths, children}
use Rattle.model.specs.Layout.{OctantField, First, Count, Child, current, octant_width}
use Rattle.model.specs.Lists.{joined, total, padded}
use Rattle.model.specs.Machine.{Machine, tables_of}
use Rattle.model.specs.SampleSet.{Placed, placed, part, splits, octants_of}
use Rattle.model.specs.Sound.{Shows}
use Rattle.model.specs.Tables.{Tables, pair, tables_for, child_row, octant_word, octant_row, octant_rows_of, octant_words}
use Rattle.model.proofs.Joined.{part_in_front}
use Rattle.model.proofs.Tables.Numbers.{current_numbers}
use Rattle.model.proofs.Tree.Octants.{split_some}
use Rattle.model.proofs.Tree.Splits.{split_deep, rows_leaf, rows_split, some_row}
use Rattle.words.specs.Rows.{octant_id, place, octant_start, octant_at, octant_field}
use Rattle.words.proofs.Laws.Layout.Places.{after_count, octants_first, octant_place, octant_place_is, octant_word_at}
use Rattle.octree.proofs.Laws.Rows.Passed.{child_rows, child_words}

-- The octant table os has, from row `at` on, the rows of the octant of side 2 ^ j that holds xs, and of those below it.
abbrev pub Held : List ℕ → ℕ → ℕ → ℕ → List Placed → Type 0
Held os b j at xs = take (length (octant_rows_of current b j at xs)) (drop (octant_start current at) os) ≡ octant_rows_of current b j at xs

-- The rows begin with the octant's own.
module _ (b j at : ℕ) (xs : List Placed) (some : 1 ≤ length xs) where
  own_length : length (octant_row current b j at xs) ≡ octant_width current
  unfolding octant_width
  own_length = ap length (some_row current b j at xs some) ∙ length-map current.octant (octant_word b j at xs)

  own_first : (p : ℕ) → p < octant_width current
      → (p < length (octant_rows_of current b j at xs)) × (get_or (octant_rows_of current b j at xs) p 0 ≡ get_or (octant_row current b j at xs) p 0)
  own_first p h = go (splits b j xs) refl
    where
      go : (r : Bool) → splits b j xs ≡ r
          → (p < length (octant_rows_of current b j at xs)) × (get_or (octant_rows_of current b j at xs) p 0 ≡ get_or (octant_row current b j at xs) p 0)
      go true e =
          let row : List ℕ = octant_row current b j at xs in
          let below : List ℕ = joined (child_rows b (j - 1) at xs) children in
          rw (rows_split b current j at xs e)
          (omega (arith, own_length, length-append row below), get_or-append row below 0 p (omega (arith, own_length)))
      go false e = rw (rows_leaf b current j at xs e) (omega (arith, own_length), refl)

module _ (os : List ℕ) (b j at : ℕ) (xs : List Placed) (held : Held os b j at xs) where
  -- The words of its own row.
  pub held_field : 1 ≤ length xs → (f : OctantField) → octant_place f < octant_width current → octant_field current os at f ≡ octant_word b j at xs f
  unfolding octant_field octant_at octant_width
  held_field some f h =
      let p : ℕ = place octant_id f current.octant in
      let within : p < octant_width current = omega (arith, octant_place_is f (omega (arith, current_numbers.octant_width_is))) in
      let own = own_first b j at xs some p within in
      sym (get_or-drop (octant_start current at) os p 0)
      ∙ sym (get_or-take (length (octant_rows_of current b j at xs)) (drop (octant_start current at) os) p 0 own.0)
      ∙ ap (λ (l : List ℕ). get_or l p 0) held
      ∙ own.1
      ∙ ap (λ (l : List ℕ). get_or l p 0) (some_row current b j at xs some)
      ∙ octant_word_at (octant_word b j at xs) f current.octant within

  pub held_first : 1 ≤ length xs → octant_field current os at First ≡ octant_word b j at xs First
  unfolding octant_place
  held_first some = held_field some First (omega (arith, current_numbers.octant_width_is))

  pub held_count : 1 ≤ length xs → octant_field current os at Count ≡ octant_word b j at xs Count
  unfolding octant_place
  held_count some = held_field some Count (omega (arith, current_numbers.octant_width_is))

  pub held_word : 1 ≤ length xs → (k : ℕ) → k < children → octant_field current os at (Child k) ≡ octant_word b j at xs (Child k)
  unfolding octant_place children
  held_word some k h = held_field some (Child k) (omega (arith, current_numbers.octant_width_is))

  -- The rows of a child of a split octant.
  module _ (split : splits b j xs ≡ true) (k : ℕ) (inside : k < children) where
    abbrev row : List ℕ
    row = octant_row current b j at xs

    abbrev kids : ℕ → List ℕ
    kids = child_rows b (j - 1) at xs

    -- The words before the child's: those of the octant's own row, and those of the children before it.
    abbrev before : ℕ
    before = total (λ i. length (kids i)) k

    row_long : length row ≡ octant_width current
    row_long = own_length b j at xs (some_held j split)
      where
        some_held : (left : ℕ) → splits b left xs ≡ true → 1 ≤ length xs
        some_held zero e = absurd (omega (arith, split_deep b zero xs e))
        some_held (suc i) e = split_some b i xs e

    child_start : octant_start current (child_row b (j - 1) at xs k) ≡ octant_start current at + (octant_width current + before)
    unfolding child_row
    child_start =
        let w : ℕ = octant_width current in
        let n : ℕ = total (λ i. octants_of b (j - 1) (part (j - 1) i xs)) k in
        omega (arith, after_count at, after_count (suc at + n), mul-add w (suc at) n, mul-suc w at, child_words b (j - 1) at xs k)

    -- What stands from the octant's first row on.
    abbrev after : List ℕ
    after = drop (length (octant_rows_of current b j at xs)) (drop (octant_start current at) os)

    from_start : drop (octant_start current at) os ≡ row ++ (joined kids children ++ after)
    from_start =
        sym (take-append-drop (length (octant_rows_of current b j at xs)) (drop (octant_start current at) os))
        ∙ ap (λ (l : List ℕ). l ++ after) (held ∙ rows_split b current j at xs split)
        ∙ append_assoc row (joined kids children) after

    child_from : drop (octant_start current (child_row b (j - 1) at xs k)) os ≡ drop before (joined kids children ++ after)
    child_from =
        let w : ℕ = octant_width current in
        ap (λ (p : ℕ). drop p os) child_start
        ∙ sym (drop-drop (w + before) (octant_start current at) os)
        ∙ ap (drop (w + before)) from_start
        ∙ sym (drop-drop before w (row ++ (joined kids children ++ after)))
        ∙ ap (drop before) (drop_at row (joined kids children ++ after) w row_long)

    pub held_child : Held os b (j - 1) (child_row b (j - 1) at xs k) (part (j - 1) k xs)
    held_child = ap (take (length (kids k))) child_from ∙ part_in_front kids k children after inside

-- A sound octant table has the rows of the root.
pub held_root : (ws os : List ℕ) (m : Machine) → Shows current m (pair ws os) → Held os m.set.settings.bucket depths 0 (placed m.set)
unfolding tables_of tables_for padded octant_words
held_root ws os m shows =
    let rows : List ℕ = octant_rows_of current m.set.settings.bucket depths 0 (placed m.set) in
    let zeros : List ℕ = replicate (m.octant_length - length (octant_words current m.set)) 0 in
    ap (λ (p : ℕ). take (length rows) (drop p os)) octants_first
    ∙ ap (λ (t : Tables). take (length rows) (drop 1 t.octants)) shows.words
    ∙ take_at rows zeros (length rows) refl

-- The tables of a set that fits are as long as the machine says. The row arithmetic is over the layout's widths.
use Prim.Native.Nat.{ℕ, zero, suc, ◌+◌, ◌-◌, ◌*◌, ◌/◌, ◌≤◌, min}
use mathlib.Core.Bool.{Bool, true, false}
use mathlib.Core.List.{List, [], ◌∷◌, map}
use mathlib.Core.Path.{◌≡◌, refl, sym, ap, ◌∙◌}
use lib.ListN.{length, replicate, length-replicate, length-append, length-map}
use native.Mathlib.Nat.{mul-suc, mul-zero, mul-one, mul_comm, mul-le-mul_right, div-mul-le_self, le_trans}
use native.Mathlib.Omega.{arith}
use Rattle.colour.specs.Octant.{depths, children}
use Rattle.model.specs.Lists.{joined, total, padded}
use Rattle.model.specs.SampleSet.{SampleSet, Placed, placed, part, splits, order, octants_of, octants}
use Rattle.model.specs.Layout.{Layout, sample_header, sample_width, octant_header, octant_width, sample_rows, octant_rows}
use Rattle.model.specs.Tables.{setting_word, sample_word, sample_rows_of, sample_words, child_row, octant_word, octant_row, octant_rows_of, octant_words}
use Rattle.model.proofs.Lists.{joined_length, total_same, total_times}
use Rattle.model.proofs.Tree.Order.{placed_length}
use Rattle.model.proofs.Tree.Octants.{split_some}

pub padded_length : (len : ℕ) (ws : List ℕ) → length ws ≤ len → length (padded len ws) ≡ len
unfolding padded
padded_length len ws h =
    length-append ws (replicate (len - length ws) 0) ∙ ap (λ (n : ℕ). length ws + n) (length-replicate (len - length ws) 0) ∙ omega arith

-- n rows of w words lie within the words left after a header.
pub rows_within : (n words w : ℕ) → n ≤ words / w → w * n ≤ words
rows_within n words w h =
    le_trans (omega (arith, mul_comm w n, mul-le-mul_right w h)) (div-mul-le_self words w)

module _ (L : Layout) where
  pub sample_rows_length : (n : ℕ) (ordered xs : List Placed) → length (sample_rows_of L n ordered xs) ≡ sample_width L * length xs
  unfolding sample_rows_of sample_width
  sample_rows_length n ordered [] = sym (mul-zero (length L.sample))
  sample_rows_length n ordered (x ∷ rest) =
      length-append (map (sample_word n ordered x) L.sample) (sample_rows_of L n ordered rest)
      ∙ omega (arith, length-map L.sample (sample_word n ordered x), sample_rows_length n ordered rest, mul-suc (length L.sample) (length rest))

  pub sample_words_length : (set : SampleSet) → length (sample_words L set) ≡ sample_header L + sample_width L * length set.samples
  unfolding sample_words sample_header sample_width placed
  sample_words_length set =
      let rows : List ℕ = sample_rows_of L (length set.samples) (order set) (placed set) in
      omega (
        arith,
        length-append (map (setting_word set.settings) L.settings) rows,
        length-map L.settings (setting_word set.settings),
        ap (λ (n : ℕ). length L.sample * n) (placed_length 0 set.samples),
        sample_rows_length (length set.samples) (order set) (placed set),
      )

  -- The words of a set that fits are within the table.
  pub sample_words_fit : (set : SampleSet) (len : ℕ) → sample_header L ≤ len → length set.samples ≤ sample_rows L len
      → length (sample_words L set) ≤ len
  unfolding sample_rows
  sample_words_fit set len h f =
      let room : length set.samples ≤ (len - sample_header L) / sample_width L = omega (arith, f) in
      omega (arith, sample_words_length set, rows_within (length set.samples) (len - sample_header L) (sample_width L) room)

  row_length : (b j at : ℕ) (xs : List Placed) → 1 ≤ length xs → length (octant_row L b j at xs) ≡ octant_width L
  unfolding octant_row octant_width
  row_length b j at [] h = absurd (omega arith)
  row_length b j at (x ∷ xs) h = length-map L.octant (octant_word b j at (x ∷ xs))

  one_row_length : (b j at : ℕ) (xs : List Placed) → length (octant_row L b j at xs) ≡ octant_width L * min 1 (length xs)
  unfolding octant_row octant_width
  one_row_length b j at [] = sym (mul-zero (length L.octant))
  one_row_length b j at (x ∷ xs) = length-map L.octant (octant_word b j at (x ∷ xs))
      ∙ sym (mul-one (length L.octant))
      ∙ ap (λ (n : ℕ). length L.octant * n) (omega arith)

  pub octant_rows_length : (b j at : ℕ) (xs : List Placed) → length (octant_rows_of L b j at xs) ≡ octant_width L * octants_of b j xs
  unfolding octant_rows_of octants_of
  octant_rows_length b zero at xs = one_row_length b zero at xs
  octant_rows_length b (suc j) at xs = go (splits b (suc j) xs) refl (octant_rows_length b j)
    where
      go : (r : Bool) → splits b (suc j) xs ≡ r
          → ((at' : ℕ) (ys : List Placed) → length (octant_rows_of L b j at' ys) ≡ octant_width L * octants_of b j ys)
          → length (octant_rows_of L b (suc j) at xs) ≡ octant_width L * octants_of b (suc j) xs
      go true e ih =
          let f : ℕ → List ℕ = λ k. octant_rows_of L b j (child_row b j at xs k) (part j k xs) in
          let below : length (joined f children) ≡ octant_width L * total (λ k. octants_of b j (part j k xs)) children =
          joined_length f children
          ∙ total_same (λ k. length (f k)) (λ k. octant_width L * octants_of b j (part j k xs)) (λ k. ih (child_row b j at xs k) (part j k xs)) children
          ∙ total_times (octant_width L) (λ k. octants_of b j (part j k xs)) children in
          rw (e, octant_rows_of, octants_of)
          (length-append (octant_row L b (suc j) at xs) (joined f children)
          ∙ omega (arith, row_length b (suc j) at xs (split_some b j xs e), below, mul-suc (octant_width L) (total (λ k. octants_of b j (part j k xs)) children)))
      go false e ih = rw (e, octant_rows_of, octants_of) (one_row_length b (suc j) at xs)

  pub octant_words_fit : (set : SampleSet) (len : ℕ) → octant_header L ≤ len → octants set ≤ octant_rows L len → length (octant_words L set) ≤ len
  unfolding octant_words octant_rows octants
  octant_words_fit set len h f =
      omega (arith, octant_rows_length set.settings.bucket depths 0 (placed set), rows_within (octants set) (len - 1) (octant_width L) f)

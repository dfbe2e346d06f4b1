-- The set that a sample table says is the set that it was written for.
use Prim.Native.Nat.{ℕ, suc, ◌+◌}
use mathlib.Core.List.{List, [], ◌∷◌, ◌++◌, map, append_assoc}
use mathlib.Core.Path.{◌≡◌, refl, sym, ap, ap₂, ◌∙◌}
use native.Mathlib.Nat.{mul-suc}
use native.Mathlib.Omega.{arith}
use lib.ListN.{length, get_or, length-map, length-append}
use lib.Seq.{get_or-append-add}
use Rattle.colour.specs.Colour.{code_in, Channel, Red, Green, Blue, colour_by}
use Rattle.colour.specs.Octant.{bit_weight}
use Rattle.colour.specs.declared.Sample.{Sample}
use Rattle.colour.proofs.Laws.Channels.{code_by, same_codes}
use Rattle.model.specs.Layout.{Tag, Code, current, sample_header, sample_width}
use Rattle.model.specs.SampleSet.{SampleSet, Placed, placed_from, placed, order}
use Rattle.model.specs.Tables.{setting_word, header_words, sample_word, sample_rows_of, sample_words}
use Rattle.words.specs.Rows.{setting_id, sample_id, place, sample_start, sample_at, sample_field, setting_in, settings_in, count_in, sample_in, samples_from}

-- The words of a sample's row.
abbrev pub row_words : ℕ → List Placed → ℕ → Sample → List ℕ
row_words n ordered i s = map (sample_word n ordered (record { row = i; sample = s })) current.sample

-- A row as it was written: its tag and its codes are read off it.
module _ (n : ℕ) (ordered : List Placed) (i : ℕ) (s : Sample) (before rest : List ℕ) (at : length before ≡ sample_start current i) where
  field_read : (p : ℕ) → get_or (before ++ (row_words n ordered i s ++ rest)) (sample_start current i + p) 0 ≡ get_or (row_words n ordered i s ++ rest) p 0
  field_read p =
      ap (λ (k : ℕ). get_or (before ++ (row_words n ordered i s ++ rest)) (k + p) 0) (sym at)
      ∙ get_or-append-add before (row_words n ordered i s ++ rest) p 0

  tag_read : sample_field current (before ++ (row_words n ordered i s ++ rest)) i Tag ≡ s.tag
  unfolding sample_field sample_at place sample_id current sample_word
  tag_read = field_read 0

  code_read : (h : Channel) → sample_field current (before ++ (row_words n ordered i s ++ rest)) i (Code h) ≡ code_in h s.colour
  unfolding sample_field sample_at place sample_id current sample_word bit_weight code_in
  code_read Red = field_read 1
  code_read Green = field_read 2
  code_read Blue = field_read 3

  pub row_read : sample_in current (before ++ (row_words n ordered i s ++ rest)) i ≡ s
  unfolding sample_in
  row_read =
      let c : colour_by (λ h. sample_field current (before ++ (row_words n ordered i s ++ rest)) i (Code h)) ≡ s.colour =
      same_codes _ _ (λ h. code_by _ h ∙ code_read h) in
      λ k. record { tag = tag_read k; colour = c k }

  row_end : length (before ++ row_words n ordered i s) ≡ sample_start current (suc i)
  unfolding sample_start sample_width
  row_end =
      length-append before (row_words n ordered i s)
      ∙ omega (arith, at, length-map current.sample (sample_word n ordered (record { row = i; sample = s })), mul-suc (length current.sample) i)

-- All rows.
pub rows_read : (n : ℕ) (ordered : List Placed) (xs : List Sample) (i : ℕ) (before rest : List ℕ) → length before ≡ sample_start current i
    → samples_from current (before ++ (sample_rows_of current n ordered (placed_from i xs) ++ rest)) i (length xs) ≡ xs
unfolding samples_from sample_rows_of placed_from
rows_read n ordered [] i before rest at = refl
rows_read n ordered (s ∷ xs) i before rest at =
    let r : List ℕ = row_words n ordered i s in
    let others : List ℕ = sample_rows_of current n ordered (placed_from (suc i) xs) in
    let words : before ++ ((r ++ others) ++ rest) ≡ before ++ (r ++ (others ++ rest)) =
    ap (λ (l : List ℕ). before ++ l) (append_assoc r others rest) in
    ap (λ (ws : List ℕ). sample_in current ws i ∷ samples_from current ws (suc i) (length xs)) words
    ∙ ap₂ (λ (x : Sample) (ys : List Sample). x ∷ ys) (row_read n ordered i s before (others ++ rest) at)
    (ap (λ (ws : List ℕ). samples_from current ws (suc i) (length xs)) (sym (append_assoc before r (others ++ rest)))
    ∙ rows_read n ordered xs (suc i) (before ++ r) rest (row_end n ordered i s before (others ++ rest) at))

-- The set that the words of a set say.
module _ (set : SampleSet) (rest : List ℕ) where
  pub count_read : count_in (sample_words current set ++ rest) ≡ length set.samples
  unfolding count_in sample_words
  count_read = refl

  pub settings_read : settings_in current (sample_words current set ++ rest) ≡ set.settings
  unfolding setting_in sample_words place setting_id current setting_word
  settings_read = refl

  pub samples_read : samples_from current (sample_words current set ++ rest) 0 (length set.samples) ≡ set.samples
  unfolding sample_words placed sample_start sample_header sample_width current
  samples_read =
      rows_read (length set.samples) (order set) set.samples 0
      (header_words current (length set.samples) set.settings) rest refl

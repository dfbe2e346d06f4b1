-- Samples that are put in rows.
use Prim.Native.Nat.{ℕ, suc, ◌+◌, ◌≤◌, ◌<◌}
use mathlib.Core.Bool.{Bool, true, false}
use mathlib.Core.List.{List, [], ◌∷◌, ◌++◌}
use mathlib.Core.Path.{◌≡◌, refl, sym, ap, ap₂, ◌∙◌}
use native.Mathlib.Nat.{add-zero, zero-add}
use native.Mathlib.Omega.{arith}
use borrow.Author.Tests.{eqb-true, eqb-false}
use lib.Dec.{eqb}
use lib.ListN.{length, get_or, set, length-set}
use lib.Seq.{ext_get_or, get_or-set_same, get_or-set_other}
use Rattle.colour.specs.declared.Sample.{Sample}
use Rattle.colour.specs.Colour.{Red, Green, Blue, colour_by}
use Rattle.model.specs.Layout.{SampleField, Tag, Code, current, sample_rows}
use Rattle.words.specs.Rows.{sample_start, sample_at, sample_field, sample_in, samples_from, with_field, with_sample}
use Rattle.words.proofs.Laws.Layout.Places.{sample_start_lem, field_place, sample_at_lem, row_room}
use Rattle.words.proofs.Laws.Layout.Samples.{same_sample_lem, same_samples, samples_snoc}

-- The words of row i set one after the other, from its start.
pub put_at_lem : (ws : List ℕ) (i at : ℕ) (s : Sample) → at ≡ sample_start current i
    → set (set (set (set ws at s.tag) (at + 1) s.colour.red) (at + 2) s.colour.green) (at + 3) s.colour.blue
    ≡ with_sample current ws i s
unfolding with_sample with_field field_place
put_at_lem ws i at s e =
    rw (sample_at_lem Tag i, sample_at_lem (Code Red) i, sample_at_lem (Code Green) i, sample_at_lem (Code Blue) i, ← sample_start_lem i, ← e, field_place, add-zero at)

-- A field that is set: it alone changes.
module _ (ws : List ℕ) (i w : ℕ) (f : SampleField) where
  field_same : sample_at current f i < length ws → sample_field current (with_field current ws i f w) i f ≡ w
  unfolding sample_field with_field
  field_same h = get_or-set_same ws (sample_at current f i) w 0 h

  field_other : (g : SampleField) (k : ℕ) → (sample_at current g k ≡ sample_at current f i → ⊥)
      → sample_field current (with_field current ws i f w) k g ≡ sample_field current ws k g
  unfolding sample_field with_field
  field_other g k h = get_or-set_other ws (sample_at current f i) (sample_at current g k) w 0 h

  field_length : length (with_field current ws i f w) ≡ length ws
  unfolding with_field
  field_length = length-set ws (sample_at current f i) w

module _ (ws : List ℕ) (i : ℕ) (s : Sample) where
  -- The words after each field is set.
  abbrev tagged : List ℕ
  tagged = with_field current ws i Tag s.tag

  abbrev redded : List ℕ
  redded = with_field current tagged i (Code Red) s.colour.red

  abbrev greened : List ℕ
  greened = with_field current redded i (Code Green) s.colour.green

  greened_length : length greened ≡ length ws
  greened_length =
      field_length redded i s.colour.green (Code Green)
      ∙ field_length tagged i s.colour.red (Code Red)
      ∙ field_length ws i s.tag Tag

  pub put_length : length (with_sample current ws i s) ≡ length ws
  unfolding with_sample
  put_length = field_length greened i s.colour.blue (Code Blue) ∙ greened_length

  -- The sample that is put in a row is what the row says.
  pub put_same : i < sample_rows current (length ws) → sample_in current (with_sample current ws i s) i ≡ s
  unfolding sample_in colour_by with_sample field_place
  put_same h =
      let room = row_room (length ws) i h in
      let at_tag = sample_at_lem Tag i in
      let at-red = sample_at_lem (Code Red) i in
      let at-green = sample_at_lem (Code Green) i in
      let at-blue = sample_at_lem (Code Blue) i in
      let tagged-length = field_length ws i s.tag Tag in
      let redded-length = field_length tagged i s.colour.red (Code Red) in
      let after-red : (f : SampleField) → field_place f < 2 → sample_field current (with_sample current ws i s) i f ≡ sample_field current redded i f =
      λ f p. field_other greened i s.colour.blue (Code Blue) f i (λ e. omega (arith, e, p, sample_at_lem f i, at-blue))
      ∙ field_other redded i s.colour.green (Code Green) f i (λ e. omega (arith, e, p, sample_at_lem f i, at-green)) in
      let tag : sample_field current (with_sample current ws i s) i Tag ≡ s.tag =
      after-red Tag (omega arith)
      ∙ field_other tagged i s.colour.red (Code Red) Tag i (λ e. omega (arith, e, at_tag, at-red))
      ∙ field_same ws i s.tag Tag (omega (arith, at_tag, room)) in
      let red : sample_field current (with_sample current ws i s) i (Code Red) ≡ s.colour.red =
      after-red (Code Red) (omega arith)
      ∙ field_same tagged i s.colour.red (Code Red) (omega (arith, at-red, room, tagged-length)) in
      let green : sample_field current (with_sample current ws i s) i (Code Green) ≡ s.colour.green =
      field_other greened i s.colour.blue (Code Blue) (Code Green) i (λ e. omega (arith, e, at-green, at-blue))
      ∙ field_same redded i s.colour.green (Code Green) (omega (arith, at-green, room, tagged-length, redded-length)) in
      let blue : sample_field current (with_sample current ws i s) i (Code Blue) ≡ s.colour.blue =
      field_same greened i s.colour.blue (Code Blue) (omega (arith, at-blue, room, greened_length)) in
      λ k. record { tag = tag k; colour = record { red = red k; green = green k; blue = blue k } }

  -- The other rows say what they said.
  pub put_other : (k : ℕ) → (k ≡ i → ⊥) → sample_in current (with_sample current ws i s) k ≡ sample_in current ws k
  unfolding with_sample field_place
  put_other k h =
      same_sample_lem (with_sample current ws i s) ws k
      (λ f p.
      field_other greened i s.colour.blue (Code Blue) f k (λ e. h (omega (arith, e, p, sample_at_lem f k, sample_at_lem (Code Blue) i)))
      ∙ field_other redded i s.colour.green (Code Green) f k (λ e. h (omega (arith, e, p, sample_at_lem f k, sample_at_lem (Code Green) i)))
      ∙ field_other tagged i s.colour.red (Code Red) f k (λ e. h (omega (arith, e, p, sample_at_lem f k, sample_at_lem (Code Red) i)))
      ∙ field_other ws i s.tag Tag f k (λ e. h (omega (arith, e, p, sample_at_lem f k, sample_at_lem Tag i))))

  -- A sample that is put in the row after the first i comes after their samples.
  pub put_snoc : i < sample_rows current (length ws) → samples_from current (with_sample current ws i s) 0 (suc i) ≡ samples_from current ws 0 i ++ (s ∷ [])
  put_snoc h =
      samples_snoc (with_sample current ws i s) i 0
      ∙ ap (λ (k : ℕ). samples_from current (with_sample current ws i s) 0 i ++ (sample_in current (with_sample current ws i s) k ∷ [])) (zero-add i)
      ∙ ap₂ (λ (l : List Sample) (x : Sample). l ++ (x ∷ []))
      (same_samples (with_sample current ws i s) ws i 0 (λ k l. put_other k (λ e. omega (arith, e))))
      (put_same h)

-- One word set to 0, where it was 0 in ws: a word is as in ws again.
zero_again : (ws us : List ℕ) (p q : ℕ) → p < length us → get_or ws p 0 ≡ 0 → ((q ≡ p → ⊥) → get_or us q 0 ≡ get_or ws q 0) → get_or (set us p 0) q 0 ≡ get_or ws q 0
zero_again ws us p q h z others = go (eqb q p) refl
  where
    go : (r : Bool) → eqb q p ≡ r → get_or (set us p 0) q 0 ≡ get_or ws q 0
    go true e = rw (eqb-true q p e) (get_or-set_same us p 0 0 h ∙ sym z)
    go false e = let d = eqb-false q p e in get_or-set_other us p q 0 0 d ∙ others d

-- The sample that an empty row says.
abbrev pub empty : Sample
empty = record { tag = 0; colour = record { red = 0; green = 0; blue = 0 } }

-- A sample that was put in an empty row is taken back by putting the empty sample there.
module _ (ws : List ℕ) (i : ℕ) (s : Sample) (h : i < sample_rows current (length ws)) (zeros : (p : ℕ) → sample_start current i ≤ p → get_or ws p 0 ≡ 0) where
  abbrev put : List ℕ
  put = with_sample current ws i s

  word_aside : (q : ℕ) → (q ≡ sample_at current Tag i → ⊥) → (q ≡ sample_at current (Code Red) i → ⊥) → (q ≡ sample_at current (Code Green) i → ⊥)
      → (q ≡ sample_at current (Code Blue) i → ⊥) → get_or put q 0 ≡ get_or ws q 0
  unfolding with_sample with_field
  word_aside q tag red green blue =
      get_or-set_other (greened ws i s) (sample_at current (Code Blue) i) q s.colour.blue 0 blue
      ∙ get_or-set_other (redded ws i s) (sample_at current (Code Green) i) q s.colour.green 0 green
      ∙ get_or-set_other (tagged ws i s) (sample_at current (Code Red) i) q s.colour.red 0 red
      ∙ get_or-set_other ws (sample_at current Tag i) q s.tag 0 tag

  -- The words that setting its fields to 0 goes through.
  abbrev untagged : List ℕ
  untagged = tagged put i empty

  abbrev unredded : List ℕ
  unredded = redded put i empty

  abbrev ungreened : List ℕ
  ungreened = greened put i empty

  pub put_back : with_sample current put i empty ≡ ws
  unfolding with_sample with_field field_place sample_start
  put_back =
      let room = row_room (length ws) i h in
      let at = sample_at_lem in
      let start = sample_start_lem i in
      let long-put : length put ≡ length ws = put_length ws i s in
      let long-tag : length untagged ≡ length put = field_length put i 0 Tag in
      let long-red : length unredded ≡ length untagged = field_length untagged i 0 (Code Red) in
      let long-green : length ungreened ≡ length unredded = field_length unredded i 0 (Code Green) in
      let zero-at : (f : SampleField) → get_or ws (sample_at current f i) 0 ≡ 0 = λ f. zeros (sample_at current f i) (omega (arith, start, at f i)) in
      ext_get_or 0 (with_sample current put i empty) ws (put_length put i empty ∙ long-put)
      (λ q _.
      zero_again ws ungreened (sample_at current (Code Blue) i) q (omega (arith, room, at (Code Blue) i, long-put, long-tag, long-red, long-green)) (zero-at (Code Blue))
      (λ blue.
      zero_again ws unredded (sample_at current (Code Green) i) q (omega (arith, room, at (Code Green) i, long-put, long-tag, long-red)) (zero-at (Code Green))
      (λ green.
      zero_again ws untagged (sample_at current (Code Red) i) q (omega (arith, room, at (Code Red) i, long-put, long-tag)) (zero-at (Code Red))
      (λ red.
      zero_again ws put (sample_at current Tag i) q (omega (arith, room, at Tag i, long-put)) (zero-at Tag)
      (λ tag. word_aside q tag red green blue)))))

-- The sample table, as it is compared and written.
use Prim.Native.Nat.{ℕ, suc, ◌+◌, ◌-◌, ◌*◌, ◌≤◌}
use mathlib.Core.Bool.{Bool, true, false, not}
use mathlib.Core.List.{List, ◌∷◌, ◌++◌, map}
use mathlib.Core.Logic.Iff
use mathlib.Core.Logic.{◌↔◌}
use mathlib.Core.Path.{◌≡◌, refl, sym, ap, ap₂, ◌∙◌, subst}
use native.Mathlib.Omega.{arith}
use borrow.Rule.Slice.PartMut.{put_mid}
use lib.ListN.{length, get_or, take, drop, replicate, length-map, length-append, length-drop}
use lib.Seq.{get_or-drop, get_or-append-add}
use Rattle.colour.specs.declared.Sample.{Sample}
use Rattle.colour.specs.declared.Settings.{Settings}
use Rattle.model.specs.Layout.{SampleField, Next, current, Bucket, sample_header, sample_width, sample_rows, Setting}
use Rattle.model.specs.SampleSet.{Placed, placed_from}
use Rattle.model.specs.Tables.{setting_word, header_words, sample_rows_of}
use Rattle.model.proofs.Kept.{map_same}
use Rattle.model.proofs.Tables.Size.{sample_rows_length}
use Rattle.model.proofs.Tables.Unique.{back_same}
use Rattle.model.proofs.Tree.Order.{placed_length}
use Rattle.words.specs.Rows.{setting_id, sample_id, place, sample_start, sample_at, sample_field, setting_in, settings_in, count_in, samples_from}
use Rattle.words.proofs.Laws.Answers.{refuted}
use Rattle.words.proofs.Laws.Layout.Places.{samples_end}
use Rattle.words.proofs.Laws.Layout.Samples.{samples_length, rows_by, rows_front, Follows, nexts_rows, rows_nexts, same_sample_lem, same_samples}
use Rattle.words.proofs.Laws.Words.{Zero}
use Rattle.order.specs.Entries.{view}
use Rattle.octree.specs.Steps.{sample_table_by, NextsAre}
use Rattle.octree.proofs.Laws.Tables.Padded.{ZeroFrom, named_padded, padded_named, zeroed_front, zeroed, zeroed_length, rest_zero}

-- The named words of a sample table.
abbrev named_samples : Settings → List Placed → List Sample → List ℕ
named_samples s ordered xs = header_words current (length xs) s ++ sample_rows_of current (length xs) ordered (placed_from 0 xs)

named_samples_length : (s : Settings) (ordered : List Placed) (xs : List Sample) → length (named_samples s ordered xs) ≡ sample_start current (length xs)
unfolding sample_start sample_header
named_samples_length s ordered xs =
    ap suc
    (length-append (map (setting_word s) current.settings) (sample_rows_of current (length xs) ordered (placed_from 0 xs))
    ∙ ap₂ (λ (m n : ℕ). m + n) (length-map current.settings (setting_word s))
    (sample_rows_length current (length xs) ordered (placed_from 0 xs) ∙ ap (λ (n : ℕ). sample_width current * n) (placed_length 0 xs)))
    ∙ omega arith

-- The settings that a header says are its words.
setting_said : (ws : List ℕ) (x : Setting) → setting_in current ws x ≡ setting_word (settings_in current ws) x
unfolding setting_word
setting_said ws Bucket = refl

-- A sample table whose count is n, and whose next words follow the order, has the named words of the samples in its first n rows.
module _ (ws : List ℕ) (ordered : List Placed) (n : ℕ) (room : sample_start current n ≤ length ws) (counted : count_in ws ≡ n) where
  abbrev s : Settings
  s = settings_in current ws

  abbrev xs : List Sample
  xs = samples_from current ws 0 n

  front_by : take (sample_start current n) ws ≡ header_words current n s ++ rows_by (sample_field current ws) n
  front_by =
      rows_front ws n room
      ∙ ap₂ (λ (c : ℕ) (l : List ℕ). c ∷ l ++ rows_by (sample_field current ws) n) counted
      (map_same (setting_in current ws) (setting_word s) (setting_said ws) current.settings)

  named_by : header_words current n s ++ sample_rows_of current n ordered (placed_from 0 xs) ≡ named_samples s ordered xs
  named_by = ap (λ (m : ℕ). header_words current m s ++ sample_rows_of current m ordered (placed_from 0 xs)) (sym (samples_length ws n 0))

  nexts_named : Follows ws ordered n → take (sample_start current n) ws ≡ named_samples s ordered xs
  nexts_named h = front_by ∙ ap (λ (l : List ℕ). header_words current n s ++ l) (nexts_rows ws ordered n room h) ∙ named_by

  named_nexts : take (sample_start current n) ws ≡ named_samples s ordered xs → Follows ws ordered n
  named_nexts e =
      rows_nexts ws ordered n room
      (back_same (header_words current n s) (rows_by (sample_field current ws) n) (header_words current n s) (sample_rows_of current n ordered (placed_from 0 xs)) refl
      (sym front_by ∙ e ∙ sym named_by))

  -- Its words from there on are the rest.
  start_is : length (named_samples s ordered xs) ≡ sample_start current n
  start_is = named_samples_length s ordered xs ∙ ap (sample_start current) (samples_length ws n 0)

  samples_hold : Follows ws ordered n → ZeroFrom (sample_start current n) ws → ws ≡ sample_table_by (length ws) s ordered xs
  unfolding sample_table_by
  samples_hold h z = named_padded (length ws) (named_samples s ordered xs) ws refl (sample_start current n) start_is (nexts_named h) z

  pub held_samples : ws ≡ sample_table_by (length ws) s ordered xs → Follows ws ordered n × ZeroFrom (sample_start current n) ws
  unfolding sample_table_by
  held_samples e =
      let both = padded_named (length ws) (named_samples s ordered xs) ws refl (sample_start current n) start_is e in (named_nexts both.0, both.1)

-- What comparing a sample table says.
module _ (ws es : List ℕ) (n : ℕ) (words : sample_header current ≤ length ws) (few : n ≤ sample_rows current (length ws)) (counted : count_in ws ≡ n) where
  room : sample_start current n ≤ length ws
  room = (samples_end (length ws) n (sample_start current n) words few refl).within

  abbrev Table : Type 0
  Table = ws ≡ sample_table_by (length ws) (settings_in current ws) (view es) (samples_from current ws 0 n)

  pub nexts_other : (r : Bool) → not r ≡ true → (r ≡ true) ↔ NextsAre n es ws → (false ≡ true) ↔ Table
  nexts_other r off told = refuted r off told (λ e. (held_samples ws (view es) n room counted e).0)

  pub rest_tells : (k : ℕ) → k ≡ sample_start current n → NextsAre n es ws → (z : Bool) → (z ≡ true) ↔ Zero (take (length ws - k) (drop k ws))
      → (z ≡ true) ↔ Table
  rest_tells k e nexts z told =
      Iff.trans told (
        λ q. samples_hold ws (view es) n room counted nexts (subst (λ (m : ℕ). ZeroFrom m ws) e ((rest_zero ws k).0 q)),
        λ q. (rest_zero ws k).1 (subst (λ (m : ℕ). ZeroFrom m ws) (sym e) (held_samples ws (view es) n room counted q).1),
      )

-- A header that is set leaves the rows.
module _ (n : ℕ) (s : Settings) (ws : List ℕ) where
  abbrev headed_words : List ℕ
  headed_words = header_words current n s ++ drop (sample_header current) ws

  header_length_lem : length (header_words current n s) ≡ sample_header current
  unfolding sample_header
  header_length_lem = ap suc (length-map current.settings (setting_word s))

  header_field : (p : ℕ) → get_or headed_words (sample_header current + p) 0 ≡ get_or ws (sample_header current + p) 0
  header_field p =
      ap (λ (k : ℕ). get_or headed_words (k + p) 0) (sym header_length_lem)
      ∙ get_or-append-add (header_words current n s) (drop (sample_header current) ws) p 0
      ∙ get_or-drop (sample_header current) ws p 0

  header_fields : (i : ℕ) (f : SampleField) → sample_field current headed_words i f ≡ sample_field current ws i f
  unfolding sample_field sample_at sample_start
  header_fields i f =
      let at : ℕ = sample_width current * i + place sample_id f current.sample in
      let e : sample_header current + sample_width current * i + place sample_id f current.sample ≡ sample_header current + at = omega arith in
      ap (λ (k : ℕ). get_or headed_words k 0) e ∙ header_field at ∙ ap (λ (k : ℕ). get_or ws k 0) (sym e)

  header_samples : (k : ℕ) → samples_from current headed_words 0 k ≡ samples_from current ws 0 k
  header_samples k = same_samples headed_words ws k 0 (λ i l. same_sample_lem headed_words ws i (λ f p. header_fields i f))

  headed_words_length : sample_header current ≤ length ws → length headed_words ≡ length ws
  headed_words_length h =
      length-append (header_words current n s) (drop (sample_header current) ws) ∙ omega (arith, header_length_lem, length-drop (sample_header current) ws)

-- The sample table that is written: next words, header, zeros.
module _ (ws₀ ws₁ : List ℕ) (ordered : List Placed) (n : ℕ) (s : Settings) (words : sample_header current ≤ length ws₀) (few : n ≤ sample_rows current (length ws₀))
    (same_length : length ws₁ ≡ length ws₀) (nexts : Follows ws₁ ordered n)
    (samples : samples_from current ws₁ 0 n ≡ samples_from current ws₀ 0 n) where
  within : sample_start current n ≤ length ws₀
  within = (samples_end (length ws₀) n (sample_start current n) words few refl).within

  headed_length : length (headed_words n s ws₁) ≡ length ws₀
  headed_length = headed_words_length n s ws₁ (omega (arith, same_length, words)) ∙ same_length

  headed : take (sample_start current n) (headed_words n s ws₁) ≡ named_samples s ordered (samples_from current ws₀ 0 n)
  unfolding count_in setting_in place setting_id current setting_word
  headed =
      nexts_named (headed_words n s ws₁) ordered n (omega (arith, headed_length, within)) refl (λ i h. header_fields n s ws₁ i Next ∙ nexts i h)
      ∙ ap (named_samples s ordered) (header_samples n s ws₁ n ∙ samples)

  pub samples_written : {ws₂ zeros : List ℕ} {k : ℕ} → ws₂ ≡ headed_words n s ws₁ → k ≡ sample_start current n
      → zeros ≡ replicate (length (take (length ws₂ - k) (drop k ws₂))) 0
      → put_mid k (length ws₂ - k) ws₂ zeros ≡ sample_table_by (length ws₀) s ordered (samples_from current ws₀ 0 n)
  unfolding sample_table_by
  samples_written {ws₂} {zeros} {k} e a z =
      let whole : length ws₂ ≡ length ws₀ = ap length e ∙ headed_length in
      let fits : k ≤ length ws₂ = omega (arith, whole, a, within) in
      named_padded (length ws₀) _ _ (zeroed_length ws₂ zeros k fits z ∙ whole) k
      (named_samples_length s ordered (samples_from current ws₀ 0 n) ∙ ap (sample_start current) (samples_length ws₀ n 0) ∙ sym a)
      (zeroed_front ws₂ zeros k fits z ∙ ap₂ (λ (m : ℕ) (l : List ℕ). take m l) a e ∙ headed) (zeroed ws₂ zeros k fits z)

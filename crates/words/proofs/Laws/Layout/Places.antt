-- Where the words of the tables stand in the layout in use, and that rows lie within their table.
use Prim.Native.Nat.{ℕ, zero, suc, ◌+◌, ◌-◌, ◌*◌, ◌/◌, ◌≤◌, ◌<◌}
use mathlib.Core.Bool.{Bool, true, false}
use mathlib.Core.List.{List, [], ◌∷◌, map}
use mathlib.Core.Path.{◌≡◌, refl, sym, ap, ◌∙◌}
use native.Mathlib.Nat.{add-zero, mul-zero}
use native.Mathlib.Omega.{arith}
use borrow.Author.Tests.{eqb-true}
use lib.Dec.{eqb}
use lib.ListN.{length, get_or}
use Rattle.colour.specs.Colour.{Red, Green, Blue, colour_by}
use Rattle.colour.specs.Octant.{bit_weight}
use Rattle.colour.proofs.Laws.Table.{values_from, rule}
use Rattle.model.specs.Layout.{SampleField, Tag, Code, Next, OctantField, First, Last, Count, Child, current, sample_header, sample_width, octant_width, sample_rows, octant_rows}
use Rattle.model.proofs.Tables.Numbers.{current_numbers}
use Rattle.model.proofs.Tables.Size.{rows_within}
use Rattle.words.specs.Rows.{setting_id, sample_id, octant_id, place, sample_start, sample_at, sample_field, setting_in, settings_in, octant_start, octant_at, octant_field}

-- A sample row starts after the header and the rows before it, and an octant row too.
pub sample_start_lem : (i : ℕ) → sample_start current i ≡ 2 + 5 * i
unfolding sample_start sample_header sample_width current
sample_start_lem i = refl

pub octant_start_lem : (i : ℕ) → octant_start current i ≡ 1 + 11 * i
unfolding octant_start octant_width current
octant_start_lem i = refl

-- The octant rows stand after the count.
pub after_count : (n : ℕ) → octant_start current n ≡ suc (octant_width current * n)
unfolding octant_start
after_count n = omega arith

pub octants_first : octant_start current 0 ≡ 1
octants_first = after_count 0 ∙ ap suc (mul-zero (octant_width current))

-- The place of a field in a sample row.
unfoldable pub field_place : SampleField → ℕ
field_place Tag = 0
field_place (Code Red) = 1
field_place (Code Green) = 2
field_place (Code Blue) = 3
field_place Next = 4

place_is : (f : SampleField) → place sample_id f current.sample ≡ field_place f
unfolding place sample_id bit_weight current field_place
place_is Tag = refl
place_is (Code Red) = refl
place_is (Code Green) = refl
place_is (Code Blue) = refl
place_is Next = refl

-- Field f of row i stands in this word.
pub sample_at_lem : (f : SampleField) (i : ℕ) → sample_at current f i ≡ 2 + 5 * i + field_place f
unfolding sample_at
sample_at_lem f i = rw (sample_start_lem i, place_is f)

-- The place of a field in an octant row.
unfoldable pub octant_place : OctantField → ℕ
octant_place First = 0
octant_place Last = 1
octant_place Count = 2
octant_place (Child k) = 3 + k

-- The children's places, computed for the eight of them.
child_place : (k : ℕ) → k < 8 → place octant_id (Child k) current.octant ≡ 3 + k
unfolding place octant_id current values_from
child_place k h =
    let same : values_from (λ i. place octant_id (Child i) current.octant) 0 8 ≡ values_from (λ i. 3 + i) 0 8 = refl in
    sym (rule (λ i. place octant_id (Child i) current.octant) 8 k h)
    ∙ ap (λ (l : List ℕ). get_or l k 0) same
    ∙ rule (λ i. 3 + i) 8 k h

pub octant_place_is : (f : OctantField) → octant_place f < 11 → place octant_id f current.octant ≡ octant_place f
unfolding place octant_id current octant_place
octant_place_is First h = refl
octant_place_is Last h = refl
octant_place_is Count h = refl
octant_place_is (Child k) h = child_place k (omega arith)

-- In a row of one word for each field, a field's word stands at its place: fields are told apart by their numbers.
field_numbered : ℕ → OctantField
field_numbered zero = First
field_numbered (suc zero) = Last
field_numbered (suc (suc zero)) = Count
field_numbered (suc (suc (suc k))) = Child k

numbered_back : (f : OctantField) → field_numbered (octant_id f) ≡ f
unfolding octant_id field_numbered
numbered_back First = refl
numbered_back Last = refl
numbered_back Count = refl
numbered_back (Child k) = let e : 3 + k ≡ suc (suc (suc k)) = omega arith in ap field_numbered e

pub octant_word_at : (g : OctantField → ℕ) (f : OctantField) (fs : List OctantField) → place octant_id f fs < length fs
    → get_or (map g fs) (place octant_id f fs) 0 ≡ g f
unfolding place
octant_word_at g f [] h = absurd (omega arith)
octant_word_at g f (x ∷ fs) h = go (eqb (octant_id x) (octant_id f)) refl (octant_word_at g f fs)
  where
    go : (r : Bool) → eqb (octant_id x) (octant_id f) ≡ r → (place octant_id f fs < length fs → get_or (map g fs) (place octant_id f fs) 0 ≡ g f)
        → get_or (map g (x ∷ fs)) (place octant_id f (x ∷ fs)) 0 ≡ g f
    go true e ih =
        rw (e, place) (ap g (sym (numbered_back x) ∙ ap field_numbered (eqb-true (octant_id x) (octant_id f) e) ∙ numbered_back f))
    go false e ih = let l : suc (place octant_id f fs) < suc (length fs) = rw (e, place) at h in rw (e, place) (ih (omega arith))

-- Field f of octant row i stands in this word.
pub octant_at_lem : (f : OctantField) (i : ℕ) → octant_place f < 11 → octant_at current f i ≡ octant_start current i + octant_place f
unfolding octant_at
octant_at_lem f i h = rw (octant_place_is f h)

-- The bucket size is word 1.
pub settings_in_lem : (ws : List ℕ) → settings_in current ws ≡ record { bucket = get_or ws 1 0 }
unfolding setting_in place setting_id current
settings_in_lem ws = refl

-- Sample rows that a table has lie within it, and octant rows.
pub samples_room : (len n : ℕ) → sample_header current ≤ len → n ≤ sample_rows current len → sample_start current n ≤ len
samples_room len n h r =
    let room : n ≤ (len - 2) / 5 = omega (arith, current_numbers.sample_rows_is len) in
    omega (arith, sample_start_lem n, current_numbers.sample_header_is, rows_within n (len - 2) 5 room)

pub octants_room : (len n at : ℕ) → 1 ≤ len → n ≤ octant_rows current len → at ≡ octant_start current n → at ≤ len
octants_room len n at h k e =
    let fits : n ≤ (len - 1) / octant_width current =
    omega (arith, current_numbers.octant_rows_is len, ap (λ (w : ℕ). (len - 1) / w) current_numbers.octant_width_is) in
    omega (arith, after_count n, rows_within n (len - 1) (octant_width current) fits)

-- A table has at most 4,096 sample rows.
pub rows_few : (len : ℕ) → sample_rows current len ≤ 4096
rows_few len = omega (arith, current_numbers.sample_rows_is len)

-- Row i lies within the table.
pub row_room : (len i : ℕ) → i < sample_rows current len → (2 + 5 * i + 5 ≤ len) × (i < 4096)
row_room len i r =
    let room : suc i ≤ (len - 2) / 5 = omega (arith, current_numbers.sample_rows_is len) in
    (omega (arith, rows_within (suc i) (len - 2) 5 room), omega (arith, current_numbers.sample_rows_is len))

-- Where a row starts, there is room for its words.
pub record RowAt (len i at : ℕ) : Type 0 where
  pub few : i < 4096
  pub small : at ≤ 20482
  pub within : at + 5 ≤ len

pub row_at : (len i at : ℕ) → i < sample_rows current len → at ≡ sample_start current i → RowAt len i at
row_at len i at r e =
    let room = row_room len i r in
    record { few = room.1; small = omega (arith, sample_start_lem i); within = omega (arith, room, sample_start_lem i) }

-- A field and a colour, read from where the row starts.
pub field_in : (f : SampleField) (ws : List ℕ) (i at : ℕ) → at ≡ sample_start current i → get_or ws (at + field_place f) 0 ≡ sample_field current ws i f
unfolding sample_field
field_in f ws i at e = rw (e, sample_start_lem i, sample_at_lem f i)

pub colour_in : (ws : List ℕ) (i at : ℕ) → at ≡ sample_start current i
    → record { red = get_or ws (at + 1) 0; green = get_or ws (at + 2) 0; blue = get_or ws (at + 3) 0 }
    ≡ colour_by (λ h. sample_field current ws i (Code h))
unfolding colour_by field_place
colour_in ws i at e = rw (← field_in (Code Red) ws i at e, ← field_in (Code Green) ws i at e, ← field_in (Code Blue) ws i at e)

-- Octant row i lies within the table, and a field read from where it starts.
pub octant_room : (len i at : ℕ) → i < octant_rows current len → at ≡ octant_start current i → at + 11 ≤ len
octant_room len i at r e =
    let room : suc i ≤ (len - 1) / 11 = omega (arith, current_numbers.octant_rows_is len) in
    omega (arith, rows_within (suc i) (len - 1) 11 room, octant_start_lem i)

pub octant_in : (f : OctantField) (os : List ℕ) (i at : ℕ) → octant_place f < 11 → at ≡ octant_start current i
    → get_or os (at + octant_place f) 0 ≡ octant_field current os i f
unfolding octant_field
octant_in f os i at h e = rw (e, octant_at_lem f i h)

-- The first words of the rows stand where the rows start.
pub tag_in : (ws : List ℕ) (i at : ℕ) → at ≡ sample_start current i → get_or ws at 0 ≡ sample_field current ws i Tag
unfolding field_place
tag_in ws i at e = ap (λ (p : ℕ). get_or ws p 0) (sym (add-zero at)) ∙ field_in Tag ws i at e

pub first_in : (os : List ℕ) (i at : ℕ) → at ≡ octant_start current i → get_or os at 0 ≡ octant_field current os i First
unfolding octant_place
first_in os i at e = ap (λ (p : ℕ). get_or os p 0) (sym (add-zero at)) ∙ octant_in First os i at (omega arith) e

-- Where the sample rows end.
pub record SamplesEnd (len n at : ℕ) : Type 0 where
  pub few : n ≤ 4096
  pub small : at ≤ 20482
  pub within : at ≤ len

pub samples_end : (len n at : ℕ) → sample_header current ≤ len → n ≤ sample_rows current len → at ≡ sample_start current n → SamplesEnd len n at
samples_end len n at h k e =
    record {
      few = omega (arith, current_numbers.sample_rows_is len);
      small = omega (arith, current_numbers.sample_rows_is len, sample_start_lem n);
      within = omega (arith, samples_room len n h k);
    }

-- A table's words by row and field, over the layout: where a field stands, and the set that a sample table says.
use Rattle.std.specs.Prelude.{ℕ, zero, suc, ◌+◌, ◌*◌, min, true, false, List, [], ◌∷◌, map, eqb, length, get_or, set}
use Rattle.colour.specs.declared.Sample.{Sample}
use Rattle.colour.specs.declared.Settings.{Settings}
use Rattle.colour.specs.Colour.{Red, Green, Blue, colour_by}
use Rattle.colour.specs.Octant.{bit_weight}
use Rattle.model.specs.SampleSet.{SampleSet}
use Rattle.model.specs.Layout.{Setting, Bucket, SampleField, Tag, Code, Next, OctantField, First, Last, Count, Child, Layout, sample_header, sample_width, octant_header, octant_width, sample_rows, octant_rows}

-- A number for each field, by which fields are told apart.
unfoldable pub setting_id : Setting → ℕ
setting_id Bucket = 0

unfoldable pub sample_id : SampleField → ℕ
sample_id Tag = 0
sample_id (Code h) = bit_weight h
sample_id Next = 5

unfoldable pub octant_id : OctantField → ℕ
octant_id First = 0
octant_id Last = 1
octant_id Count = 2
octant_id (Child k) = 3 + k

-- The place of a field among the fields of a row.
unfoldable pub place : {F : Type 0} → (F → ℕ) → F → List F → ℕ
place id f [] = 0
place id f (g ∷ rest) = elim (eqb (id g) (id f)) [ true ↦ 0 | false ↦ suc (place id f rest) ]

-- The word before which n sample rows stand, and n octant rows.
unfoldable pub sample_start : Layout → ℕ → ℕ
sample_start L n = sample_header L + sample_width L * n

unfoldable pub octant_start : Layout → ℕ → ℕ
octant_start L n = octant_header L + octant_width L * n

-- The word of the sample table that holds field f of row i.
unfoldable pub sample_at : Layout → SampleField → ℕ → ℕ
sample_at L f i = sample_start L i + place sample_id f L.sample

-- Field f of row i.
unfoldable pub sample_field : Layout → List ℕ → ℕ → SampleField → ℕ
sample_field L ws i f = get_or ws (sample_at L f i) 0

-- The word of the octant table that holds field f of row i, and the field.
unfoldable pub octant_at : Layout → OctantField → ℕ → ℕ
octant_at L f i = octant_start L i + place octant_id f L.octant

unfoldable pub octant_field : Layout → List ℕ → ℕ → OctantField → ℕ
octant_field L os i f = get_or os (octant_at L f i) 0

-- A setting in the header.
unfoldable pub setting_in : Layout → List ℕ → Setting → ℕ
setting_in L ws s = get_or ws (suc (place setting_id s L.settings)) 0

-- The settings that a sample table's header says.
abbrev pub settings_in : Layout → List ℕ → Settings
settings_in L ws = record { bucket = setting_in L ws Bucket }

-- The count that a table of either kind starts with.
unfoldable pub count_in : List ℕ → ℕ
count_in ws = get_or ws 0 0

-- Octants may be entered below this row, whatever the words are: the count, clipped to the rows.
unfoldable pub octant_limit : Layout → List ℕ → ℕ
octant_limit L os = min (count_in os) (octant_rows L (length os))

-- No more samples than this are visited: the count, clipped to the rows.
unfoldable pub sample_budget : Layout → List ℕ → ℕ
sample_budget L ws = min (count_in ws) (sample_rows L (length ws))

-- The sample in row i.
unfoldable pub sample_in : Layout → List ℕ → ℕ → Sample
sample_in L ws i = record { tag = sample_field L ws i Tag; colour = colour_by (λ h. sample_field L ws i (Code h)) }

-- The words with field f of row i set, and with a sample put in row i: its next word stays.
unfoldable pub with_field : Layout → List ℕ → ℕ → SampleField → ℕ → List ℕ
with_field L ws i f w = set ws (sample_at L f i) w

unfoldable pub with_sample : Layout → List ℕ → ℕ → Sample → List ℕ
with_sample L ws i s =
    let tagged : List ℕ = with_field L ws i Tag s.tag in
    let red : List ℕ = with_field L tagged i (Code Red) s.colour.red in
    let green : List ℕ = with_field L red i (Code Green) s.colour.green in
    with_field L green i (Code Blue) s.colour.blue

-- The samples in rows i, .., i + n - 1.
unfoldable pub samples_from : Layout → List ℕ → ℕ → ℕ → List Sample
samples_from L ws i zero = []
samples_from L ws i (suc n) = sample_in L ws i ∷ samples_from L ws (suc i) n

-- Those in the first n rows.
abbrev pub first_samples : Layout → List ℕ → ℕ → List Sample
first_samples L ws n = samples_from L ws 0 n

-- The set of n samples that a sample table's rows say, with settings.
unfoldable pub set_of : Layout → List ℕ → Settings → ℕ → SampleSet
set_of L ws s n = record { settings = s; samples = first_samples L ws n }

-- A word of an octant row, from what the row says.
unfoldable pub octant_field_of : ℕ → ℕ → ℕ → List ℕ → OctantField → ℕ
octant_field_of first last count kids First = first
octant_field_of first last count kids Last = last
octant_field_of first last count kids Count = count
octant_field_of first last count kids (Child k) = get_or kids k 0

-- The row.
unfoldable pub octant_row_by : Layout → ℕ → ℕ → ℕ → List ℕ → List ℕ
octant_row_by L first last count kids = map (octant_field_of first last count kids) L.octant

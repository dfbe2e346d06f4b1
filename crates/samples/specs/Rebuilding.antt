-- Both tables from the samples in the first rows of the sample table: what add, remove and load end with.
use Rattle.std.specs.Prelude.{ℕ, ◌≤◌, Bool, true, ◌&&◌, List, [], ◌∷◌, ◌≡◌, leb, length}
use Rattle.colour.specs.declared.Sample.{Sample}
use Rattle.colour.specs.declared.Settings.{Settings}
use Rattle.colour.specs.Colour.{codes_fit}
use Rattle.colour.specs.Question.{Question, asks, first_no}
use Rattle.model.specs.SampleSet.{octants}
use Rattle.model.specs.Layout.{current, sample_header, octant_header, sample_rows, octant_rows}
use Rattle.model.specs.Tables.{Tables, tables_for}
use Rattle.model.specs.Sound.{CodesInRange}
use Rattle.words.specs.Rows.{first_samples, set_of}
use Rattle.order.specs.Entries.{entries_of}

-- Whether every sample has codes.
unfoldable pub all_fit : List Sample → Bool
all_fit [] = true
all_fit (s ∷ rest) = codes_fit s.colour && all_fit rest

-- 7: do the octants of the first n rows fit?
unfoldable pub room_asked : Settings → ℕ → Tables → List Question
room_asked s n t = asks 7 (leb (octants (set_of current t.samples s n)) (octant_rows current (length t.octants))) ∷ []

-- 4: do they have codes? Then 7.
unfoldable pub codes_asked : Settings → ℕ → Tables → List Question
codes_asked s n t = asks 4 (all_fit (first_samples current t.samples n)) ∷ room_asked s n t

-- What a rebuild that is put these questions comes to: the number, and either nothing is written or the tables of the first n rows are.
pub record Rebuilt (qs : List Question) (s : Settings) (n : ℕ) (t : Tables) (r : ℕ) (t' : Tables) : Type 0 where
  pub number : r ≡ first_no qs
  pub refused : (r ≡ 0 → ⊥) → t' ≡ t
  pub accepted : r ≡ 0 → t' ≡ tables_for current (set_of current t.samples s n) (length t.samples) (length t.octants)

-- What the questions before 4 leave to know: both headers are there, and there are rows and scratch for n samples.
pub record Space (ws os : List ℕ) (n scratch : ℕ) : Type 0 where
  pub sample_words_is : sample_header current ≤ length ws
  pub octant_words_is : octant_header current ≤ length os
  pub few : n ≤ sample_rows current (length ws)
  pub space : n ≤ scratch

-- And those before 7: the entries are those of samples that have codes.
pub record Entered (ws os es : List ℕ) (scratch : ℕ) : Type 0 where
  pub spaced : Space ws os (length es) scratch
  pub in_range : CodesInRange (first_samples current ws (length es))
  pub entries : es ≡ entries_of (first_samples current ws (length es))

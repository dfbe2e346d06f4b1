-- What the functions under the calls ask and promise. No call's own promise cites these.
use Rattle.std.specs.Prelude.{ℕ, zero, suc, ◌+◌, ◌-◌, ◌≤◌, ◌<◌, Bool, true, false, not, List, [], ◌∷◌, ◌++◌, ◌≡◌, eqb, leb, length, take, drop, Option, None, Some, Result}
use Rattle.colour.specs.declared.Sample.{Sample}
use Rattle.colour.specs.declared.Settings.{Settings}
use Rattle.colour.specs.Colour.{codes_fit}
use Rattle.colour.specs.Question.{Question, asks, first_no}
use Rattle.sheet.specs.declared.line.Line.{Line}
use Rattle.sheet.specs.Sheet.{lines_from}
use Rattle.model.specs.SampleSet.{octants}
use Rattle.model.specs.Layout.{current, sample_rows, octant_rows}
use Rattle.model.specs.Tables.{Tables, pair}
use Rattle.model.specs.Machine.{Machine, Changing, Change, Answer, with_set, with_samples, has_tag}
use Rattle.model.specs.Sound.{Shows, Sound, Distinct, CodesInRange}
use Rattle.model.specs.Meets.{Follows}
use Rattle.words.specs.Rows.{count_in, first_samples, set_of}
use Rattle.samples.specs.declared.answers.Stop.{Stop}
use Rattle.samples.specs.Answers.{loaded_number, loaded_taken}

-- The answer and the tables are the machine's, for every machine that the tables show.
abbrev pub FollowsAll : Changing → Tables → Answer → Tables → Type 0
FollowsAll c t a t' = (m : Machine) → Shows current m t → Follows m (Change c) a t'

-- A machine with other samples.
abbrev pub holding : Machine → List Sample → Machine
holding m xs = with_set m (with_samples m.set xs)

-- The place of the sample with a tag; the length where there is none.
unfoldable pub row_of_tag : ℕ → List Sample → ℕ
row_of_tag t [] = 0
row_of_tag t (s ∷ rest) = elim (eqb s.tag t) [ true ↦ 0 | false ↦ suc (row_of_tag t rest) ]

-- The place, if there is one.
unfoldable pub found_if : Bool → ℕ → Option ℕ
found_if true row = Some row
found_if false row = None

unfoldable pub row_found : ℕ → List Sample → Option ℕ
row_found t xs = found_if (has_tag t xs) (row_of_tag t xs)

-- 5 and 6 of a tag, where xs are in the set: is it new, and is there a row after theirs?
unfoldable pub row_questions : ℕ → List Sample → ℕ → List Question
row_questions t xs rows = asks 5 (not (has_tag t xs)) ∷ asks 6 (not (leb rows (length xs))) ∷ []

-- The samples without the one at a place.
unfoldable pub without_row : ℕ → List Sample → List Sample
without_row i xs = take i xs ++ drop (suc i) xs

-- What the questions before 7 leave to know of an add: n samples are in the set, and there is a row for the one added, which is new.
pub record Adding (s : Sample) (n : ℕ) (ws os : List ℕ) : Type 0 where
  pub sound : Sound current (pair ws os)
  pub counted : count_in ws ≡ n
  pub codes : codes_fit s.colour ≡ true
  pub new : has_tag s.tag (first_samples current ws n) ≡ false
  pub row : n < sample_rows current (length ws)

-- The samples in the first n rows are a set, and its tree fits the octant rows.
pub record Acceptable (s : Settings) (ws : List ℕ) (octant_length n : ℕ) : Type 0 where
  pub tags_distinct : Distinct (first_samples current ws n)
  pub in_range : CodesInRange (first_samples current ws n)
  pub octants_fit : octants (set_of current ws s n) ≤ octant_rows current octant_length

-- The most rows, from `low` to `high`, that are acceptable: one more is not, or r is all of them.
pub record Longest (s : Settings) (ws : List ℕ) (octant_length low high r : ℕ) : Type 0 where
  pub least : low ≤ r
  pub most : r ≤ high
  pub accepted : Acceptable s ws octant_length r
  pub ends : (r ≡ high → ⊥) → Acceptable s ws octant_length (suc r) → ⊥

-- The samples of the lines before the first that is not good, `room` of them at most.
unfoldable pub good_samples : ℕ → List (Option Line) → List Sample
good_samples zero lines = []
good_samples (suc room) [] = []
good_samples (suc room) (None ∷ rest) = []
good_samples (suc room) (Some l ∷ rest) = l.sample ∷ good_samples room rest

-- The lines of a sheet that can be rows are rows, after the first n.
pub record LinesPut (n : ℕ) (ws sheet : List ℕ) (lines r : ℕ) (ws' : List ℕ) : Type 0 where
  pub many : r ≡ length (good_samples (sample_rows current (length ws) - n) (lines_from sheet 0 lines))
  pub rows : first_samples current ws' (n + r)
      ≡ first_samples current ws n ++ good_samples (sample_rows current (length ws) - n) (lines_from sheet 0 lines)

-- The number of a good line that is not taken, by whether its tag is known and whether the rows are full: 5, 6, and else 7.
abbrev pub stop_by : Bool → Bool → ℕ
stop_by known full = first_no (asks 5 (not known) ∷ asks 6 (not full) ∷ asks 7 false ∷ [])

-- The number that a load gives before the lines that are left, where xs are in the set and it goes no further: 0 where none is left, 12 where the
-- next is not good, and else that.
unfoldable pub stop_number : List Sample → ℕ → List (Option Line) → ℕ
stop_number xs rows [] = first_no []
stop_number xs rows (None ∷ rest) = first_no (asks 12 false ∷ [])
stop_number xs rows (Some l ∷ rest) = stop_by (has_tag l.sample.tag xs) (leb rows (length xs))

-- A load that ends before line `taken`, with the samples in the first n rows in the set.
pub record Stopped (n : ℕ) (ws sheet : List ℕ) (lines taken : ℕ) (r : Result ℕ Stop) : Type 0 where
  pub number : loaded_number r
      ≡ stop_number (first_samples current ws n) (sample_rows current (length ws)) (lines_from sheet taken (lines - taken))
  pub count : loaded_taken r ≡ taken

-- The reference machine (document 01, "The bin": the plain machine; and "Questions").
use Rattle.std.specs.Prelude.{ℕ, suc, Bool, true, false, not, List, [], ◌∷◌, ◌++◌, leb, eqb, length, drop, Option, None, Some, is_some}
use Rattle.std.proofs.Math.Option as M
use Rattle.colour.specs.declared.Probe.{Probe}
use Rattle.colour.specs.declared.Sample.{Sample}
use Rattle.colour.specs.declared.Settings.{Settings}
use Rattle.colour.specs.declared.Query.{Query}
use Rattle.colour.specs.declared.panel.Wanted.{Wanted}
use Rattle.colour.specs.declared.panel.Wanted.TheVariants as W
use Rattle.colour.specs.Colour.{distance, codes_fit}
use Rattle.colour.specs.Query.{query_questions, in_codes}
use Rattle.colour.specs.Question.{Question, asks, first_no}
use Rattle.sheet.specs.declared.line.Line.{Line}
use Rattle.sheet.specs.Sheet.{line_count, lines_of}
use Rattle.model.specs.Lists.{keep}
use Rattle.model.specs.SampleSet.{SampleSet, Placed, settings_good, octants}
use Rattle.model.specs.Layout.{Layout, current, sample_rows, octant_rows}
use Rattle.model.specs.Tables.{Tables, tables_for}
use Rattle.model.specs.Queries.{tag_of, listed, Counts, counts, nearest}

-- The machine's state.
pub record Machine : Type 0 where
  pub set : SampleSet
  pub sample_length : ℕ
  pub octant_length : ℕ

-- The tables that "The tables" gives for it.
unfoldable pub tables_of : Layout → Machine → Tables
tables_of L m = tables_for L m.set m.sample_length m.octant_length

-- A call that changes the set of sound tables, by its arguments besides the tables.
pub data Changing : Type 0 where
  Load : List ℕ → Changing
  Add : Sample → Changing
  Remove : ℕ → Changing

-- A call, by its arguments besides the tables; a query's include the listing as lent.
pub data Call : Type 0 where
  Clear : Settings → Call
  Change : Changing → Call
  Ask : Query → List ℕ → Call

-- The listing that a call was lent.
unfoldable pub lent : Call → List ℕ
lent (Clear s) = []
lent (Change c) = []
lent (Ask q listing) = listing

-- All that a call gives back besides the tables; what a call does not report is 0. The listing is as it is left.
pub record Answer : Type 0 where
  pub number : ℕ
  pub taken : ℕ
  pub listed : ℕ
  pub entered : ℕ
  pub measured : ℕ
  pub found : Bool
  pub tag : ℕ
  pub distance : ℕ
  pub listing : List ℕ

-- The answer of a load: how many lines were taken.
unfoldable pub load_answer : ℕ → ℕ → Answer
load_answer n taken =
    record { number = n; taken = taken; listed = 0; entered = 0; measured = 0; found = false; tag = 0; distance = 0; listing = [] }

-- Of a ball or a box: listed, entered and measured.
unfoldable pub list_answer : ℕ → ℕ → Counts → List ℕ → Answer
list_answer n k c left =
    record { number = n; taken = 0; listed = k; entered = c.entered; measured = c.measured; found = false; tag = 0; distance = 0; listing = left }

-- Of a nearest query: found or none, the tag and d².
unfoldable pub nearest_answer : ℕ → Bool → ℕ → ℕ → List ℕ → Answer
nearest_answer n found tag distance left =
    record { number = n; taken = 0; listed = 0; entered = 0; measured = 0; found = found; tag = tag; distance = distance; listing = left }

-- A refusal writes nothing, and all else it gives back is 0. The same for acceptance by a call that reports nothing.
unfoldable pub plain : ℕ → List ℕ → Answer
plain n left = nearest_answer n false 0 0 left

-- The first no gives the number, with the listing as it was lent; without one the answer is a.
unfoldable pub unless_refused : List Question → List ℕ → Answer → Answer
unless_refused qs listing a = elim (eqb (first_no qs) 0) [ true ↦ a | false ↦ plain (first_no qs) listing ]

-- A machine with another set; the lengths stay the same throughout.
unfoldable pub with_set : Machine → SampleSet → Machine
with_set m set = record { set = set; sample_length = m.sample_length; octant_length = m.octant_length }

-- A set with other samples and the same settings.
unfoldable pub with_samples : SampleSet → List Sample → SampleSet
with_samples set xs = record { settings = set.settings; samples = xs }

-- Clear empties the list and sets b.
unfoldable pub empty_set : Settings → SampleSet
empty_set s = record { settings = s; samples = [] }

-- Add puts a sample at the end.
unfoldable pub added : SampleSet → Sample → SampleSet
added set s = with_samples set (set.samples ++ (s ∷ []))

-- Remove deletes the tag's sample; the others keep their order.
unfoldable pub removed : SampleSet → ℕ → SampleSet
removed set t = with_samples set (keep (λ s. not (eqb s.tag t)) set.samples)

-- Whether a tag is in the bin.
unfoldable pub has_tag : ℕ → List Sample → Bool
has_tag t [] = false
has_tag t (s ∷ rest) = elim (eqb s.tag t) [ true ↦ true | false ↦ has_tag t rest ]

-- 6: a sample row for each? Removed rows count. 7: would the tree fit the octant rows? Both for a whole set, with its own settings.
unfoldable pub fit_questions : Machine → SampleSet → List Question
fit_questions m set =
    asks 6 (leb (length set.samples) (sample_rows current m.sample_length))
    ∷ asks 7 (leb (octants set) (octant_rows current m.octant_length))
    ∷ []

-- 5: tag new? Then 6 and 7 for the set with the sample.
unfoldable pub new_questions : Machine → Sample → List Question
new_questions m s = asks 5 (not (has_tag s.tag m.set.samples)) ∷ fit_questions m (added m.set s)

-- Of a load's line, 12: good? Then 5, 6, 7 for it.
unfoldable pub line_questions : Machine → Option Line → List Question
line_questions m None = asks 12 false ∷ []
line_questions m (Some line) = asks 12 true ∷ new_questions m line.sample

-- 13: listing holds all?
unfoldable pub room_questions : List ℕ → List ℕ → List Question
room_questions tags listing = asks 13 (leb (length tags) (length listing)) ∷ []

-- A ball and a box are asked that, nearest is not.
unfoldable pub wanted_questions : SampleSet → Wanted → List ℕ → List Question
wanted_questions set (W.Listed R) listing = room_questions (listed R set) listing
wanted_questions set (W.Nearest p r) listing = []

-- 3: b in 1..256?
unfoldable pub clear_questions : Settings → List Question
clear_questions s = asks 3 (settings_good s) ∷ []

-- The questions of each call, in the paper's order: clear 3 · load 11, and 12, 5, 6, 7 for a line · add 4, 5, 6, 7 · remove 8 · ball and box 9, 13 ·
-- nearest 9. Questions 1 and 2 come before these and are put to the tables (`Meets`); after the machine's start they are always yes.
unfoldable pub questions : Machine → Call → List Question
questions m (Clear s) = clear_questions s
questions m (Change (Load sheet)) = asks 11 (is_some (line_count sheet)) ∷ []
questions m (Change (Add s)) = asks 4 (codes_fit s.colour) ∷ new_questions m s
questions m (Change (Remove t)) = asks 8 (has_tag t m.set.samples) ∷ []
questions m (Ask q listing) = query_questions q ++ wanted_questions m.set (in_codes q) listing

-- What a call comes to: its answer, and the set after it.
pub record Outcome : Type 0 where
  pub answer : Answer
  pub set : SampleSet

-- A load that ends with a number, after so many lines that were taken.
unfoldable pub loaded : Machine → ℕ → ℕ → Outcome
loaded m n taken = record { answer = load_answer n taken; set = m.set }

-- Load adds a sheet's lines in turn, stopping at the first refused; `taken` lines came before these.
unfoldable pub load_lines : Machine → ℕ → List (Option Line) → Outcome
load_lines m taken [] = loaded m 0 taken
load_lines m taken (None ∷ rest) = loaded m (first_no (line_questions m None)) taken
load_lines m taken (Some line ∷ rest) =
    let n : ℕ = first_no (line_questions m (Some line)) in
    elim (eqb n 0) [ true ↦ load_lines (with_set m (added m.set line.sample)) (suc taken) rest | false ↦ loaded m n taken ]

-- Nearest gives the tag and d², or says none with both 0; it uses no listing.
unfoldable pub found_answer : Probe → M.Option Placed → List ℕ → Answer
found_answer p M.none left = nearest_answer 0 false 0 0 left
found_answer p (M.some x) left = nearest_answer 0 true (tag_of x) (distance p x.sample.colour) left

-- Ball and box write from the listing's first word and leave the rest.
unfoldable pub listing_answer : List ℕ → Counts → List ℕ → Answer
listing_answer tags c listing = list_answer 0 (length tags) c (tags ++ drop (length tags) listing)

-- The answer of a query that wants this.
unfoldable pub wanted_answer : SampleSet → Wanted → List ℕ → Answer
wanted_answer set (W.Listed R) listing = listing_answer (listed R set) (counts R set) listing
wanted_answer set (W.Nearest p r) listing = found_answer p (nearest p r set) listing

-- What acceptance does. Queries change nothing.
unfoldable pub accepted : Machine → Call → Outcome
accepted m (Clear s) = record { answer = plain 0 []; set = empty_set s }
accepted m (Change (Load sheet)) = load_lines m 0 (lines_of sheet)
accepted m (Change (Add s)) = record { answer = plain 0 []; set = added m.set s }
accepted m (Change (Remove t)) = record { answer = plain 0 []; set = removed m.set t }
accepted m (Ask q listing) = record { answer = wanted_answer m.set (in_codes q) listing; set = m.set }

-- The first no gives the number, and changes nothing.
unfoldable pub refusal : Machine → Call → Outcome
refusal m c = record { answer = plain (first_no (questions m c)) (lent c); set = m.set }

-- One call.
unfoldable pub step : Machine → Call → Outcome
step m c = elim (eqb (first_no (questions m c)) 0) [ true ↦ accepted m c | false ↦ refusal m c ]

-- The machine after a call.
unfoldable pub next_state : Machine → Call → Machine
next_state m c = with_set m (step m c).set

-- The machine that an accepted clear starts, on tables of these lengths.
unfoldable pub start_on : Settings → ℕ → ℕ → Machine
start_on s sample_length octant_length = record { set = empty_set s; sample_length = sample_length; octant_length = octant_length }

-- It takes the two lengths from that clear, and nothing else of the tables.
unfoldable pub start : Settings → Tables → Machine
start s t = start_on s (length t.samples) (length t.octants)

-- What a query answers (document 01, "Picks" and "Questions"): the paper's number and values for each case of the enum, and the answer on any words at
-- all, by the pass or the search over them.
use Rattle.std.specs.Prelude.{Some, None, Result, Ok, Err, ℕ, ◌≤◌, Bool, true, false, not, List, ◌∷◌, ◌≡◌, length}
use Rattle.colour.specs.declared.Probe.{Probe}
use Rattle.colour.specs.declared.Query.{Query}
use Rattle.colour.specs.declared.Region.{Region}
use Rattle.colour.specs.declared.panel.Wanted.{Wanted}
use Rattle.colour.specs.declared.panel.Wanted.TheVariants as W
use Rattle.colour.specs.Query.{query_questions, in_codes}
use Rattle.colour.specs.Question.{asks}
use Rattle.colour.specs.declared.refusal.Refusal.{Refusal}
use Rattle.colour.specs.Refusal.{refusal_number}
use Rattle.model.specs.Layout.{current}
use Rattle.model.specs.Tables.{Tables}
use Rattle.model.specs.Machine.{Ask, Answer, plain, list_answer, nearest_answer, unless_refused}
use Rattle.model.specs.Sound.{long_enough}
use Rattle.model.specs.Meets.{Meets}
use Rattle.words.specs.Rows.{octant_limit, sample_budget}
use Rattle.listing.specs.Pass.{pass_of}
use Rattle.listing.specs.Answers.{pass_answer}
use Rattle.nearest.specs.Best.{search_best, best_found, answer_of}
use Rattle.query.specs.declared.answers.Reply.{Reply}
use Rattle.query.specs.declared.answers.Reply.TheVariants as R

-- The paper's number and values for each case, with the listing as it is left.
unfoldable pub reply_answer : Result Reply Refusal → List ℕ → Answer
reply_answer (Ok (R.Listed c)) left = list_answer 0 c.listed (record { entered = c.entered; measured = c.measured }) left
reply_answer (Ok (R.Nearest (Some near))) left = nearest_answer 0 true near.tag near.distance left
reply_answer (Ok (R.Nearest None)) left = nearest_answer 0 false 0 0 left
reply_answer (Err r) left = plain (refusal_number r) left

-- Whether a reply is one of a query that lists, or else of a nearest query: what is listed is told apart from what is found, and from none found.
-- Both refuse. (A nearest query's number is never 13, by `meets` of `AskMeets`.)
unfoldable pub of_kind : Bool → Result Reply Refusal → Bool
of_kind lists (Ok (R.Listed c)) = lists
of_kind lists (Ok (R.Nearest found)) = not lists
of_kind lists (Err r) = true

-- The answer, on any words, of a query that wants this: by the pass, with question 13, or by the search.
unfoldable pub raw_wanted : Tables → Wanted → List ℕ → Answer
raw_wanted t (W.Listed R) listing = pass_answer (pass_of t.samples t.octants R) listing
raw_wanted t (W.Nearest p r) listing = answer_of (best_found t.samples t.octants p r) listing

-- Questions 1 and 9, and then that: the answer of a query on any words at all.
unfoldable pub raw_answer : Tables → Query → List ℕ → Answer
raw_answer t q listing = unless_refused (asks 1 (long_enough current t) ∷ query_questions q) listing (raw_wanted t (in_codes q) listing)

-- Bounds on any words at all. They are bounds of the pass or the search that the answer is named by: no contract speaks of the time that the code takes.
pub record Bounds (listing : List ℕ) (t : Tables) (a : Answer) : Type 0 where
  -- no more octants entered than the octant table counts and has
  pub entered : a.entered ≤ octant_limit current t.octants
  -- no more samples listed or measured than the sample table counts and has
  pub listed : a.listed ≤ sample_budget current t.samples
  pub measured : a.measured ≤ sample_budget current t.samples
  -- nor visited in the pass, measured or taken whole, whatever it looks for
  pub visited : (R : Region) → (pass_of t.samples t.octants R).after.visited ≤ sample_budget current t.samples
  -- no more samples visited in the search, and no more octants entered
  pub searched : (p : Probe) (r : ℕ) → (search_best t.samples t.octants p r).visited ≤ sample_budget current t.samples
  pub reached : (p : Probe) (r : ℕ) → (search_best t.samples t.octants p r).entered ≤ octant_limit current t.octants
  -- a listing that long is never too short
  pub room : sample_budget current t.samples ≤ length listing → a.number ≡ 13 → ⊥

-- The contract of a query, whose tables are only read.
pub record AskMeets (q : Query) (listing : List ℕ) (t : Tables) (a : Answer) : Type 0 where
  -- what document 01 says of the call; on sound tables this alone fixes the answer, as question 2's freedom is for unsound ones
  pub meets : Meets (Ask q listing) t a t
  -- the answer, with the listing as it is left, named on any words at all
  pub named : a ≡ raw_answer t q listing

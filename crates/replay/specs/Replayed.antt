-- What the driver makes of a script: events that happened, which the whole-day theorem says are the machine's.
use Rattle.std.specs.Prelude.{ℕ, true, false, List, [], ◌∷◌, ◌++◌, map, ◌≡◌, length, Float}
use Rattle.colour.specs.declared.Settings.{Settings}
use Rattle.colour.specs.Question.{first_no}
use Rattle.model.specs.Layout.{current}
use Rattle.model.specs.Tables.{Tables}
use Rattle.model.specs.Machine.{Call, Clear, Change, Ask, lent, Answer, plain, clear_questions}
use Rattle.model.specs.Sound.{long_enough}
use Rattle.model.specs.Meets.{Meets}
use Rattle.model.specs.Trace.{Event, call_of, Happened, machine_trace}
use Rattle.query.specs.Answers.{raw_answer}
use Rattle.replay.specs.Script.{lent_of, step_call, Script, script_calls, steps_of, answer_words, written_over}

-- Of a query the answer and the listing are named, on any words of the tables.
unfoldable pub NamedAnswer : Call → Tables → Answer → Type 0
NamedAnswer (Clear s) t a = Unit {0}
NamedAnswer (Change c) t a = Unit {0}
NamedAnswer (Ask q l) t a = a ≡ raw_answer t q l

-- One step on tables t, which is lent r words: its call's contract, its listing over those words, and the answer's words.
pub record Stepped (words : List ℕ) (floats : List Float) (sheets listings answers : List ℕ) (t : Tables)
    (r : ℕ) (listings' answers' : List ℕ) (t' : Tables) : Type 0 where
  pub answer : Answer
  pub meets : Meets (step_call words floats sheets listings) t answer t'
  pub named : NamedAnswer (step_call words floats sheets listings) t answer
  pub listed : listings' ≡ written_over answer.listing listings
  pub answered : answers' ≡ written_over (answer_words answer) answers
  pub filled : length answer.listing ≡ length (lent_of words floats listings)
  pub lent_is : r ≡ length (lent_of words floats listings)

-- The tables after the last event; t where there is none.
unfoldable pub last_tables : Tables → List Event → Tables
last_tables t [] = t
last_tables t (e ∷ rest) = last_tables e.after rest

-- The answer of each query, on the tables as the event before left them.
unfoldable pub AllNamed : Tables → List Event → Type 0
AllNamed t [] = Unit {0}
AllNamed t (e ∷ rest) = NamedAnswer e.call t e.answer × AllNamed e.after rest

-- What each event gives, one after the other.
unfoldable pub of_events : (Event → List ℕ) → List Event → List ℕ
of_events f [] = []
of_events f (e ∷ rest) = f e ++ of_events f rest

-- An event's answer in words, and its listing, which is empty for a call that is no query.
abbrev pub words_of : Event → List ℕ
words_of e = answer_words e.answer

abbrev pub listing_in : Event → List ℕ
listing_in e = e.answer.listing

-- The first n steps of a script on tables t: events of which each is known by its call's contract alone. Each query's answer is named, on any words.
pub record Ran (s : Script) (answers : List ℕ) (t : Tables) (n : ℕ) (listings' answers' : List ℕ) (t' : Tables) : Type 0 where
  pub events : List Event
  pub calls : map call_of events ≡ script_calls s n
  pub happened : Happened t events
  pub named : AllNamed t events
  pub tables : t' ≡ last_tables t events
  pub answered : answers' ≡ written_over (of_events words_of events) answers
  pub listed : listings' ≡ written_over (of_events listing_in events) s.listings

-- A call refused by 1 on tables t.
unfoldable pub refused_short : Tables → Call → Event
refused_short t c = record { call = c; answer = plain 1 (lent c); after = t }

-- A whole script: as many steps as there is room for, r.
pub record Replayed (s : Script) (answers : List ℕ) (t : Tables) (r : ℕ) (listings' answers' : List ℕ) (t' : Tables) : Type 0 where
  pub made : r ≡ steps_of s answers
  pub ran : Ran s answers t r listings' answers' t'
  -- A script whose first call is a clear that its questions accept: all is the machine's, every answer and every word of both tables.
  pub day : (x : Settings) (rest : List Call) → script_calls s r ≡ Clear x ∷ rest → long_enough current t ≡ true → first_no (clear_questions x) ≡ 0
      → ran.events ≡ machine_trace x t rest
  -- Tables that are too short: every call is refused by 1, and nothing changes.
  pub short : long_enough current t ≡ false → ran.events ≡ map (refused_short t) (script_calls s r)

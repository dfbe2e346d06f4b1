-- Calls as values (document 01, "The bin"): the call of the reference machine that a value means, the answer that is given, and the contract of the entry.
use Rattle.std.specs.Prelude.{ℕ, false, List, [], ◌≡◌}
use Rattle.std.proofs.Math.Option.{Option, none, some}
use Rattle.colour.specs.declared.Query.{Query}
use Rattle.model.specs.Tables.{Tables}
use Rattle.model.specs.Machine.{Clear, Change, Load, Add, Remove, Ask, Answer, plain}
use Rattle.model.specs.Machine as M
use Rattle.model.specs.Meets.{Meets}
use Rattle.colour.specs.Refusal.{answer_number}
use Rattle.samples.specs.Answers.{loaded_number, loaded_taken}
use Rattle.query.specs.Answers.{reply_answer, AskMeets, Bounds}
use Rattle.replay.specs.declared.calls.Changing.{Changing}
use Rattle.replay.specs.declared.calls.Changing.TheVariants as G
use Rattle.replay.specs.declared.calls.Call.{Call}
use Rattle.replay.specs.declared.calls.Call.TheVariants as C
use Rattle.replay.specs.declared.calls.Given.{Given}
use Rattle.replay.specs.declared.calls.Given.TheVariants as V

-- The machine's call that a value means, with the sheet and the listing that are lent beside it.
unfoldable pub change_meant : Changing → List ℕ → M.Changing
change_meant G.Load sheet = Load sheet
change_meant (G.Add s) sheet = Add s
change_meant (G.Remove tag) sheet = Remove tag

unfoldable pub meant : Call → List ℕ → List ℕ → M.Call
meant (C.Clear s) sheet lent = Clear s
meant (C.Change c) sheet lent = Change (change_meant c sheet)
meant (C.Ask q) sheet lent = Ask q lent

-- The query that a call asks, where it is one.
unfoldable pub query_of : Call → Option Query
query_of (C.Clear s) = none
query_of (C.Change c) = none
query_of (C.Ask q) = some q

-- The listing of an answer, from the words lent for it: all of them for a query, none for another call.
unfoldable pub listing_of : Option Query → List ℕ → List ℕ
listing_of none words = []
listing_of (some q) words = words

-- The answer that what was given says, with a listing as it is left; what a call does not report is 0.
unfoldable pub answer_of : Given → List ℕ → Answer
answer_of (V.Changed a) listing = plain (answer_number a) listing
answer_of (V.Loaded a) listing =
    record {
      number = loaded_number a;
      taken = loaded_taken a;
      listed = 0;
      entered = 0;
      measured = 0;
      found = false;
      tag = 0;
      distance = 0;
      listing = listing;
    }
answer_of (V.Replied a) listing = reply_answer a listing

-- A call's answer, with the words lent for a listing as they are left.
unfoldable pub given_answer : Call → Given → List ℕ → Answer
given_answer c r left = answer_of r (listing_of (query_of c) left)

-- A call that is no query leaves the words lent for a listing as they were.
unfoldable pub Kept : Option Query → List ℕ → List ℕ → Type 0
Kept none lent left = left ≡ lent
Kept (some q) lent left = Unit {0}

-- Of a query: the tables are only read, and the answer is named and bounded on any words.
pub record Queried (q : Query) (lent : List ℕ) (t : Tables) (a : Answer) (t' : Tables) : Type 0 where
  pub tables : t' ≡ t
  pub asked : AskMeets q lent t a
  pub bounds : Bounds lent t a

-- The same of a call: of one that is no query nothing is said here.
unfoldable pub Named : Option Query → List ℕ → Tables → Answer → Tables → Type 0
Named none lent t a t' = Unit {0}
Named (some q) lent t a t' = Queried q lent t a t'

-- Call c on tables t, with a sheet and words for a listing lent beside it, gives r, and leaves those words as `left` and the tables as t'.
pub record CallMeets (c : Call) (sheet lent : List ℕ) (t : Tables) (r : Given) (left : List ℕ) (t' : Tables) : Type 0 where
  pub meets : Meets (meant c sheet lent) t (given_answer c r left) t'
  pub kept : Kept (query_of c) lent left
  pub named : Named (query_of c) lent t (given_answer c r left) t'

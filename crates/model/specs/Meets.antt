-- What the contracts of the table calls say (document 01, "Questions"; the finishing house's note): the text that an `ensures` cites.
use Rattle.std.specs.Prelude.{ℕ, ◌≤◌, Bool, true, false, ◌&&◌, ◌||◌, List, [], ◌≡◌, eqb, length, drop}
use Rattle.colour.specs.declared.Settings.{Settings}
use Rattle.colour.specs.declared.Query.{Query}
use Rattle.colour.specs.declared.Query.TheVariants as Q
use Rattle.colour.specs.Question.{first_no}
use Rattle.colour.specs.Query.{query_questions}
use Rattle.model.specs.Layout.{current}
use Rattle.model.specs.Tables.{Tables}
use Rattle.model.specs.Machine.{Machine, Call, Clear, Change, Ask, lent, Answer, tables_of, plain, list_answer, nearest_answer, step, next_state, start, clear_questions}
use Rattle.model.specs.Sound.{Shows, Sound, long_enough}

-- Call c on tables t gives the number n alone, and leaves the listing and the tables as they were.
pub record Refused (n : ℕ) (c : Call) (t : Tables) (a : Answer) (t' : Tables) : Type 0 where
  pub answer : a ≡ plain n (lent c)
  pub tables : t' ≡ t

-- The machine's answer and the machine's tables.
pub record Follows (m : Machine) (c : Call) (a : Answer) (t' : Tables) : Type 0 where
  pub answer : a ≡ (step m c).answer
  pub tables : t' ≡ tables_of current (next_state m c)

-- Whether a query uses its listing.
unfoldable pub lists : Query → Bool
lists (Q.Ball c r) = true
lists (Q.Box lo hi) = true
lists (Q.Nearest c r) = false

-- The numbers that a query on unsound tables may give: 2; the first no of the questions that are put to the query itself, which is 0 if they accept it;
-- and then also 13, if it uses a listing.
unfoldable pub may_give : Query → ℕ → Bool
may_give q n = eqb n 2 || eqb n (first_no (query_questions q)) || (eqb (first_no (query_questions q)) 0 && lists q && eqb n 13)

-- It reports what its kind of query reports, and nothing else.
unfoldable pub own_reports : Bool → List ℕ → Answer → Answer
own_reports true l a = list_answer a.number a.listed (record { entered = a.entered; measured = a.measured }) a.listing
own_reports false l a = nearest_answer a.number a.found a.tag a.distance l

-- Question 2, the one freedom: on unsound tables a query may go on, to finish or to give a later number. Then this holds.
pub record Free (q : Query) (l : List ℕ) (t : Tables) (a : Answer) (t' : Tables) : Type 0 where
  -- tables unchanged
  pub tables : t' ≡ t
  pub number : may_give q a.number ≡ true
  -- nothing past the listing's reported length written
  pub same_length : length a.listing ≡ length l
  pub room : a.listed ≤ length l
  pub past : drop a.listed a.listing ≡ drop a.listed l
  -- nothing at all where a number is given, and every report 0
  pub refused : (a.number ≡ 0 → ⊥) → a ≡ plain a.number l
  pub reports : a ≡ own_reports (lists q) l a

-- A call on tables t that answers a and leaves t', with what holds on unsound tables.
pub record TableMeets (unsoundly : Type 0) (c : Call) (t : Tables) (a : Answer) (t' : Tables) : Type 0 where
  pub short : long_enough current t ≡ false → Refused 1 c t a t'
  pub unsound : long_enough current t ≡ true → (Sound current t → ⊥) → unsoundly
  pub sound : (m : Machine) → Shows current m t → Follows m c a t'

-- Clear asks 1 and 3 alone, and starts a machine whatever words the tables held.
pub record ClearMeets (s : Settings) (t : Tables) (a : Answer) (t' : Tables) : Type 0 where
  pub short : long_enough current t ≡ false → Refused 1 (Clear s) t a t'
  pub refused : long_enough current t ≡ true → (first_no (clear_questions s) ≡ 0 → ⊥) → Refused (first_no (clear_questions s)) (Clear s) t a t'
  pub accepted : long_enough current t ≡ true → first_no (clear_questions s) ≡ 0 → (a ≡ plain 0 []) × (t' ≡ tables_of current (start s t))

-- The contract of each table call, by its kind: 1 and 3; 1, 2 and its own questions; 1, the freedom of 2, and its own.
unfoldable pub Meets : Call → Tables → Answer → Tables → Type 0
Meets (Clear s) t a t' = ClearMeets s t a t'
Meets (Change c) t a t' = TableMeets (Refused 2 (Change c) t a t') (Change c) t a t'
Meets (Ask q l) t a t' = TableMeets (Free q l t a t') (Ask q l) t a t'

-- The checking call says yes exactly where the tables are sound; so no where they are too short.
pub record CheckMeets (t : Tables) (yes : Bool) : Type 0 where
  pub sound : yes ≡ true → Sound current t
  pub complete : Sound current t → yes ≡ true

-- The whole-day theorem's statement (demand 3; document 01, "The bin": a day's sequence). Its proof is `whole_day` of proofs/.
use Rattle.std.specs.Prelude.{true, List, [], ◌∷◌, map, ◌≡◌}
use Rattle.colour.specs.declared.Settings.{Settings}
use Rattle.colour.specs.Question.{first_no}
use Rattle.model.specs.Layout.{current}
use Rattle.model.specs.Tables.{Tables}
use Rattle.model.specs.Machine.{Machine, Call, Clear, Answer, tables_of, step, next_state, start, plain, clear_questions}
use Rattle.model.specs.Sound.{long_enough}
use Rattle.model.specs.Meets.{Meets}

-- A call, all that it gave back, and every word of both tables after it.
pub record Event : Type 0 where
  pub call : Call
  pub answer : Answer
  pub after : Tables

-- An event's call.
abbrev pub call_of : Event → Call
call_of e = e.call

-- The events came one after the other, each on the tables as the one before left them, from tables t on.
-- Of each only what its call's contract says is known.
unfoldable pub Happened : Tables → List Event → Type 0
Happened t [] = Unit {0}
Happened t (e ∷ rest) = Meets e.call t e.answer e.after × Happened e.after rest

-- The machine's events from state m on.
unfoldable pub played : Machine → List Call → List Event
played m [] = []
played m (c ∷ rest) =
    record { call = c; answer = (step m c).answer; after = tables_of current (next_state m c) } ∷ played (next_state m c) rest

-- The machine's day: the first clear, which starts it, and the calls after it.
unfoldable pub machine_trace : Settings → Tables → List Call → List Event
machine_trace s t calls =
    record { call = Clear s; answer = plain 0 []; after = tables_of current (start s t) } ∷ played (start s t) calls

-- Demand 3. Take any tables and any clear that its questions accept on them, and any events of which that clear is the first:
-- they are the machine's, every answer and every word of both tables.
abbrev pub WholeDay : Type 0
WholeDay =
    (s : Settings) (t : Tables) → long_enough current t ≡ true → first_no (clear_questions s) ≡ 0
    → (a : Answer) (t₀ : Tables) (events : List Event) → Happened t (record { call = Clear s; answer = a; after = t₀ } ∷ events)
    → record { call = Clear s; answer = a; after = t₀ } ∷ events ≡ machine_trace s t (map call_of events)

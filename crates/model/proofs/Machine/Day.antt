-- The whole-day theorem (demand 3): `whole_day`. It rests on each call's contract alone, on `step_valid`, and on the tables' lengths.
use mathlib.Core.Bool.{Bool, true, false, and-eq-true_iff}
use mathlib.Core.List.{List, [], ◌∷◌, map}
use mathlib.Core.Path.{◌≡◌, refl, sym, ap, ◌∙◌}
use lib.ListN.{length}
use lib.Dec.{leb, eqb}
use native.Mathlib.Omega.{arith}
use borrow.Author.Tests.{leb-true, le-leb, eqb-true, eqb-false}
use Rattle.colour.specs.declared.Settings.{Settings}
use Rattle.colour.specs.Question.{first_no}
use Rattle.model.specs.Layout.{current, sample_header, octant_header}
use Rattle.model.specs.Tables.{Tables}
use Rattle.model.specs.Machine.{Machine, Call, Clear, Change, Ask, lent, Answer, tables_of, with_set, empty_set, plain, clear_questions, questions}
use Rattle.model.specs.Machine.{Outcome, accepted, refusal, step, next_state, start_on, start}
use Rattle.model.specs.Sound.{Shows, long_enough}
use Rattle.model.specs.Meets.{Meets, ClearMeets, Follows, Refused}
use Rattle.model.specs.Trace.{Event, call_of, Happened, played, machine_trace, WholeDay}
use Rattle.model.proofs.Tables.Unique.{samples_length, octants_length, current_complete}
use Rattle.model.proofs.Machine.Step.{step_accepted, step_refused}
use Rattle.model.proofs.Machine.Valid.{step_valid, started_valid}

-- Sound tables pass question 1.
pub sound_long : (m : Machine) (t : Tables) → Shows current m t → long_enough current t ≡ true
unfolding long_enough
sound_long m t s =
    rw
    (le-leb (sample_header current) (length t.samples) (omega (arith, samples_length current current_complete m t s, s.valid.sample_words_is)))
    (le-leb (octant_header current) (length t.octants) (omega (arith, octants_length current current_complete m t s, s.valid.octant_words_is)))

-- A clear within the day.
pub started : (s : Settings) (m : Machine) (t : Tables) → Shows current m t → start s t ≡ with_set m (empty_set s)
unfolding start start_on with_set
started s m t shows =
    λ i. start_on s (samples_length current current_complete m t shows i) (octants_length current current_complete m t shows i)

module _ (s : Settings) (m : Machine) where
  pub clear_accepted : first_no (clear_questions s) ≡ 0 → step m (Clear s) ≡ record { answer = plain 0 []; set = empty_set s }
  unfolding questions accepted
  clear_accepted z = step_accepted m (Clear s) z

  pub clear_refused : (first_no (clear_questions s) ≡ 0 → ⊥) → step m (Clear s) ≡ record { answer = plain (first_no (clear_questions s)) []; set = m.set }
  unfolding questions refusal lent
  clear_refused n = step_refused m (Clear s) n

clear_follows : (s : Settings) (m : Machine) (t : Tables) (a : Answer) (t' : Tables) → Shows current m t → ClearMeets s t a t'
    → Follows m (Clear s) a t'
unfolding lent next_state with_set
clear_follows s m t a t' shows h = go (eqb (first_no (clear_questions s)) 0) refl
  where
    go : (r : Bool) → eqb (first_no (clear_questions s)) 0 ≡ r → Follows m (Clear s) a t'
    go true e =
        let z : first_no (clear_questions s) ≡ 0 = eqb-true _ 0 e in
        let g : (a ≡ plain 0 []) × (t' ≡ tables_of current (start s t)) = h.accepted (sound_long m t shows) z in
        record {
          answer = g.0 ∙ sym (ap (λ (o : Outcome). o.answer) (clear_accepted s m z));
          tables = g.1 ∙ ap (tables_of current) (started s m t shows ∙ sym (ap (λ (o : Outcome). with_set m o.set) (clear_accepted s m z)));
        }
    go false e =
        let n = eqb-false _ 0 e in
        let f : Refused (first_no (clear_questions s)) (Clear s) t a t' = h.refused (sound_long m t shows) n in
        record {
          answer = f.answer ∙ sym (ap (λ (o : Outcome). o.answer) (clear_refused s m n));
          tables = f.tables ∙ shows.words ∙ ap (tables_of current) (sym (ap (λ (o : Outcome). with_set m o.set) (clear_refused s m n)));
        }

-- What a contract says of a call on the machine's own tables: the machine's answer, and the machine's tables.
pub follows : (c : Call) (m : Machine) (t : Tables) (a : Answer) (t' : Tables) → Shows current m t → Meets c t a t' → Follows m c a t'
unfolding Meets
follows (Clear x) m t a t' s h = clear_follows x m t a t' s h
follows (Change x) m t a t' s h = h.sound m s
follows (Ask q l) m t a t' s h = h.sound m s

day_from : (es : List Event) (m : Machine) (t : Tables) → Shows current m t → Happened t es → es ≡ played m (map call_of es)
unfolding Happened played
day_from [] m t s r = refl
day_from (e ∷ es) m t s r =
    let f : Follows m e.call e.answer e.after = follows e.call m t e.answer e.after s r.0 in
    let s' : Shows current (next_state m e.call) e.after = record { valid = step_valid m e.call s.valid; words = f.tables } in
    λ i. record { call = e.call; answer = f.answer i; after = f.tables i } ∷ day_from es (next_state m e.call) e.after s' r.1 i

pub whole_day : WholeDay
unfolding Happened machine_trace Meets long_enough start
whole_day b t h q a t₀ es r =
    let g : (a ≡ plain 0 []) × (t₀ ≡ tables_of current (start b t)) = r.0.accepted h q in
    let long = (and-eq-true_iff (leb (sample_header current) (length t.samples)) (leb (octant_header current) (length t.octants))).0 h in
    let s : Shows current (start b t) t₀ =
    record {
      valid = started_valid b (length t.samples) (length t.octants) (leb-true _ _ long.0) (leb-true _ _ long.1) q;
      words = g.1;
    } in
    λ i. record { call = Clear b; answer = g.0 i; after = g.1 i } ∷ day_from es (start b t) t₀ s r.1 i

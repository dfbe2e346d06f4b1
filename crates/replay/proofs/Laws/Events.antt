-- Events that a script's steps make, one after the other.
use Prim.Native.Nat.{ℕ, ◌+◌, ◌-◌, ◌*◌, ◌≤◌}
use mathlib.Core.List.{List, [], ◌∷◌, ◌++◌, map, map-append, append_assoc, append-nil}
use mathlib.Core.Path.{◌≡◌, refl, sym, ap, ◌∙◌}
use native.Mathlib.Numerals.{add-one}
use native.Mathlib.Omega.{arith}
use borrow.Rule.Slice.PartMut.{put_mid}
use lib.ListN.{length, take, drop, length-append}
use lib.Seq.{drop-append_seam}
use Rattle.sheet.proofs.Laws.Parts.{put_tail}
use Rattle.model.specs.Tables.{Tables}
use Rattle.model.specs.Machine.{Call}
use Rattle.model.specs.Meets.{Meets}
use Rattle.model.specs.Trace.{Event, call_of, Happened}
use Rattle.replay.specs.Format.{step_width, answer_width}
use Rattle.replay.specs.Script.{Script, lent_of, step_call, words_from, floats_from, lent_before, listings_from, script_calls, answer_words, written_over}
use Rattle.replay.specs.Replayed.{NamedAnswer, AllNamed, Stepped, Ran, last_tables, of_events, words_of, listing_in}
use Rattle.replay.proofs.Laws.Parts.{tail_whole, written_next}

-- One event more.
of_events_more : (f : Event → List ℕ) (es : List Event) (e : Event) → of_events f (es ++ (e ∷ [])) ≡ of_events f es ++ f e
unfolding of_events
of_events_more f [] e = append-nil (f e)
of_events_more f (d ∷ es) e = ap (λ (l : List ℕ). f d ++ l) (of_events_more f es e) ∙ sym (append_assoc (f d) (of_events f es) (f e))

last_more : (t : Tables) (es : List Event) (e : Event) → last_tables t (es ++ (e ∷ [])) ≡ e.after
unfolding last_tables
last_more t [] e = refl
last_more t (d ∷ es) e = last_more d.after es e

happened_more : (t : Tables) (es : List Event) (e : Event) → Happened t es → Meets e.call (last_tables t es) e.answer e.after
    → Happened t (es ++ (e ∷ []))
unfolding Happened last_tables
happened_more t [] e h m = (m, tt)
happened_more t (d ∷ es) e h m = (h.0, happened_more d.after es e h.1 m)

named_more : (t : Tables) (es : List Event) (e : Event) → AllNamed t es → NamedAnswer e.call (last_tables t es) e.answer
    → AllNamed t (es ++ (e ∷ []))
unfolding AllNamed last_tables
named_more t [] e h m = (m, tt)
named_more t (d ∷ es) e h m = (h.0, named_more d.after es e h.1 m)

-- What is written over some words so far, and what is written over the rest of them next.
over_next : (a b old now next : List ℕ) (at : ℕ) → now ≡ written_over a old → length a ≡ at → next ≡ written_over b (drop at now)
    → take at now ++ next ≡ written_over (a ++ b) old
over_next a b old now next at so_far end more = rw (more, so_far, ← end) (written_next a b old)

-- The first i steps, with where the next step's part of the listings begins.
pub record Upto (s : Script) (answers₀ : List ℕ) (t₀ : Tables) (i at : ℕ) (listings answers : List ℕ) (t : Tables) : Type 0 where
  pub ran : Ran s answers₀ t₀ i listings answers t
  pub place : at ≡ lent_before s i
  pub filled : length (of_events listing_in ran.events) ≡ at
  pub count : length (of_events words_of ran.events) ≡ answer_width * i

module _ (s : Script) (answers₀ : List ℕ) (t₀ : Tables) where
  pub begin : Upto s answers₀ t₀ 0 0 s.listings answers₀ t₀
  unfolding script_calls Happened AllNamed last_tables of_events written_over lent_before
  begin =
      record {
        ran = record { events = []; calls = refl; happened = tt; named = tt; tables = refl; answered = refl; listed = refl };
        place = refl;
        filled = refl;
        count = refl;
      }

  module _ (i at : ℕ) (listings answers : List ℕ) (t : Tables) (u : Upto s answers₀ t₀ i at listings answers t) where
    -- What is left of the listings is as it was.
    rest : drop at listings ≡ listings_from s i
    unfolding written_over
    rest =
        rw (← u.filled, u.ran.listed) (drop-append_seam (of_events listing_in u.ran.events) _)
        ∙ ap (λ (k : ℕ). drop k s.listings) (u.filled ∙ u.place)

    pub within : at ≤ length listings
    unfolding written_over
    within = omega (arith, u.filled, ap length u.ran.listed ∙ length-append (of_events listing_in u.ran.events) _)

    module _ (r : ℕ) (listings' answers' : List ℕ) (t' : Tables)
        (st : Stepped (words_from s i) (floats_from s i) s.sheets (drop at listings) (drop (answer_width * i) answers) t r listings' answers' t') where
      abbrev call : Call
      call = step_call (words_from s i) (floats_from s i) s.sheets (listings_from s i)

      abbrev event : Event
      event = record { call = call; answer = st.answer; after = t' }

      abbrev events : List Event
      events = u.ran.events

      size : r ≡ length (lent_of (words_from s i) (floats_from s i) (listings_from s i))
      size = st.lent_is ∙ ap (λ (l : List ℕ). length (lent_of (words_from s i) (floats_from s i) l)) rest

      pub next : Upto s answers₀ t₀ (i + 1) (at + r) (take at listings ++ listings') (take (answer_width * i) answers ++ answers') t'
      unfolding script_calls lent_before answer_words
      next =
          let meets : Meets call (last_tables t₀ events) st.answer t' = rw (rest, u.ran.tables) at st.meets in
          let named : NamedAnswer call (last_tables t₀ events) st.answer = rw (rest, u.ran.tables) at st.named in
          let more : map call_of (events ++ (event ∷ [])) ≡ script_calls s i ++ (call ∷ []) =
          map-append call_of events (event ∷ []) ∙ ap (λ (l : List Call). l ++ (call ∷ [])) u.ran.calls in
          let listings-more : of_events listing_in (events ++ (event ∷ [])) ≡ of_events listing_in events ++ st.answer.listing =
          of_events_more listing_in events event in
          let answers-more : of_events words_of (events ++ (event ∷ [])) ≡ of_events words_of events ++ answer_words st.answer =
          of_events_more words_of events event in
          record {
            ran =
                record {
                  events = events ++ (event ∷ []);
                  calls = more ∙ sym (ap (script_calls s) (add-one i));
                  happened = happened_more t₀ events event u.ran.happened meets;
                  named = named_more t₀ events event u.ran.named named;
                  tables = sym (last_more t₀ events event);
                  answered =
                      over_next _ _ answers₀ answers answers' (answer_width * i) u.ran.answered u.count st.answered
                      ∙ ap (λ (l : List ℕ). written_over l answers₀) (sym answers-more);
                  listed =
                      over_next _ _ s.listings listings listings' at u.ran.listed u.filled st.listed
                      ∙ ap (λ (l : List ℕ). written_over l s.listings) (sym listings-more);
                };
            place = (λ k. u.place k + size k) ∙ sym (ap (lent_before s) (add-one i));
            filled =
                ap length listings-more
                ∙ length-append (of_events listing_in events) st.answer.listing
                ∙ (λ k. u.filled k + (st.filled ∙ sym st.lent_is) k);
            count =
                let sum : length (of_events words_of (events ++ (event ∷ []))) ≡ length (of_events words_of events) + answer_width =
                ap length answers-more ∙ length-append (of_events words_of events) (answer_words st.answer) in
                omega (arith, u.count);
          }

    -- The same of parts that are lent to the end, and of those that came back.
    pub turn : (r : ℕ) (listings' answers' : List ℕ) (t' : Tables)
        → Stepped (take (length s.words - step_width * i) (words_from s i)) (take (length s.floats - step_width * i) (floats_from s i)) s.sheets
        (take (length listings - at) (drop at listings)) (take (length answers - answer_width * i) (drop (answer_width * i) answers)) t r listings' answers' t'
        → Upto s answers₀ t₀ (i + 1) (at + r) (put_mid at (length listings - at) listings listings') (put_mid (answer_width * i) (length answers - answer_width * i) answers answers') t'
    turn r listings' answers' t' st =
        let st' : Stepped (words_from s i) (floats_from s i) s.sheets (drop at listings) (drop (answer_width * i) answers) t r listings' answers' t' =
        rw (tail_whole s.words (step_width * i), tail_whole s.floats (step_width * i), tail_whole listings at, tail_whole answers (answer_width * i)) at st in
        rw (put_tail at listings listings', put_tail (answer_width * i) answers answers') (next r listings' answers' t' st')

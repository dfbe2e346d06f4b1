-- The whole-day theorem, and the refusals by 1, of the events that a script's steps make.
use Prim.Native.Nat.{ℕ}
use mathlib.Core.Bool.{true, false}
use mathlib.Core.List.{List, [], ◌∷◌, map}
use mathlib.Core.Path.{◌≡◌, refl, ap, ◌∙◌, subst}
use native.Mathlib.Omega.{arith}
use Rattle.colour.specs.declared.Settings.{Settings}
use Rattle.colour.specs.Question.{first_no}
use Rattle.model.specs.Layout.{current}
use Rattle.model.specs.Tables.{Tables}
use Rattle.model.specs.Machine.{Call, Clear, Change, Ask, Answer, clear_questions}
use Rattle.model.specs.Sound.{long_enough}
use Rattle.model.specs.Meets.{Meets, Refused}
use Rattle.model.specs.Trace.{Event, call_of, Happened, machine_trace}
use Rattle.model.proofs.Machine.Day.{whole_day}
use Rattle.replay.specs.Script.{Script, steps_of}
use Rattle.replay.specs.Replayed.{Ran, refused_short, Replayed}

-- Events of which the first is a clear that its questions accept.
day_of : (t : Tables) (es : List Event) → Happened t es → (b : Settings) (rest : List Call) → map call_of es ≡ Clear b ∷ rest
    → long_enough current t ≡ true → first_no (clear_questions b) ≡ 0 → es ≡ machine_trace b t rest
unfolding Happened
day_of t [] h b rest e long ok = let z : ◌≡◌ {A = ℕ} 0 1 = cc in absurd (omega arith)
day_of t (d ∷ es) h b rest e long ok =
    let is-clear : d.call ≡ Clear b = cc in
    let is-rest : map call_of es ≡ rest = cc in
    let meets : Meets (Clear b) t d.answer d.after = subst (λ (c : Call). Meets c t d.answer d.after) is-clear h.0 in
    (λ i. record { call = is-clear i; answer = d.answer; after = d.after } ∷ es)
    ∙ whole_day b t long ok d.answer d.after es (meets, h.1)
    ∙ ap (machine_trace b t) is-rest

-- Tables that are too short.
module _ (t : Tables) (e : long_enough current t ≡ false) where
  refuses : (c : Call) (a : Answer) (t' : Tables) → Meets c t a t' → Refused 1 c t a t'
  unfolding Meets
  refuses (Clear x) a t' m = m.short e
  refuses (Change c) a t' m = m.short e
  refuses (Ask q l) a t' m = m.short e

  short_of : (es : List Event) → Happened t es → es ≡ map (refused_short t) (map call_of es)
  unfolding Happened refused_short
  short_of [] h = refl
  short_of (d ∷ es) h =
      let f : Refused 1 d.call t d.answer d.after = refuses d.call d.answer d.after h.0 in
      λ i.
      record { call = d.call; answer = f.answer i; after = f.tables i }
      ∷ short_of es (subst (λ (x : Tables). Happened x es) f.tables h.1) i

-- A script whose steps are all made.
pub replayed : (s : Script) (answers : List ℕ) (t : Tables) (r : ℕ) (listings' answers' : List ℕ) (t' : Tables) → r ≡ steps_of s answers
    → Ran s answers t r listings' answers' t' → Replayed s answers t r listings' answers' t'
replayed s answers t r listings' answers' t' made ran =
    record {
      made = made;
      ran = ran;
      day = λ b rest e. day_of t ran.events ran.happened b rest (ran.calls ∙ e);
      short = λ e. short_of t e ran.events ran.happened ∙ ap (map (refused_short t)) ran.calls;
    }

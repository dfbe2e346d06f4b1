-- From what the functions under a query say to its contract.
use Prim.Native.Nat.{ℕ}
use mathlib.Core.Bool.{Bool, true, false, ◌&&◌}
use mathlib.Core.List.{List}
use mathlib.Core.Path.{◌≡◌, refl, sym, ap, ◌∙◌}
use native.Mathlib.Omega.{arith}
use lib.Ieee.{Float}
use Rattle.colour.specs.Channels.{PanelColour}
use Rattle.colour.specs.declared.Probe.{Probe}
use Rattle.colour.specs.declared.Query.{Query}
use Rattle.colour.specs.declared.Query.TheVariants as Q
use Rattle.colour.specs.declared.Region.{Region}
use Rattle.colour.specs.declared.panel.Wanted.{Wanted}
use Rattle.colour.specs.declared.panel.Wanted.TheVariants as W
use Rattle.std.specs.Prelude.{Some, None, Result, Ok, Err}
use Rattle.colour.specs.declared.refusal.Refusal.{Refusal}
use Rattle.colour.specs.declared.refusal.Refusal.TheVariants.{TooShort}
use Rattle.colour.specs.Panel.{panel_good, radius_good}
use Rattle.colour.specs.Query.{query_good, in_codes, asked_of, sphere_if}
use Rattle.colour.specs.Refusal.{refusal_number}
use Rattle.colour.proofs.Floats.Queries.{asked_told, asked_refused, sphere_asked, sphere_not_asked}
use Rattle.model.specs.Layout.{current}
use Rattle.model.specs.Tables.{Tables}
use Rattle.model.specs.Machine.{Answer, plain, nearest_answer, list_answer}
use Rattle.model.specs.Sound.{long_enough}
use Rattle.model.specs.Meets.{lists}
use Rattle.nearest.specs.Best.{best_found, answer_of}
use Rattle.query.specs.declared.answers.Reply.{Reply}
use Rattle.query.specs.Answers.{reply_answer, of_kind, raw_wanted, raw_answer, Bounds, AskMeets}
use Rattle.query.proofs.Laws.Answered.{raw_short, raw_refused, raw_wanted_lem, ask_meets, ask_bounds}

-- The answer of each case is the named one.
module _ (q : Query) (l : List ℕ) (t : Tables) where
  pub short_named : long_enough current t ≡ false → reply_answer (Err TooShort) l ≡ raw_answer t q l
  unfolding reply_answer
  short_named e = sym (raw_short q l t e)

  pub refused_named : long_enough current t ≡ true → (r : Refusal) → asked_of q ≡ Err r → reply_answer (Err r) l ≡ raw_answer t q l
  unfolding reply_answer
  refused_named long r e =
      let no = asked_refused q r e in
      ap (λ (x : Refusal). plain (refusal_number x) l) no.1 ∙ sym (raw_refused q l t long no.0)

  pub wanted_named : long_enough current t ≡ true → {w : Wanted} {a : Answer} → asked_of q ≡ Ok w → a ≡ raw_wanted t w l → a ≡ raw_answer t q l
  wanted_named long {w} e d =
      let yes = asked_told q w e in
      d ∙ sym (raw_wanted_lem q l t long yes.0 ∙ ap (λ (x : Wanted). raw_wanted t x l) yes.1)

  -- So the contract holds.
  pub reply_meets : (kind : Bool) (r : Result Reply Refusal) (left : List ℕ) → reply_answer r left ≡ raw_answer t q l → of_kind kind r ≡ true
      → (AskMeets q l t (reply_answer r left)) × ((Bounds l t (reply_answer r left)) × (of_kind kind r ≡ true))
  reply_meets kind r left e k = (ask_meets q l t (reply_answer r left) e, (ask_bounds q l t (reply_answer r left) e, k))

-- A query that asks for a region lists, and one that asks for the nearest does not.
good_lists : (q : Query) (g : Region) → in_codes q ≡ W.Listed g → lists q ≡ true
unfolding in_codes lists
good_lists (Q.Ball c r) g e = refl
good_lists (Q.Box lo hi) g e = refl
good_lists (Q.Nearest c r) g e = let z : ◌≡◌ {A = ℕ} 0 1 = cc in absurd (omega arith)

good_finds : (q : Query) (p : Probe) (r : ℕ) → in_codes q ≡ W.Nearest p r → lists q ≡ false
unfolding in_codes lists
good_finds (Q.Ball c r) d n e = let z : ◌≡◌ {A = ℕ} 0 1 = cc in absurd (omega arith)
good_finds (Q.Box lo hi) d n e = let z : ◌≡◌ {A = ℕ} 0 1 = cc in absurd (omega arith)
good_finds (Q.Nearest c r) d n e = refl

pub asked_lists : (q : Query) (g : Region) → asked_of q ≡ Ok (W.Listed g) → lists q ≡ true
asked_lists q g e = good_lists q g (asked_told q (W.Listed g) e).1

pub asked_finds : (q : Query) (p : Probe) (r : ℕ) → asked_of q ≡ Ok (W.Nearest p r) → lists q ≡ false
asked_finds q p r e = good_finds q p r (asked_told q (W.Nearest p r) e).1

-- So a reply of that kind is one of the query's kind.
pub of_kind_lem : {k l : Bool} (r : Result Reply Refusal) → k ≡ l → of_kind l r ≡ true → of_kind k r ≡ true
of_kind_lem r e h = ap (λ (x : Bool). of_kind x r) e ∙ h

-- Both kinds refuse.
pub refusal_kind : (kind : Bool) (r : Refusal) → of_kind kind (Err r) ≡ true
unfolding of_kind
refusal_kind kind r = refl

-- A reply's listing is the one that is left.
pub reply_listing : (r : Result Reply Refusal) (l : List ℕ) → (reply_answer r l).listing ≡ l
unfolding reply_answer plain nearest_answer list_answer
reply_listing (Ok (Reply.Listed c)) l = refl
reply_listing (Ok (Reply.Nearest (Some near))) l = refl
reply_listing (Ok (Reply.Nearest None)) l = refl
reply_listing (Err r) l = refl

-- A query by a centre and a radius that wants what is nearest: its answer is the named one with any listing, and so the contract holds with any.
module _ (t : Tables) (c : PanelColour) (r : Float) where
  abbrev near : Query
  near = Q.Nearest c r

  pub near_short : long_enough current t ≡ false → (l : List ℕ) → reply_answer (Err TooShort) l ≡ raw_answer t near l
  near_short e l = short_named near l t e

  pub near_refused : long_enough current t ≡ true → (x : Refusal) → sphere_if (panel_good c && radius_good r) c r ≡ Err x
      → (l : List ℕ) → reply_answer (Err x) l ≡ raw_answer t near l
  unfolding query_good
  near_refused long x e l = refused_named near l t long x (sphere_not_asked near c r refl x e)

  pub near_found : long_enough current t ≡ true → (p : Probe) (n : ℕ) → sphere_if (panel_good c && radius_good r) c r ≡ Ok (p, n)
      → {a : List ℕ → Answer} → ((l : List ℕ) → a l ≡ answer_of (best_found t.samples t.octants p n) l) → (l : List ℕ) → a l ≡ raw_answer t near l
  unfolding query_good in_codes raw_wanted
  near_found long p n e is l = wanted_named near l t long (sphere_asked near c r refl W.Nearest refl p n e) (is l)

  pub near_meets : (reply : Result Reply Refusal) → ((l : List ℕ) → reply_answer reply l ≡ raw_answer t near l)
      → ((l : List ℕ) → AskMeets near l t (reply_answer reply l)) × ((l : List ℕ) → Bounds l t (reply_answer reply l))
  near_meets reply named = (λ l. ask_meets near l t _ (named l), λ l. ask_bounds near l t _ (named l))

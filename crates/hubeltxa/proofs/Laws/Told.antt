-- What a call's enum says, as the number that is returned and the words that are lent for the rest.
use Prim.Native.Nat.{ℕ}
use mathlib.Core.Bool.{Bool, true, false}
use mathlib.Core.List.{List}
use mathlib.Core.Path.{◌≡◌, sym, ap₂, ◌∙◌, subst}
use Rattle.colour.specs.declared.Query.{Query}
use Rattle.model.specs.Tables.{Tables}
use Rattle.model.specs.Queries.{Counts}
use Rattle.model.specs.Machine.{Answer, list_answer, nearest_answer}
use Rattle.model.specs.Meets.{lists, own_reports}
use Rattle.query.specs.declared.answers.Reply.{Reply}
use Rattle.query.specs.Answers.{reply_answer, AskMeets, Bounds}
use Rattle.query.proofs.Laws.Answered.{own_reports_lem}
use Rattle.query.proofs.Laws.Asked.{reply_listing}
use Rattle.hubeltxa.specs.Left.{list_left, near_left, Told, ToldNear}
use Rattle.std.specs.Prelude.{Result}
use Rattle.colour.specs.declared.refusal.Refusal.{Refusal}

-- What a ball or a box gives back is what it answers.
pub listed_told : (q : Query) (l : List ℕ) (t : Tables) → lists q ≡ true → (a : Result Reply Refusal) (n listed entered measured : ℕ) (left : List ℕ)
    → Told a n listed entered measured → AskMeets q l t (reply_answer a left)
    → reply_answer a left ≡ list_left n listed entered measured left
unfolding own_reports
listed_told q l t is a n listed entered measured left d told =
    let x : Answer = reply_answer a left in
    let counts : ◌≡◌ {A = Counts} (record { entered = entered; measured = measured }) (record { entered = x.entered; measured = x.measured }) =
    λ i. record { entered = d.entered_is left i; measured = d.measured_is left i } in
    let own : x ≡ list_answer x.number x.listed (record { entered = x.entered; measured = x.measured }) x.listing =
    own_reports_lem q l t x told ∙ rw (is, own_reports) in
    sym
    (ap₂ (λ (y z : ℕ). list_answer y z (record { entered = entered; measured = measured }) left) (d.number_is left) (d.listed_is left)
    ∙ ap₂ (λ (c : Counts) (y : List ℕ). list_answer x.number x.listed c y) counts (sym (reply_listing a left))
    ∙ sym own)

-- What a nearest query gives back, with any listing.
pub near_told : (q : Query) (t : Tables) → lists q ≡ false → (a : Result Reply Refusal) (n found tag distance : ℕ) → ToldNear a n found tag distance
    → ((l : List ℕ) → AskMeets q l t (reply_answer a l)) → (l : List ℕ) → reply_answer a l ≡ near_left n found tag distance l
unfolding own_reports
near_told q t is a n found tag distance d told l =
    let x : Answer = reply_answer a l in
    let own : x ≡ nearest_answer x.number x.found x.tag x.distance l = own_reports_lem q l t x (told l) ∙ rw (is, own_reports) in
    sym
    (ap₂ (λ (y : ℕ) (f : Bool). nearest_answer y f tag distance l) (d.number_is l) (d.found_is l)
    ∙ ap₂ (λ (y z : ℕ). nearest_answer x.number x.found y z l) (d.tag_is l) (d.distance_is l)
    ∙ sym own)

-- So it keeps the contract and the bounds.
pub told_meets : (q : Query) (l : List ℕ) (t : Tables) (a b : Answer) → a ≡ b → AskMeets q l t a → Bounds l t a → AskMeets q l t b × Bounds l t b
told_meets q l t a b e m k = (subst (AskMeets q l t) e m, subst (Bounds l t) e k)

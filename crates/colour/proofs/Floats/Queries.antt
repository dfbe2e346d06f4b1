-- A query taken apart: from what its floats' answers tell to what it asks.
use mathlib.Core.Path.{◌≡◌, refl, sym, ap, ◌∙◌}
use mathlib.Core.Bool.{Bool, true, false, ◌&&◌, and-false, and-eq-true_iff}
use Prim.Native.Nat.{ℕ, ◌<◌}
use native.Mathlib.Omega.{arith}
use lib.Ieee.{Float}
use Rattle.std.specs.Prelude.{Result, Ok, Err}
use Rattle.colour.specs.Channels.{Colour, PanelColour}
use Rattle.colour.specs.declared.Probe.{Probe}
use Rattle.colour.specs.declared.Query.{Query}
use Rattle.colour.specs.declared.Query.TheVariants as Q
use Rattle.colour.specs.declared.Region.{Region}
use Rattle.colour.specs.declared.Region.TheVariants as R
use Rattle.colour.specs.declared.panel.Wanted.{Wanted}
use Rattle.colour.specs.declared.panel.Wanted.TheVariants as W
use Rattle.colour.specs.declared.refusal.Refusal.{Refusal}
use Rattle.colour.specs.declared.refusal.Refusal.TheVariants.{OutOfRange}
use Rattle.colour.specs.Colour.{codes_fit}
use Rattle.colour.specs.Panel.{panel_good, radius_good, codes_of, code_of, channel_if, codes_if}
use Rattle.colour.specs.Probe.{probe}
use Rattle.colour.specs.Question.{first_no}
use Rattle.colour.specs.Query.{ordered, query_good, query_questions, in_codes, asked_of, sphere_if}
use Rattle.colour.specs.Refusal.{answer_number}
use Rattle.colour.proofs.Floats.Answers.{code_told, code_refused, codes_told, codes_refused}
use Rattle.colour.proofs.Floats.Codes.{code_below, good_fit}

-- A good query is answered in its codes, any other is refused.
module _ (q : Query) where
  pub asked_yes : query_good q ≡ true → asked_of q ≡ Ok (in_codes q)
  unfolding asked_of
  asked_yes e = rw (asked_of, e)

  pub asked_no : query_good q ≡ false → asked_of q ≡ Err OutOfRange
  unfolding asked_of
  asked_no e = rw (asked_of, e)

-- Its number is question 9's: 0 exactly for a good query, else 9.
pub asked_number_lem : (q : Query) → answer_number (asked_of q) ≡ first_no (query_questions q)
unfolding query_questions first_no
asked_number_lem q = at (query_good q) refl
  where
    at : (b : Bool) → query_good q ≡ b → answer_number (asked_of q) ≡ first_no (query_questions q)
    at true e = rw (e, asked_yes q e)
    at false e = rw (e, asked_no q e)

-- So an answer that is the definition's has the paper's number.
pub asked_meets : (q : Query) (r : Result Wanted Refusal) → r ≡ asked_of q → (answer_number r ≡ first_no (query_questions q)) × (r ≡ asked_of q)
asked_meets q r e = (ap answer_number e ∙ asked_number_lem q, e)

-- A centre and a radius.
module _ (p : PanelColour) (v : Float) where
  abbrev good : Bool
  good = panel_good p && radius_good v

  pub no_centre : (r : Refusal) → codes_if (panel_good p) p ≡ Err r → Err r ≡ sphere_if good p v
  unfolding sphere_if
  no_centre r e = let no = codes_refused (panel_good p) p r e in rw (no.0, no.1)

  pub no_radius : (r : Refusal) → channel_if (radius_good v) v ≡ Err r → Err r ≡ sphere_if good p v
  unfolding sphere_if
  no_radius r e = let no = code_refused (radius_good v) v r e in rw (no.0, no.1, and-false (panel_good p))

  pub sphere_yes : (k : Colour) (n : ℕ) → codes_if (panel_good p) p ≡ Ok k → channel_if (radius_good v) v ≡ Ok n → Ok (probe k, n) ≡ sphere_if good p v
  unfolding sphere_if
  sphere_yes k n d e =
      let x = codes_told (panel_good p) p k d in
      let y = code_told (radius_good v) v n e in
      rw (x.0, y.0, x.1, y.1)

-- What the sphere tells.
sphere_told : (b : Bool) (p : PanelColour) (v : Float) (k : Probe) (n : ℕ) → sphere_if b p v ≡ Ok (k, n) → (b ≡ true) × (probe (codes_of p) ≡ k) × (code_of v ≡ n)
unfolding sphere_if
sphere_told true p v k n e = let h : (probe (codes_of p), code_of v) ≡ (k, n) = cc in (refl, ap (λ (q : Probe × ℕ). q.0) h, ap (λ (q : Probe × ℕ). q.1) h)
sphere_told false p v k n e = let z : ◌≡◌ {A = ℕ} 0 1 = cc in absurd (omega arith)

sphere_refused : (b : Bool) (p : PanelColour) (v : Float) (r : Refusal) → sphere_if b p v ≡ Err r → (b ≡ false) × (r ≡ OutOfRange)
unfolding sphere_if
sphere_refused true p v r e = let z : ◌≡◌ {A = ℕ} 0 1 = cc in absurd (omega arith)
sphere_refused false p v r e = (refl, cc)

-- A query that asks by a centre and a radius: a ball or a nearest query.
module _ (q : Query) (p : PanelColour) (v : Float) (by : query_good q ≡ (panel_good p && radius_good v)) where
  pub sphere_asked : (want : Probe → ℕ → Wanted) → in_codes q ≡ want (probe (codes_of p)) (code_of v)
      → (k : Probe) (n : ℕ) → sphere_if (panel_good p && radius_good v) p v ≡ Ok (k, n) → asked_of q ≡ Ok (want k n)
  sphere_asked want wants k n e =
      let t = sphere_told (panel_good p && radius_good v) p v k n e in
      asked_yes q (by ∙ t.0) ∙ ap Ok wants ∙ rw (t.1, t.2)

  pub sphere_not_asked : (r : Refusal) → sphere_if (panel_good p && radius_good v) p v ≡ Err r → asked_of q ≡ Err r
  sphere_not_asked r e =
      let no = sphere_refused (panel_good p && radius_good v) p v r e in
      asked_no q (by ∙ no.0) ∙ ap Err (sym no.1)

-- A box.
module _ (low high : PanelColour) where
  pub no_low : (r : Refusal) → codes_if (panel_good low) low ≡ Err r → asked_of (Q.Box low high) ≡ Err r
  unfolding query_good
  no_low r e = let no = codes_refused (panel_good low) low r e in asked_no (Q.Box low high) (rw no.0) ∙ ap Err (sym no.1)

  pub no_high : (r : Refusal) → codes_if (panel_good high) high ≡ Err r → asked_of (Q.Box low high) ≡ Err r
  unfolding query_good
  no_high r e =
      let no = codes_refused (panel_good high) high r e in
      asked_no (Q.Box low high) (rw (no.0, and-false (panel_good low))) ∙ ap Err (sym no.1)

  module _ (l h : Colour) (el : codes_if (panel_good low) low ≡ Ok l) (eh : codes_if (panel_good high) high ≡ Ok h) where
    box_good : query_good (Q.Box low high) ≡ ordered l h
    unfolding query_good
    box_good =
        let x = codes_told (panel_good low) low l el in
        let y = codes_told (panel_good high) high h eh in
        rw (x.0, y.0, x.1, y.1)

    pub box_yes : ordered l h ≡ true → asked_of (Q.Box low high) ≡ Ok (W.Listed (R.Box l h))
    unfolding in_codes
    box_yes e =
        asked_yes (Q.Box low high) (box_good ∙ e) ∙ rw ((codes_told (panel_good low) low l el).1, (codes_told (panel_good high) high h eh).1)

    pub box_no : ordered l h ≡ false → asked_of (Q.Box low high) ≡ Err OutOfRange
    box_no e = asked_no (Q.Box low high) (box_good ∙ e)

-- What a query asks lies in range: codes up to 65,535, a radius below 131,072, a box in order.
abbrev pub SphereFits : Probe → ℕ → Type 0
SphereFits p n = (codes_fit p.centre ≡ true) × (n < 131072)

abbrev pub RegionFits : Region → Type 0
RegionFits (R.Ball p n) = SphereFits p n
RegionFits (R.Box l h) = (codes_fit l ≡ true) × (codes_fit h ≡ true) × (ordered l h ≡ true)

abbrev pub WantedFits : Wanted → Type 0
WantedFits (W.Listed r) = RegionFits r
WantedFits (W.Nearest p n) = SphereFits p n

sphere_fits : (p : PanelColour) (v : Float) → (panel_good p && radius_good v) ≡ true → SphereFits (probe (codes_of p)) (code_of v)
unfolding radius_good
sphere_fits p v e = (good_fit p ((and-eq-true_iff (panel_good p) (radius_good v)).0 e).0, code_below 2 v ((and-eq-true_iff (panel_good p) (radius_good v)).0 e).1)

pub wanted_fits : (q : Query) → query_good q ≡ true → WantedFits (in_codes q)
unfolding query_good in_codes
wanted_fits (Q.Ball p v) e = sphere_fits p v e
wanted_fits (Q.Nearest p v) e = sphere_fits p v e
wanted_fits (Q.Box low high) e =
    let o = ordered (codes_of low) (codes_of high) in
    let both = ((and-eq-true_iff (panel_good low && panel_good high) o).0 e).0 in (
      good_fit low ((and-eq-true_iff (panel_good low) (panel_good high)).0 both).0,
      good_fit high ((and-eq-true_iff (panel_good low) (panel_good high)).0 both).1,
      ((and-eq-true_iff (panel_good low && panel_good high) o).0 e).1,
    )

-- What a query asks for tells that it is good, and in what codes; a refusal tells that it is not.
pub asked_told : (q : Query) (w : Wanted) → asked_of q ≡ Ok w → (query_good q ≡ true) × (in_codes q ≡ w)
asked_told q w e = at (query_good q) refl
  where
    at : (b : Bool) → query_good q ≡ b → (b ≡ true) × (in_codes q ≡ w)
    at true g = (refl, let h : (◌≡◌ {A = Result Wanted Refusal} (Ok (in_codes q)) (Ok w)) = rw (asked_yes q g) at e in cc)
    at false g = let z : ◌≡◌ {A = ℕ} 0 1 = cc (asked_no q g) in absurd (omega arith)

pub asked_refused : (q : Query) (r : Refusal) → asked_of q ≡ Err r → (query_good q ≡ false) × (r ≡ OutOfRange)
asked_refused q r e = at (query_good q) refl
  where
    at : (b : Bool) → query_good q ≡ b → (b ≡ false) × (r ≡ OutOfRange)
    at true g = let z : ◌≡◌ {A = ℕ} 0 1 = cc (asked_yes q g) in absurd (omega arith)
    at false g = (refl, cc (asked_no q g))

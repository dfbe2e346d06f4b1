-- What the answer enums tell, and that each is the paper's answer.
use mathlib.Core.Path.{◌≡◌, refl, sym, ap, ◌∙◌}
use mathlib.Core.Bool.{Bool, true, false}
use Rattle.std.specs.Option.{ok_or}
use Rattle.std.specs.Prelude.{Result, Ok, Err}
use Prim.Native.Nat.{ℕ}
use native.Mathlib.Omega.{arith}
use lib.Ieee.{Float}
use Rattle.colour.specs.Channels.{Colour, Tried, all, red, green, blue, PanelColour}
use Rattle.colour.specs.declared.refusal.Refusal.{Refusal}
use Rattle.colour.specs.declared.refusal.Refusal.TheVariants as R
use Rattle.colour.specs.Colour.{Channel, Red, Green, Blue, code_in, each, is_code, codes_fit}
use Rattle.colour.specs.Panel.{code_of, answer_if, channel_if, code_if, fit_if, channel_good, panel_good, codes_of, codes_if, codes_answer, floats_to_codes, floats_if, floats_answer, codes_to_floats}
use Rattle.colour.specs.Question.{first_no}
use Rattle.colour.proofs.Laws.Channels.{each_no}

-- A code that is refused where a float has none.
pub refused_code : (b : Bool) (v : Float) → ok_or (answer_if b v) R.OutOfRange ≡ channel_if b v
unfolding answer_if channel_if
refused_code true v = refl
refused_code false v = refl

-- A float's code tells that the float is good, and a refusal that it is not.
pub code_told : (b : Bool) (v : Float) (k : ℕ) → channel_if b v ≡ Ok k → (b ≡ true) × (code_of v ≡ k)
unfolding channel_if
code_told true v k e = (refl, cc)
code_told false v k e = let z : ◌≡◌ {A = ℕ} 0 1 = cc in absurd (omega arith)

pub code_refused : (b : Bool) (v : Float) (r : Refusal) → channel_if b v ≡ Err r → (b ≡ false) × (r ≡ R.OutOfRange)
unfolding channel_if
code_refused true v r e = let z : ◌≡◌ {A = ℕ} 0 1 = cc in absurd (omega arith)
code_refused false v r e = (refl, cc)

-- The same of a word.
word_told : (b : Bool) (x k : ℕ) → code_if b x ≡ Ok k → (b ≡ true) × (x ≡ k)
unfolding code_if
word_told true x k e = (refl, cc)
word_told false x k e = let z : ◌≡◌ {A = ℕ} 0 1 = cc in absurd (omega arith)

word_refused : (b : Bool) (x : ℕ) (r : Refusal) → code_if b x ≡ Err r → (b ≡ false) × (r ≡ R.Code)
unfolding code_if
word_refused true x r e = let z : ◌≡◌ {A = ℕ} 0 1 = cc in absurd (omega arith)
word_refused false x r e = (refl, cc)

-- The same of a colour.
pub fit_told : (b : Bool) (c k : Colour) → fit_if b c ≡ Ok k → (b ≡ true) × (c ≡ k)
unfolding fit_if
fit_told true c k e = (refl, cc)
fit_told false c k e = let z : ◌≡◌ {A = ℕ} 0 1 = cc in absurd (omega arith)

pub fit_refused : (b : Bool) (c : Colour) (r : Refusal) → fit_if b c ≡ Err r → (b ≡ false) × (r ≡ R.Code)
unfolding fit_if
fit_refused true c r e = let z : ◌≡◌ {A = ℕ} 0 1 = cc in absurd (omega arith)
fit_refused false c r e = (refl, cc)

-- The same of a panel colour's codes.
pub codes_told : (b : Bool) (p : PanelColour) (c : Colour) → codes_if b p ≡ Ok c → (b ≡ true) × (codes_of p ≡ c)
unfolding codes_if
codes_told true p c e = (refl, cc)
codes_told false p c e = let z : ◌≡◌ {A = ℕ} 0 1 = cc in absurd (omega arith)

pub codes_refused : (b : Bool) (p : PanelColour) (r : Refusal) → codes_if b p ≡ Err r → (b ≡ false) × (r ≡ R.OutOfRange)
unfolding codes_if
codes_refused true p r e = let z : ◌≡◌ {A = ℕ} 0 1 = cc in absurd (omega arith)
codes_refused false p r e = (refl, cc)

-- A panel colour by channel.
abbrev pub float_in : Channel → PanelColour → Float
float_in Red p = p.red
float_in Green p = p.green
float_in Blue p = p.blue

abbrev channel_answer : Channel → PanelColour → Result ℕ Refusal
channel_answer h p = channel_if (channel_good (float_in h p)) (float_in h p)

module _ (p : PanelColour) where
  -- One channel refused is the whole colour refused.
  codes_no : (h : Channel) (r : Refusal) → channel_answer h p ≡ Err r → Err r ≡ codes_if (panel_good p) p
  unfolding panel_good each codes_if
  codes_no h r e =
      let no = code_refused (channel_good (float_in h p)) (float_in h p) r e in
      let bad : panel_good p ≡ false = each_no (λ h. channel_good (float_in h p)) h no.0 in
      rw (bad, no.1)

  codes_yes : (r g b : ℕ) → channel_answer Red p ≡ Ok r → channel_answer Green p ≡ Ok g → channel_answer Blue p ≡ Ok b
      → Ok (record { red = r; green = g; blue = b }) ≡ codes_if (panel_good p) p
  unfolding panel_good codes_if codes_of
  codes_yes r g b er eg eb =
      let x = code_told (channel_good p.red) p.red r er in
      let y = code_told (channel_good p.green) p.green g eg in
      let z = code_told (channel_good p.blue) p.blue b eb in
      rw (x.0, y.0, z.0, x.1, y.1, z.1)

  -- What floats to codes comes to.
  pub codes_tried : (r : Result Colour Refusal) → Tried (λ v a. a ≡ channel_if (channel_good v) v) p r → r ≡ codes_if (panel_good p) p
  codes_tried _ (all d x y z) = codes_yes d.red d.green d.blue (sym x) (sym y) (sym z)
  codes_tried _ (red e x) = codes_no Red e (sym x)
  codes_tried _ (green r e x y) = codes_no Green e (sym y)
  codes_tried _ (blue r g e x y z) = codes_no Blue e (sym z)

  -- The enum is the paper's answer.
  codes_answer_lem : (b : Bool) → panel_good p ≡ b → codes_answer (codes_if (panel_good p) p) ≡ floats_to_codes p
  unfolding codes_answer codes_if floats_to_codes first_no
  codes_answer_lem true e = rw (e, floats_to_codes)
  codes_answer_lem false e = rw (e, floats_to_codes)

  pub codes_meet : (r : Result Colour Refusal) → r ≡ codes_if (panel_good p) p → (codes_answer r ≡ floats_to_codes p) × (r ≡ codes_if (panel_good p) p)
  codes_meet r e = (ap codes_answer e ∙ codes_answer_lem (panel_good p) refl, e)

-- One word that is no code refuses the colour.
module _ (c : Colour) where
  abbrev word_answer : Channel → Result ℕ Refusal
  word_answer h = code_if (is_code (code_in h c)) (code_in h c)

  fit_no : (h : Channel) (r : Refusal) → word_answer h ≡ Err r → Err r ≡ fit_if (codes_fit c) c
  unfolding codes_fit fit_if
  fit_no h r e =
      let no = word_refused (is_code (code_in h c)) (code_in h c) r e in
      let bad : codes_fit c ≡ false = each_no (λ h. is_code (code_in h c)) h no.0 in
      rw (bad, no.1)

  fit_yes : (r g b : ℕ) → word_answer Red ≡ Ok r → word_answer Green ≡ Ok g → word_answer Blue ≡ Ok b
      → Ok (record { red = r; green = g; blue = b }) ≡ fit_if (codes_fit c) c
  unfolding codes_fit each fit_if code_in
  fit_yes r g b er eg eb =
      let x = word_told (is_code c.red) c.red r er in
      let y = word_told (is_code c.green) c.green g eg in
      let z = word_told (is_code c.blue) c.blue b eb in
      rw (x.0, y.0, z.0, ← x.1, ← y.1, ← z.1)

  pub fit_tried : (r : Result Colour Refusal) → Tried (λ x a. a ≡ code_if (is_code x) x) c r → r ≡ fit_if (codes_fit c) c
  unfolding code_in
  fit_tried _ (all d x y z) = fit_yes d.red d.green d.blue (sym x) (sym y) (sym z)
  fit_tried _ (red e x) = fit_no Red e (sym x)
  fit_tried _ (green r e x y) = fit_no Green e (sym y)
  fit_tried _ (blue r g e x y z) = fit_no Blue e (sym z)

module _ (c : Colour) where
  floats_answer_lem : (b : Bool) → codes_fit c ≡ b → floats_answer (floats_if (codes_fit c) c) ≡ codes_to_floats c
  unfolding floats_answer floats_if codes_to_floats first_no
  floats_answer_lem true e = rw (e, codes_to_floats)
  floats_answer_lem false e = rw (e, codes_to_floats)

  pub floats_meet : (r : Result PanelColour Refusal) → r ≡ floats_if (codes_fit c) c → (floats_answer r ≡ codes_to_floats c) × (r ≡ floats_if (codes_fit c) c)
  floats_meet r e = (ap floats_answer e ∙ floats_answer_lem (codes_fit c) refl, e)

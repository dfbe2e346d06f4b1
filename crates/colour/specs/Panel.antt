-- Panel floats to codes and back (document 01, "Gestures"). A float's value v is a whole number over a power of two, m * up e / down e.
use Rattle.std.specs.Prelude.{ℕ, Option, Some, None, Result, Ok, Err, ◌*◌, ◌/◌, Bool, true, false, not, ◌&&◌, ◌||◌, [], ◌∷◌, ◌≡◌, ltb, eqb, Float}
use Rattle.std.specs.Float.{nan, inf, fin, binary32}
use Rattle.std.specs.Float.Ieee.{up, down, round}
use Rattle.std.specs.Float.Ieee.Exact.{HasValue}
use Rattle.colour.specs.Channels.{Colour}
use Rattle.colour.specs.Channels.{PanelColour}
use Rattle.colour.specs.declared.refusal.Refusal.{Refusal}
use Rattle.colour.specs.declared.refusal.Refusal.TheVariants as R
use Rattle.colour.specs.Colour.{codes_fit, black}
use Rattle.colour.specs.Question.{asks, first_no}
use Rattle.colour.specs.Refusal.{refusal_number}

-- 0 ≤ v < limit. Minus zero counts as zero; no other negative, infinity or NaN passes.
unfoldable pub below : ℕ → Float → Bool
below limit nan = false
below limit (inf s) = false
below limit (fin s m e) = (not s || eqb m 0) && ltb (m * up e) (limit * down e)

-- The code of v: the greatest k with k ≤ 65,536 × v.
unfoldable pub code_of : Float → ℕ
code_of nan = 0
code_of (inf s) = 0
code_of (fin s m e) = 65536 * (m * up e) / down e

-- A channel needs 0 ≤ v < 1.
unfoldable pub channel_good : Float → Bool
channel_good v = below 1 v

-- A radius needs 0 ≤ v < 2.
unfoldable pub radius_good : Float → Bool
radius_good v = below 2 v

-- A panel colour whose three channels are so.
unfoldable pub panel_good : PanelColour → Bool
panel_good p = channel_good p.red && channel_good p.green && channel_good p.blue

-- A panel colour in codes.
unfoldable pub codes_of : PanelColour → Colour
codes_of p = record { red = code_of p.red; green = code_of p.green; blue = code_of p.blue }

-- A code is shown as code divided by 65,536, rounded once. (It is exact: `Shown` of this file.)
unfoldable pub shown : ℕ → Float
shown code = round binary32 false code 65536

-- A colour as it is shown.
unfoldable pub shown_colour : Colour → PanelColour
shown_colour c = record { red = shown c.red; green = shown c.green; blue = shown c.blue }

-- The code of a channel or of a radius, where it is good.
unfoldable pub answer_if : Bool → Float → Option ℕ
answer_if true v = Some (code_of v)
answer_if false v = None

-- The same, with the refusal of question 9.
unfoldable pub channel_if : Bool → Float → Result ℕ Refusal
channel_if true v = Ok (code_of v)
channel_if false v = Err R.OutOfRange

-- The codes of a panel colour, or the refusal.
unfoldable pub codes_if : Bool → PanelColour → Result Colour Refusal
codes_if true p = Ok (codes_of p)
codes_if false p = Err R.OutOfRange

-- A word that is a code, and a colour that is in range, or the refusal of question 4.
unfoldable pub code_if : Bool → ℕ → Result ℕ Refusal
code_if true x = Ok x
code_if false x = Err R.Code

unfoldable pub fit_if : Bool → Colour → Result Colour Refusal
fit_if true c = Ok c
fit_if false c = Err R.Code

-- A colour as floats, or the refusal.
unfoldable pub floats_if : Bool → Colour → Result PanelColour Refusal
floats_if true c = Ok (shown_colour c)
floats_if false c = Err R.Code

-- Floats to codes: all that the call gives back.
pub record CodesAnswer : Type 0 where
  pub number : ℕ
  pub codes : Colour

-- Question 9: the channels as above? Then the codes; on a refusal they are 0.
unfoldable pub floats_to_codes : PanelColour → CodesAnswer
floats_to_codes p = record { number = first_no (asks 9 (panel_good p) ∷ []); codes = elim (panel_good p) [ true ↦ codes_of p | false ↦ black ] }

-- The paper's number and values for each case of the answer.
unfoldable pub codes_answer : Result Colour Refusal → CodesAnswer
codes_answer (Ok c) = record { number = 0; codes = c }
codes_answer (Err r) = record { number = refusal_number r; codes = black }

-- Codes to floats: all that the call gives back.
pub record FloatsAnswer : Type 0 where
  pub number : ℕ
  pub floats : PanelColour

-- Question 4: codes up to 65,535? Then the floats; on a refusal they are 0.
unfoldable pub codes_to_floats : Colour → FloatsAnswer
codes_to_floats c = record { number = first_no (asks 4 (codes_fit c) ∷ []); floats = shown_colour (elim (codes_fit c) [ true ↦ c | false ↦ black ]) }

-- The paper's number and values for each case of the answer.
unfoldable pub floats_answer : Result PanelColour Refusal → FloatsAnswer
floats_answer (Ok p) = record { number = 0; floats = p }
floats_answer (Err r) = record { number = refusal_number r; floats = shown_colour black }

-- What is promised of a shown code r: it is that float, its value is exactly code / 65,536, and it reads as the same code.
pub record Shown (code : ℕ) (r : Float) : Type 0 where
  pub is : r ≡ shown code
  pub exact : HasValue r false code 65536
  pub back : (channel_good r ≡ true) × (code_of r ≡ code)

-- What is said of red, green and blue alike (document 01, "Colours and octants" and "Gestures").
use Rattle.std.specs.Prelude.{ℕ, Float, Result, Ok, Err}
use Rattle.colour.specs.declared.Channels.{Channels}

-- A colour: three words, which are codes if they are in range.
abbrev pub Colour : Type 0
Colour = Channels ℕ

-- A panel colour: three floats.
abbrev pub PanelColour : Type 0
PanelColour = Channels Float

-- What a call comes to that is made of red, green and blue in turn, up to the first that is refused; `gives x r` says that r is a result of x.
pub data Tried {T U E : Type 0} (gives : T → Result U E → Type 0) (c : Channels T) : Result (Channels U) E → Type 0 where
  all : (d : Channels U) → gives c.red (Ok d.red) → gives c.green (Ok d.green) → gives c.blue (Ok d.blue) → Tried gives c (Ok d)
  red : (e : E) → gives c.red (Err e) → Tried gives c (Err e)
  green : (r : U) (e : E) → gives c.red (Ok r) → gives c.green (Err e) → Tried gives c (Err e)
  blue : (r g : U) (e : E) → gives c.red (Ok r) → gives c.green (Ok g) → gives c.blue (Err e) → Tried gives c (Err e)

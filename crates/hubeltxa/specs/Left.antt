-- Records of document 01 from the flat numbers, floats and words of a C call: its arguments, and what it leaves.
use Rattle.std.specs.Prelude.{Result, Ok, Err, ℕ, ◌≤◌, Bool, List, ◌≡◌, eqb, Float}
use Rattle.colour.specs.declared.Channels.{Channels}
use Rattle.colour.specs.Channels.{Colour, PanelColour}
use Rattle.colour.specs.declared.Sample.{Sample}
use Rattle.colour.specs.Panel.{CodesAnswer, FloatsAnswer}
use Rattle.colour.specs.declared.refusal.Refusal.{Refusal}
use Rattle.query.specs.declared.answers.Reply.{Reply}
use Rattle.query.specs.Answers.{reply_answer}
use Rattle.sheet.specs.declared.lookup.Part.{Part}
use Rattle.sheet.specs.Line.{WriteAnswer}
use Rattle.model.specs.Machine.{Answer, list_answer, nearest_answer}

-- A colour from three numbers, and a panel colour from three floats.
abbrev pub colour_of : ℕ → ℕ → ℕ → Colour
colour_of r g b = record { red = r; green = g; blue = b }

abbrev pub panel_colour_of : Float → Float → Float → PanelColour
panel_colour_of r g b = record { red = r; green = g; blue = b }

-- A sample from four numbers.
abbrev pub sample_of : ℕ → ℕ → ℕ → ℕ → Sample
sample_of t r g b = record { tag = t; colour = colour_of r g b }

-- The channels that an answer gives, or others if it refuses.
abbrev pub channels_or : {T : Type 0} → Result (Channels T) Refusal → Channels T → Channels T
channels_or (Ok c) none = c
channels_or (Err r) none = none

-- The answer is the number returned and the three words as the call leaves them.
abbrev pub codes_left : ℕ → ℕ → ℕ → ℕ → CodesAnswer
codes_left n r g b = record { number = n; codes = colour_of r g b }

abbrev pub floats_left : ℕ → Float → Float → Float → FloatsAnswer
floats_left n r g b = record { number = n; floats = panel_colour_of r g b }

-- The number returned, and the bytes lent for a line as the call leaves them.
abbrev pub line_left : ℕ → List ℕ → WriteAnswer
line_left n left = record { number = n; left = left }

-- A part of a sheet, by the two words that the call leaves.
abbrev pub part_left : ℕ → ℕ → Part
part_left start size = record { start = start; size = size }

-- A ball's or a box's answer: the number returned, the three words as the call leaves them, and the listing.
abbrev pub list_left : ℕ → ℕ → ℕ → ℕ → List ℕ → Answer
list_left n listed entered measured listing = list_answer n listed (record { entered = entered; measured = measured }) listing

-- Yes or no by the number that says it: 1 or 0.
unfoldable pub is_yes : ℕ → Bool
is_yes n = eqb n 1

-- A nearest query's answer: the number returned, the words as the call leaves them, and any listing.
abbrev pub near_left : ℕ → ℕ → ℕ → ℕ → List ℕ → Answer
near_left n found tag distance left = nearest_answer n (is_yes found) tag distance left

-- A number and three words that say what a ball or a box answers, whatever its listing.
pub record Told (a : Result Reply Refusal) (number listed entered measured : ℕ) : Type 0 where
  pub number_is : (left : List ℕ) → number ≡ (reply_answer a left).number
  pub listed_is : (left : List ℕ) → listed ≡ (reply_answer a left).listed
  pub entered_is : (left : List ℕ) → entered ≡ (reply_answer a left).entered
  pub measured_is : (left : List ℕ) → measured ≡ (reply_answer a left).measured

-- A number and three words that say what a nearest query answers.
pub record ToldNear (a : Result Reply Refusal) (number found tag distance : ℕ) : Type 0 where
  pub number_is : (left : List ℕ) → number ≡ (reply_answer a left).number
  pub found_is : (left : List ℕ) → is_yes found ≡ (reply_answer a left).found
  pub tag_is : (left : List ℕ) → tag ≡ (reply_answer a left).tag
  pub distance_is : (left : List ℕ) → distance ≡ (reply_answer a left).distance
  pub bit : found ≤ 1

-- Codes, colours and their distance (document 01, "Colours and octants"; d² from "Picks").
use Rattle.std.specs.Prelude.{ℕ, ◌+◌, ◌-◌, ◌*◌, ◌%◌, ◌^◌, ◌≤◌, Bool, ◌&&◌, leb, ltb}
use Rattle.colour.specs.Channels.{Colour}
use Rattle.colour.specs.declared.Probe.{Probe}

-- The three channels, so that a fact about a channel is stated once.
pub data Channel : Type 0 where
  Red : Channel
  Green : Channel
  Blue : Channel

-- A colour's code in a channel.
unfoldable pub code_in : Channel → Colour → ℕ
code_in Red c = c.red
code_in Green c = c.green
code_in Blue c = c.blue

-- The colour with the code f h in each channel h.
unfoldable pub colour_by : (Channel → ℕ) → Colour
colour_by f = record { red = f Red; green = f Green; blue = f Blue }

-- A test that holds in each channel.
unfoldable pub each : (Channel → Bool) → Bool
each f = f Red && f Green && f Blue

-- The sum over the channels.
unfoldable pub sum_of : (Channel → ℕ) → ℕ
sum_of f = f Red + f Green + f Blue

-- Code: a whole number 0..65,535.
unfoldable pub is_code : ℕ → Bool
is_code x = leb x 65535

-- Tag: a 32-bit number.
unfoldable pub is_tag : ℕ → Bool
is_tag t = ltb t (2 ^ 32)

-- A colour: red, green, blue codes. Question 4 asks this.
unfoldable pub codes_fit : Colour → Bool
codes_fit c = each (λ h. is_code (code_in h c))

-- The same, as the functions ask it of a colour; `in_range` and `fit` of proofs/Laws/Channels.antt show the two to agree.
pub record InRange (c : Colour) : Type 0 where
  pub red : c.red ≤ 65535
  pub green : c.green ≤ 65535
  pub blue : c.blue ≤ 65535

-- A colour of any three words, each brought into range; a colour in range stays as it is (`wrapped_same` of proofs/Laws/Channels.antt).
unfoldable pub wrapped : Colour → Colour
wrapped c = colour_by (λ h. code_in h c % 65536)

-- The colour with the code 0 in each channel.
unfoldable pub black : Colour
black = colour_by (λ h. 0)

-- The greatest d² of two colours: 3 × 65,535 × 65,535.
abbrev pub greatest_distance : ℕ
greatest_distance = 12884508675

-- The difference of two codes.
unfoldable pub apart : ℕ → ℕ → ℕ
apart x y = (x - y) + (y - x)

-- d² of a colour from a probe: the sum of the three squared code differences.
unfoldable pub distance : Probe → Colour → ℕ
distance p c = sum_of (λ h. apart (code_in h p.centre) (code_in h c) * apart (code_in h p.centre) (code_in h c))

-- `hbx_floats`: what is told is the answer, and black's floats are 0.0.
use mathlib.Core.Path.{◌≡◌, refl, ap, ◌∙◌}
use lib.Ieee.{round, of_bits}
use Rattle.std.specs.Prelude.{Result, Ok, Err}
use Rattle.colour.specs.declared.refusal.Refusal.{Refusal}
use Rattle.colour.specs.Channels.{PanelColour}
use Rattle.colour.specs.Colour.{black, colour_by}
use Rattle.colour.specs.Refusal.{refusal_number, answer_number}
use Rattle.colour.specs.Panel.{FloatsAnswer, floats_answer, shown_colour, shown}
use Rattle.hubeltxa.specs.Left.{channels_or}
use Rattle.hubeltxa.proofs.hbx_floats.Goals as goal

told : (r : Result PanelColour Refusal) (none : PanelColour) → none ≡ shown_colour black
    → ◌≡◌ {A = FloatsAnswer} (record { number = answer_number r; floats = channels_or r none }) (floats_answer r)
unfolding floats_answer
told (Ok p) none e = refl
told (Err r) none e =
    ap (λ (v : PanelColour). record { number = refusal_number r; floats = v }) e

pub returns : goal.returns
unfolding shown shown_colour black colour_by round of_bits
returns c =
    let t = c.tell_channels.ensures in
    (λ i. record { number = t.number i; floats = t.left i }) ∙ told c.try_from-floats.result _ refl ∙ c.try_from-floats.ensures.0

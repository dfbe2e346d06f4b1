-- A colour in range: what a try of each word comes to.
use Rattle.colour.proofs.Floats.Answers.{fit_tried}
use Rattle.colour.proofs.panel.CodesTryFromColour.try_from.Goals as goal

pub returns : goal.returns
returns c = fit_tried _ _ c.try_map.ensures

-- What distances are measured from (document 01, "Picks").
use Rattle.colour.specs.Channels.{Colour}
use Rattle.colour.specs.declared.Probe.{Probe}
use Rattle.colour.specs.Colour.{InRange}

-- A probe at a centre.
abbrev pub probe : Colour → Probe
probe c = record { centre = c }

-- What the functions ask of a probe: its centre is a colour.
pub record Fine (p : Probe) : Type 0 where
  pub centre : InRange p.centre

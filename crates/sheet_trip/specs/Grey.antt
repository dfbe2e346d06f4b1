-- The samples that the round trip tries.
use Rattle.std.specs.Prelude.{ℕ}
use Rattle.colour.specs.declared.Sample.{Sample}

-- A sample with one code in each channel.
abbrev pub grey_of : ℕ → ℕ → Sample
grey_of t c = record { tag = t; colour = record { red = c; green = c; blue = c } }

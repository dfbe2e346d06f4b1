-- What each channel adds to a d².
use Rattle.std.specs.Prelude.{ℕ}
use Rattle.colour.specs.declared.Channels.{Channels}

abbrev pub Squares : Type 0
Squares = Channels ℕ

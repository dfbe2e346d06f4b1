-- `longest`: between rows that are acceptable and rows that are not.
use Prim.Native.Nat.{ℕ, ◌≤◌, ◌<◌}
use mathlib.Core.List.{List}
use lib.ListN.{length}
use Rattle.colour.specs.declared.Settings.{Settings}
use Rattle.model.specs.Layout.{current, sample_rows}
use Rattle.samples.specs.Steps.{Acceptable}

-- The first `good` rows are acceptable, the first `bad` are not.
pub record Between (x : Settings) (ws : List ℕ) (octant_length low high good bad : ℕ) : Type 0 where
  pub least : low ≤ good
  pub apart : good < bad
  pub most : bad ≤ high
  pub rows : high ≤ sample_rows current (length ws)
  pub accepted : Acceptable x ws octant_length good
  pub rejected : Acceptable x ws octant_length bad → ⊥

-- `load::longest`: by halving, between rows that are acceptable and rows that are not.
use Prim.Native.Nat.{◌-◌}
use Rattle.samples.proofs.Laws.Loaded.Halving.{Between}
use Rattle.samples.proofs.load.longest.Given as goal

abbrev pub invariant-loop-good : goal.invariant-loop-good
invariant-loop-good l =
    Between l.settings l.samples l.octants l.low l.high l.good l.bad

abbrev pub decreases-loop-good : goal.decreases-loop-good
decreases-loop-good l =
    l.bad - l.good

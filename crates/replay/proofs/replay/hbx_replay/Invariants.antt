-- `replay::hbx_replay`: after i turns the first i steps are made.
use mathlib.Core.Path.{◌≡◌}
use lib.ListN.{length}
use Rattle.model.specs.Tables.{pair}
use Rattle.replay.specs.Script.{script_of}
use Rattle.replay.proofs.Laws.Events.{Upto}
use Rattle.replay.proofs.replay.hbx_replay.Given as goal

abbrev pub invariant-loop-i : goal.invariant-loop-i
invariant-loop-i l =
    (length l.samples ≡ length l.initial.samples)
    × (length l.octants ≡ length l.initial.octants)
    × (length l.listings ≡ length l.initial.listings)
    × (length l.answers ≡ length l.initial.answers)
    × Upto (script_of l.script l.floats l.sheets l.initial.listings) l.initial.answers (pair l.initial.samples l.initial.octants) l.i l.at l.listings l.answers (pair l.samples l.octants)

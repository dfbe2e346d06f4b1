-- `text::put_left`: what was passed is the text.
use mathlib.Core.List.{◌++◌}
use mathlib.Core.Path.{◌≡◌}
use lib.ListN.{take, drop}
use Rattle.sheet.proofs.text.put_left.Given as goal

abbrev pub invariant-loop-i : goal.invariant-loop-i
invariant-loop-i l =
    l.place ≡ take l.i l.text ++ drop l.i l.initial.place

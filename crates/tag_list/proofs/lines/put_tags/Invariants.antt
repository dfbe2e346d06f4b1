-- `lines::put_tags`: a line for each tag that was passed.
use Prim.Native.Nat.{◌*◌}
use mathlib.Core.List.{◌++◌}
use mathlib.Core.Path.{◌≡◌}
use lib.ListN.{length, take, drop}
use Rattle.model.specs.Walklist.{tag_lines}
use Rattle.tag_list.proofs.lines.put_tags.Given as goal

abbrev pub invariant-loop-i : goal.invariant-loop-i
invariant-loop-i l =
    (length l.text ≡ length l.initial.text) × (l.text ≡ tag_lines (take l.i l.tags) ++ drop (11 * l.i) l.initial.text)

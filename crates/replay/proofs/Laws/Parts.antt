-- Parts of lists: clipped, and written over one after the other.
use Prim.Native.Nat.{ℕ, ◌+◌, ◌-◌, min}
use mathlib.Core.List.{List, ◌++◌, append_assoc}
use mathlib.Core.Path.{◌≡◌, ap, ◌∙◌}
use native.Mathlib.Omega.{arith}
use lib.ListN.{length, take, drop, length-append, length-drop}
use lib.Seq.{take_all, drop-drop, take-append_seam, drop-append_seam}
use Rattle.std.proofs.lemmas.List.{take_min, drop_min}
use Rattle.replay.specs.Script.{written_over}

-- A part whose start and size are clipped.
pub part_clipped : (l : List ℕ) (from most start size : ℕ) → start ≡ min from (length l) → size ≡ min most (length l - start)
    → take (start + size - start) (drop start l) ≡ take most (drop from l)
part_clipped l from most start size f m =
    let part : drop start l ≡ drop from l = ap (λ (k : ℕ). drop k l) f ∙ drop_min from l in
    let count : start + size - start ≡ min most (length (drop start l)) = omega (arith, length-drop start l) in
    ap (λ (k : ℕ). take k (drop start l)) count
    ∙ take_min most (drop start l)
    ∙ ap (take most) part

-- A part to the end of a list is the list from there on.
pub tail_whole : {A : Type 0} (l : List A) (a : ℕ) → take (length l - a) (drop a l) ≡ drop a l
tail_whole l a = take_all (length l - a) (drop a l) (omega (arith, length-drop a l))

-- What is written after some words is written over the rest.
pub written_next : (a b old : List ℕ) → take (length a) (written_over a old) ++ written_over b (drop (length a) (written_over a old)) ≡ written_over (a ++ b) old
unfolding written_over
written_next a b old =
    rw
    (take-append_seam a (drop (length a) old), drop-append_seam a (drop (length a) old), drop-drop (length b) (length a) old, append_assoc, length-append)

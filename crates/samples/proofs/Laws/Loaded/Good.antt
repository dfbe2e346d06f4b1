-- The samples of the good lines that find a row: how many there are, and that their codes are in range.
use Prim.Native.Nat.{ℕ, zero, suc, ◌≤◌}
use mathlib.Core.List.{List, [], ◌∷◌}
use Rattle.std.specs.Prelude.{Option, None, Some}
use mathlib.Core.Path.{◌≡◌, refl}
use native.Mathlib.Omega.{arith}
use lib.ListN.{length}
use Rattle.sheet.specs.declared.line.Line.{Line}
use Rattle.sheet.proofs.Laws.Ranges.{Ranged, AllRanged}
use Rattle.model.specs.Sound.{CodesInRange}
use Rattle.samples.specs.Steps.{good_samples}

-- No line, or one that is not good, gives no sample.
pub good_end : (room : ℕ) → good_samples room [] ≡ []
unfolding good_samples
good_end zero = refl
good_end (suc room) = refl

pub good_bad : (room : ℕ) (rest : List (Option Line)) → good_samples room (None ∷ rest) ≡ []
unfolding good_samples
good_bad zero rest = refl
good_bad (suc room) rest = refl

-- No more than rows, nor than lines.
pub good_few : (room : ℕ) (lines : List (Option Line)) → (length (good_samples room lines) ≤ room) × (length (good_samples room lines) ≤ length lines)
unfolding good_samples
good_few zero lines = (omega arith, omega arith)
good_few (suc room) [] = (omega arith, omega arith)
good_few (suc room) (None ∷ rest) = (omega arith, omega arith)
good_few (suc room) (Some l ∷ rest) =
    let few = good_few room rest in
    (omega (arith, few.0), omega (arith, few.1))

-- Their codes are in range.
pub good_range : (room : ℕ) (lines : List (Option Line)) → AllRanged lines → CodesInRange (good_samples room lines)
unfolding good_samples CodesInRange AllRanged Ranged
good_range zero lines h = tt
good_range (suc room) [] h = tt
good_range (suc room) (None ∷ rest) h = tt
good_range (suc room) (Some l ∷ rest) h = (h.0.codes, good_range room rest h.1)

-- Words one after the other, and words that are 0.
use Prim.Native.Nat.{ℕ, zero, suc, ◌+◌, ◌≤◌}
use mathlib.Core.Bool.{true}
use mathlib.Core.List.{List, [], ◌∷◌}
use mathlib.Core.Logic.{◌↔◌}
use mathlib.Core.Path.{◌≡◌, refl, sym, ap, ap₂, ◌∙◌}
use native.Mathlib.Nat.{add-suc}
use native.Mathlib.Omega.{arith}
use borrow.Author.Tests.{eqb-true, eq-eqb}
use Rattle.std.specs.List.{fold}
use lib.Bits.{bit_or, or_add_and, and_le_l, and_le_r}
use lib.Dec.{eqb}
use lib.ListN.{length, get_or, take, drop, replicate}
use lib.Seq.{drop-cons}

-- Words at + k, at + k + 1, .., n of them.
unfoldable pub words_from : List ℕ → ℕ → ℕ → ℕ → List ℕ
words_from ws at k zero = []
words_from ws at k (suc n) = get_or ws (at + k) 0 ∷ words_from ws at (suc k) n

pub words_from_lem : (ws : List ℕ) (n at k : ℕ) → at + k + n ≤ length ws → take n (drop (at + k) ws) ≡ words_from ws at k n
unfolding words_from
words_from_lem ws zero at k h = refl
words_from_lem ws (suc n) at k h =
    rw (drop-cons ws (at + k) 0 (omega arith), ← add-suc at k, words_from_lem ws n at (suc k) (omega arith))

-- Words that are all 0.
abbrev pub Zero : List ℕ → Type 0
Zero words = words ≡ replicate (length words) 0

-- The bits of words gathered: none is set exactly where all words are 0.
either_set : (a b : ℕ) → bit_or a b ≡ 0 → (a ≡ 0) × (b ≡ 0)
either_set a b e = (omega (arith, or_add_and a b, and_le_r a b), omega (arith, or_add_and a b, and_le_l a b))

gathered_zero : (words : List ℕ) (bits : ℕ) → fold bit_or bits words ≡ 0 → (bits ≡ 0) × Zero words
gathered_zero [] bits e = (e, refl)
gathered_zero (w ∷ words) bits e =
    let rest : (bit_or bits w ≡ 0) × Zero words = gathered_zero words (bit_or bits w) e in
    let both : (bits ≡ 0) × (w ≡ 0) = either_set bits w rest.0 in
    (both.0, ap₂ (λ (x : ℕ) (l : List ℕ). x ∷ l) both.1 rest.1)

zero_gathered : (n : ℕ) → fold bit_or 0 (replicate n 0) ≡ 0
zero_gathered zero = refl
zero_gathered (suc n) = zero_gathered n

pub gathered_tells : (words : List ℕ) (bits : ℕ) → bits ≡ fold bit_or 0 words → (eqb bits 0 ≡ true) ↔ Zero words
gathered_tells words bits e = (
  λ t. (gathered_zero words 0 (sym e ∙ eqb-true bits 0 t)).1,
  λ z. eq-eqb bits 0 (e ∙ ap (fold bit_or 0) z ∙ zero_gathered (length words)),
)

-- Lists and sums that the definitions are made of.
use Rattle.std.specs.Prelude.{ℕ, zero, suc, ◌+◌, ◌-◌, Bool, true, false, List, [], ◌∷◌, ◌++◌, length, replicate}

-- The elements that pass a test, in order.
unfoldable pub keep : {A : Type 0} → (A → Bool) → List A → List A
keep p [] = []
keep p (x ∷ rest) = elim (p x) [ true ↦ x ∷ keep p rest | false ↦ keep p rest ]

-- f 0, .., f (n - 1), one after the other.
unfoldable pub joined : {A : Type 0} → (ℕ → List A) → ℕ → List A
joined f zero = []
joined f (suc n) = joined f n ++ f n

-- f 0 + .. + f (n - 1).
unfoldable pub total : (ℕ → ℕ) → ℕ → ℕ
total f zero = 0
total f (suc n) = total f n + f n

-- The words, then zeros up to len words.
unfoldable pub padded : ℕ → List ℕ → List ℕ
padded len words = words ++ replicate (len - length words) 0

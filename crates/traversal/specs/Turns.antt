-- Functions that are applied one after the other.
use Rattle.std.specs.Prelude.{ℕ, zero, suc}

-- F 0, then F 1, .., then F (n - 1).
unfoldable pub in_turn : {A : Type 0} → (ℕ → A → A) → ℕ → A → A
in_turn F zero a = a
in_turn F (suc n) a = F n (in_turn F n a)

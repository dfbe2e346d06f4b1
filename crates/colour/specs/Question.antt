-- Questions (document 01, "Questions, in this order").
use Rattle.std.specs.Prelude.{ℕ, Bool, true, false, List, [], ◌∷◌}

-- A question's number, and whether the answer to it is yes.
pub record Question : Type 0 where
  pub number : ℕ
  pub yes : Bool

-- The question of number n, answered by a test.
abbrev pub asks : ℕ → Bool → Question
asks n y = record { number = n; yes = y }

-- The first no gives the number, 0 is acceptance.
unfoldable pub first_no : List Question → ℕ
first_no [] = 0
first_no (q ∷ rest) = elim q.yes [ true ↦ first_no rest | false ↦ q.number ]

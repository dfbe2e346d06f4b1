-- Numbers in columns (document 01, "Sheets"). Text is a list of bytes.
use Rattle.std.specs.Prelude.{ℕ, zero, suc, ◌+◌, ◌-◌, ◌*◌, ◌/◌, ◌%◌, Bool, true, false, ◌&&◌, List, [], ◌∷◌, ◌++◌, leb, ltb, eqb, length, replicate, Option, None, Some}

-- A blank is byte 32, a newline byte 10.
unfoldable pub blank : ℕ
blank = 32

unfoldable pub newline : ℕ
newline = 10

-- A byte from low to high.
unfoldable pub between : ℕ → ℕ → ℕ → Bool
between low high x = leb low x && leb x high

-- A digit: 48..57.
unfoldable pub digit_byte : ℕ → Bool
digit_byte x = between 48 57 x

-- The text without the blanks before it.
unfoldable pub trimmed : List ℕ → List ℕ
trimmed [] = []
trimmed (x ∷ rest) = elim (eqb x blank) [ true ↦ trimmed rest | false ↦ x ∷ rest ]

-- The decimal number that n followed by these digits gives; none where a byte is no digit.
unfoldable pub digits_after : ℕ → List ℕ → Option ℕ
digits_after n [] = Some n
digits_after n (x ∷ rest) = elim (digit_byte x) [ true ↦ digits_after (10 * n + (x - 48)) rest | false ↦ None ]

-- Decimal, no leading zero but in 0 itself.
unfoldable pub decimal_in : List ℕ → Option ℕ
decimal_in [] = None
decimal_in (x ∷ []) = digits_after 0 (x ∷ [])
decimal_in (x ∷ (y ∷ rest)) = elim (eqb x 48) [ true ↦ None | false ↦ digits_after 0 (x ∷ (y ∷ rest)) ]

-- The number in a column: decimal, right-justified, blanks before it.
unfoldable pub column_number : List ℕ → Option ℕ
column_number s = decimal_in (trimmed s)

-- The digits of n, w at the most.
unfoldable pub decimal : ℕ → ℕ → List ℕ
decimal zero n = []
decimal (suc w) n = elim (ltb n 10) [ true ↦ (48 + n) ∷ [] | false ↦ decimal w (n / 10) ++ ((48 + n % 10) ∷ []) ]

-- n written in w columns.
unfoldable pub column_of : ℕ → ℕ → List ℕ
column_of w n = replicate (w - length (decimal w n)) blank ++ decimal w n

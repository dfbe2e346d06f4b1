-- The children in a mask, in the order in which a traversal takes them.
use Rattle.std.specs.Prelude.{ℕ, zero, suc, ◌/◌, ◌%◌, List, [], ◌∷◌}

-- A place before others, if its binary digit is not 0.
unfoldable pub place_if : ℕ → ℕ → List ℕ → List ℕ
place_if zero p ps = ps
place_if (suc b) p ps = p ∷ ps

-- The places of the binary digits of a number that are not 0, least first: d digits are looked at, the lowest of which has place p.
unfoldable pub places : ℕ → ℕ → ℕ → List ℕ
places zero p m = []
places (suc d) p m = place_if (m % 2) p (places d (suc p) (m / 2))

-- The children in a mask, least first.
unfoldable pub children_in : ℕ → List ℕ
children_in m = places 32 0 m

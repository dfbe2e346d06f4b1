-- The tests of a search: whether an octant is entered.
use mathlib.Core.Bool.{Bool, true, false, ◌&&◌, true≢false}
use mathlib.Core.Path.{◌≡◌, refl, sym}

-- The three tests that come first, and the last one.
pub all_first : (a b c d : Bool) → ((a && b) && c) ≡ true → d ≡ ((a && b) && (c && d))
all_first true true true d e = refl
all_first true true false d e = absurd (true≢false (sym e))
all_first true false c d e = absurd (true≢false (sym e))
all_first false b c d e = absurd (true≢false (sym e))

pub not_first : (a b c d : Bool) → ((a && b) && c) ≡ false → false ≡ ((a && b) && (c && d))
not_first true true true d e = absurd (true≢false e)
not_first true true false d e = refl
not_first true false c d e = refl
not_first false b c d e = refl

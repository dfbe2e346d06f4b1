-- A good line has its tag and its codes in range (document 01, "Sheets").
use Prim.Native.Nat.{ℕ, zero, suc}
use mathlib.Core.Bool.{Bool, true, false, ◌&&◌, and-eq-true_iff}
use mathlib.Core.List.{List, [], ◌∷◌}
use Rattle.std.specs.Prelude.{Option, None, Some}
use mathlib.Core.Path.{◌≡◌, refl}
use Rattle.colour.specs.Colour.{is_tag, codes_fit}
use Rattle.sheet.specs.declared.line.Line.{Line}
use Rattle.sheet.specs.Line.{line_from, line_formed, line_numbers, line_of}
use Rattle.sheet.specs.Sheet.{line_part, lines_from, lines_by, line_count, lines_of}

-- What holds of a good line, of every good line of a list, and of a sheet's lines.
pub record GoodRange (l : Line) : Type 0 where
  pub tag : is_tag l.sample.tag ≡ true
  pub codes : codes_fit l.sample.colour ≡ true

unfoldable pub Ranged : Option Line → Type 0
Ranged None = Unit {0}
Ranged (Some l) = GoodRange l

unfoldable pub AllRanged : List (Option Line) → Type 0
AllRanged [] = Unit {0}
AllRanged (l ∷ rest) = Ranged l × AllRanged rest

-- What holds of no line, and of each line with tag and codes in range, holds of what a line's numbers say.
pub from_holds : (P : Option Line → Type 0) (t r g b : Option ℕ) (n : ℕ) → P None
    → ((l : Line) → l.name_length ≡ n → GoodRange l → P (Some l)) → P (line_from t r g b n)
unfolding line_from
from_holds P None r g b n none-does ranged-does = none-does
from_holds P (Some t) None g b n none-does ranged-does = none-does
from_holds P (Some t) (Some r) None b n none-does ranged-does = none-does
from_holds P (Some t) (Some r) (Some g) None n none-does ranged-does = none-does
from_holds P (Some t) (Some r) (Some g) (Some b) n none-does ranged-does = go (is_tag t && codes_fit (record { red = r; green = g; blue = b })) refl
  where
    go : (q : Bool) → (is_tag t && codes_fit (record { red = r; green = g; blue = b })) ≡ q
        → P (line_from (Some t) (Some r) (Some g) (Some b) n)
    go true e =
        let h = (and-eq-true_iff (is_tag t) _).0 e in
        rw (e, line_from) (ranged-does _ refl (record { tag = h.0; codes = h.1 }))
    go false e = rw (e, line_from) none-does

pub line_ranged : (s : List ℕ) → Ranged (line_of s)
unfolding Ranged line_of line_numbers
line_ranged s = go (line_formed s) refl
  where
    go : (q : Bool) → line_formed s ≡ q → Ranged (line_of s)
    go true e = rw (e, line_of) (from_holds Ranged _ _ _ _ _ tt (λ l n r. r))
    go false e = rw (e, line_of) tt

pub lines_ranged : (s : List ℕ) (k n : ℕ) → AllRanged (lines_from s k n)
unfolding AllRanged lines_from
lines_ranged s k zero = tt
lines_ranged s k (suc n) = (line_ranged (line_part s k), lines_ranged s (suc k) n)

by_ranged : (n : Option ℕ) (s : List ℕ) → AllRanged (lines_by n s)
unfolding AllRanged lines_by
by_ranged None s = tt
by_ranged (Some n) s = lines_ranged s 0 n

pub sheet_ranged : (s : List ℕ) → AllRanged (lines_of s)
unfolding lines_of
sheet_ranged s = by_ranged (line_count s) s

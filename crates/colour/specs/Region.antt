-- What a ball and a box hold, and how they lie to an octant of side s at low (document 01, "Picks").
use Rattle.std.specs.Prelude.{ℕ, ◌*◌, Bool, true, false, ◌&&◌, leb, ltb}
use Rattle.colour.specs.Channels.{Colour}
use Rattle.colour.specs.declared.Region.{Region}
use Rattle.colour.specs.declared.Region.TheVariants.{Ball, Box}
use Rattle.colour.specs.Colour.{code_in, colour_by, each, apart, distance}
use Rattle.colour.specs.Octant.{last_code}

-- The code from low to high that is closest to x.
unfoldable pub closest_code : ℕ → ℕ → ℕ → ℕ
closest_code low high x = elim (leb x low) [ true ↦ low | false ↦ elim (leb high x) [ true ↦ high | false ↦ x ] ]

-- The code from low to high that is farthest from x.
unfoldable pub farthest_code : ℕ → ℕ → ℕ → ℕ
farthest_code low high x = elim (leb (apart x low) (apart x high)) [ true ↦ high | false ↦ low ]

-- An octant's closest colour to c.
unfoldable pub closest : Colour → ℕ → Colour → Colour
closest c s low = colour_by (λ h. closest_code (code_in h low) (last_code s (code_in h low)) (code_in h c))

-- An octant's farthest colour from c.
unfoldable pub farthest : Colour → ℕ → Colour → Colour
farthest c s low = colour_by (λ h. farthest_code (code_in h low) (last_code s (code_in h low)) (code_in h c))

-- Whether a colour is in it. Ball: d² < r². Box: low ≤ code ≤ high in all channels.
unfoldable pub holds : Region → Colour → Bool
holds (Ball p r) x = ltb (distance p x) (r * r)
holds (Box lo hi) x = each (λ h. leb (code_in h lo) (code_in h x) && leb (code_in h x) (code_in h hi))

-- An octant overlaps a ball when its closest colour to the centre has d² < r², and a box when some colour is in it.
unfoldable pub overlaps : Region → ℕ → Colour → Bool
overlaps (Ball p r) s low = ltb (distance p (closest p.centre s low)) (r * r)
overlaps (Box lo hi) s low = each (λ h. leb (code_in h lo) (last_code s (code_in h low)) && leb (code_in h low) (code_in h hi))

-- It is inside a ball when its farthest colour has d² < r², and inside a box when all colours are in it.
unfoldable pub inside : Region → ℕ → Colour → Bool
inside (Ball p r) s low = ltb (distance p (farthest p.centre s low)) (r * r)
inside (Box lo hi) s low = each (λ h. leb (code_in h lo) (code_in h low) && leb (last_code s (code_in h low)) (code_in h hi))

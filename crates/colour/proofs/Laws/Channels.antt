-- What is true of the three channels, stated once over the channel, so that no other law is copied three times.
use Prim.Native.Nat.{ℕ, ◌+◌, ◌≤◌, ◌<◌}
use mathlib.Core.Bool.{Bool, true, false, ◌&&◌, and-false, and-eq-true_iff}
use mathlib.Core.Path.{◌≡◌, refl}
use mathlib.Core.Logic.{◌↔◌}
use native.Mathlib.Omega.{arith}
use lib.Dec.{leb, ltb}
use borrow.Author.Tests.{ltb-true, leb-true, lt-ltb, le-leb}
use Rattle.colour.specs.Channels.{Colour}
use Rattle.colour.specs.Colour.{Channel, Red, Green, Blue, code_in, colour_by, each, sum_of, is_code, codes_fit, wrapped, InRange}
use Rattle.colour.specs.Octant.{cube_holds}

-- A test holds in each channel exactly when it holds in every channel h.
pub each_every : (f : Channel → Bool) → (each f ≡ true) ↔ ((h : Channel) → f h ≡ true)
unfolding each
each_every f = (
  λ e. let rg = (and-eq-true_iff (f Red && f Green) (f Blue)).0 e in
      let r = (and-eq-true_iff (f Red) (f Green)).0 rg.0 in elim [ Red ↦ r.0 | Green ↦ r.1 | Blue ↦ rg.1 ],
  λ e. (and-eq-true_iff (f Red && f Green) (f Blue)).1 ((and-eq-true_iff (f Red) (f Green)).1 (e Red, e Green), e Blue),
)

-- One channel that says no settles it.
pub each_no : (f : Channel → Bool) (h : Channel) → f h ≡ false → each f ≡ false
unfolding each
each_no f Red e = rw e
each_no f Green e = rw (e, and-false (f Red))
each_no f Blue e = rw (e, and-false (f Red && f Green))

-- Tests that agree in every channel agree in each.
pub each_same : (f g : Channel → Bool) → ((h : Channel) → f h ≡ g h) → each f ≡ each g
unfolding each
each_same f g e = cc (e Red, e Green, e Blue)

-- A sum over the channels grows with each of its terms.
pub sum_grows : (f g : Channel → ℕ) → ((h : Channel) → f h ≤ g h) → sum_of f ≤ sum_of g
unfolding sum_of
sum_grows f g e = omega (arith, e Red, e Green, e Blue)

-- No term of it is more than the sum.
pub sum_term : (f : Channel → ℕ) (h : Channel) → f h ≤ sum_of f
unfolding sum_of
sum_term f Red = omega arith
sum_term f Green = omega arith
sum_term f Blue = omega arith

-- Sums with equal terms are equal.
pub sum_same : (f g : Channel → ℕ) → ((h : Channel) → f h ≡ g h) → sum_of f ≡ sum_of g
unfolding sum_of
sum_same f g e = cc (e Red, e Green, e Blue)

-- The colour with the code f h in each channel h has that code there.
pub code_by : (f : Channel → ℕ) (h : Channel) → code_in h (colour_by f) ≡ f h
unfolding code_in colour_by
code_by f Red = refl
code_by f Green = refl
code_by f Blue = refl

-- Colours with the same codes are the same.
pub same_codes : (a b : Colour) → ((h : Channel) → code_in h a ≡ code_in h b) → a ≡ b
unfolding code_in
same_codes a b e = λ i. record { red = e Red i; green = e Green i; blue = e Blue i }

-- A code lies in the half-open stretch of s codes from low.
pub record Among (s low x : ℕ) : Type 0 where
  pub least : low ≤ x
  pub below : x < low + s

-- A colour lies in the cube of side s at low exactly when each of its codes lies among the cube's.
pub cube_among : (s : ℕ) (low c : Colour) → (cube_holds s low c ≡ true) ↔ ((h : Channel) → Among s (code_in h low) (code_in h c))
unfolding cube_holds
cube_among s low c = (
  λ e h. let t = (and-eq-true_iff (leb (code_in h low) (code_in h c)) (ltb (code_in h c) (code_in h low + s))).0 ((each_every _).0 e h) in
      record { least = leb-true _ _ t.0; below = ltb-true _ _ t.1 },
  λ m. (each_every _).1 (λ h. (and-eq-true_iff (leb (code_in h low) (code_in h c)) (ltb (code_in h c) (code_in h low + s))).1 (le-leb _ _ (m h).least, lt-ltb _ _ (m h).below)),
)

-- "A code is a whole number 0..65,535": what a colour in range is.
pub fit_codes : (c : Colour) → (codes_fit c ≡ true) ↔ ((h : Channel) → code_in h c ≤ 65535)
unfolding codes_fit is_code
fit_codes c = (λ e h. leb-true _ _ ((each_every _).0 e h), λ e. (each_every _).1 (λ h. le-leb _ _ (e h)))

-- A colour in range stays as it is when its codes are brought into range.
pub wrapped_same : (c : Colour) → codes_fit c ≡ true → wrapped c ≡ c
unfolding wrapped
wrapped_same c e = same_codes (wrapped c) c (λ h. rw code_by (omega (arith, (fit_codes c).0 e h)))

-- What is brought into range is in range.
pub wrapped_range : (c : Colour) → InRange (wrapped c)
unfolding wrapped colour_by
wrapped_range c = record { red = omega arith; green = omega arith; blue = omega arith }

-- What the questions ask of a colour and what the functions require are the same.
pub in_range : (c : Colour) → codes_fit c ≡ true → InRange c
unfolding code_in
in_range c e = let code = (fit_codes c).0 e in record { red = code Red; green = code Green; blue = code Blue }

pub fit : (c : Colour) → InRange c → codes_fit c ≡ true
unfolding code_in
fit c i = (fit_codes c).1 (elim [ Red ↦ i.red | Green ↦ i.green | Blue ↦ i.blue ])

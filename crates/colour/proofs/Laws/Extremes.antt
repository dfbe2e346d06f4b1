-- Closest and farthest colours of a cube, and how a cube lies to a ball or a box (document 01, "Picks").
use Prim.Native.Nat.{ℕ, max, ◌+◌, ◌-◌, ◌/◌, ◌≤◌, ◌<◌}
use mathlib.Core.Bool.{Bool, true, false, ◌&&◌, and-eq-true_iff}
use mathlib.Core.Path.{◌≡◌, refl, sym, ◌∙◌}
use mathlib.Core.Logic.{◌↔◌}
use native.Mathlib.Nat.{le_trans, lt_of_le_of_lt}
use native.Mathlib.Omega.{arith}
use lib.Dec.{leb}
use borrow.Author.Tests.{ltb-true, leb-true, leb-false, lt-ltb, le-ltb, le-leb}
use Rattle.colour.specs.Channels.{Colour}
use Rattle.colour.specs.declared.Probe.{Probe}
use Rattle.colour.specs.declared.Region.{Region}
use Rattle.colour.specs.declared.Region.TheVariants.{Ball, Box}
use Rattle.colour.specs.Colour.{Channel, code_in, colour_by, each, apart, distance}
use Rattle.colour.specs.Octant.{cube_holds, last_code}
use Rattle.colour.specs.Region.{closest_code, farthest_code, closest, farthest, holds, overlaps, inside}
use Rattle.colour.specs.Query.{ordered}
use Rattle.colour.proofs.Laws.Distance.{square_most, distance_grows, distance_channel}
use Rattle.colour.proofs.Laws.Channels.{Among, each_every, code_by, cube_among}

-- A code r of a stretch of s codes from low such that no code y of the stretch is closer to x; and one such that none is farther.
pub record Closest (s low x r : ℕ) : Type 0 where
  pub among : Among s low r
  pub extreme : (y : ℕ) → Among s low y → apart x r ≤ apart x y

pub record Farthest (s low x r : ℕ) : Type 0 where
  pub among : Among s low r
  pub extreme : (y : ℕ) → Among s low y → apart x y ≤ apart x r

-- The closest code of a channel is such a code.
pub closest_code_lem : (s low x : ℕ) → 1 ≤ s → Closest s low x (closest_code low (last_code s low) x)
unfolding closest_code last_code apart
closest_code_lem s low x p = go (leb x low) refl (leb (last_code s low) x) refl
  where
    go : (a : Bool) → leb x low ≡ a → (b : Bool) → leb (last_code s low) x ≡ b → Closest s low x (closest_code low (last_code s low) x)
    go true e b f = rw (e, closest_code) (record { among = omega arith; extreme = λ y i. omega (arith, leb-true x low e) })
    go false e true f = rw (e, f, closest_code) (record { among = omega arith; extreme = λ y i. omega (arith, leb-true (last_code s low) x f) })
    go false e false f =
        rw (e, f, closest_code) (record { among = omega (arith, leb-false x low e, leb-false (last_code s low) x f); extreme = λ y i. omega arith })

-- No code of a stretch is farther from x than the farther of its two ends.
ends : (x first last y : ℕ) → first ≤ y → y ≤ last
    → (apart x first ≤ apart x last → apart x y ≤ apart x last) × (apart x last < apart x first → apart x y ≤ apart x first)
unfolding apart
ends x first last y a b = omega arith

-- The farthest code of a channel is such a code.
pub farthest_code_lem : (s low x : ℕ) → 1 ≤ s → Farthest s low x (farthest_code low (last_code s low) x)
unfolding farthest_code last_code
farthest_code_lem s low x p = go (leb (apart x low) (apart x (last_code s low))) refl
  where
    go : (a : Bool) → leb (apart x low) (apart x (last_code s low)) ≡ a → Farthest s low x (farthest_code low (last_code s low) x)
    go true e = rw (e, farthest_code) (record { among = omega arith; extreme = λ y i. (ends x low (last_code s low) y i.least (omega arith)).0 (leb-true _ _ e) })
    go false e = rw (e, farthest_code) (record { among = omega arith; extreme = λ y i. (ends x low (last_code s low) y i.least (omega arith)).1 (leb-false _ _ e) })

-- "Its closest colour": it is the cube's, and no colour of the cube is closer.
pub closest_colour : (p : Probe) (s : ℕ) (low : Colour) → 1 ≤ s
    → (cube_holds s low (closest p.centre s low) ≡ true) × ((x : Colour) → cube_holds s low x ≡ true → distance p (closest p.centre s low) ≤ distance p x)
unfolding closest
closest_colour p s low few =
    ((cube_among s low _).1 (λ h. (law h).among), λ x i. distance_grows p _ p x (λ h. (law h).extreme (code_in h x) ((cube_among s low x).0 i h)))
  where
    law : (h : Channel) → Closest s (code_in h low) (code_in h p.centre) (code_in h (closest p.centre s low))
    law h = rw code_by (closest_code_lem s (code_in h low) (code_in h p.centre) few)

-- "Its farthest": it is the cube's, and no colour of the cube is farther.
pub farthest_colour : (p : Probe) (s : ℕ) (low : Colour) → 1 ≤ s
    → (cube_holds s low (farthest p.centre s low) ≡ true) × ((x : Colour) → cube_holds s low x ≡ true → distance p x ≤ distance p (farthest p.centre s low))
unfolding farthest
farthest_colour p s low few =
    ((cube_among s low _).1 (λ h. (law h).among), λ x i. distance_grows p x p _ (λ h. (law h).extreme (code_in h x) ((cube_among s low x).0 i h)))
  where
    law : (h : Channel) → Farthest s (code_in h low) (code_in h p.centre) (code_in h (farthest p.centre s low))
    law h = rw code_by (farthest_code_lem s (code_in h low) (code_in h p.centre) few)

-- The two ends of a stretch of s codes lie s - 1 apart.
span : (s low x : ℕ) → s ≤ apart x low + apart x (low + s - 1) + 1
unfolding apart
span s low x = omega arith

-- The farthest code of a stretch is half its length away at least.
pub farthest_half : (s low x : ℕ) → 1 ≤ s → s / 2 ≤ apart x (farthest_code low (last_code s low) x)
farthest_half s low x p =
    let f = (farthest_code_lem s low x p).extreme in
    omega (arith, span s low x, f low (record { least = omega arith; below = omega arith }), f (low + s - 1) (record { least = omega arith; below = omega arith }))

-- So an octant is not inside a ball of a radius up to half its side.
pub half_outside : (p : Probe) (r s : ℕ) (low : Colour) → 1 ≤ s → r ≤ s / 2 → inside (Ball p r) s low ≡ false
unfolding inside farthest
half_outside p r s low few h = le-ltb _ _ (le_trans (square_most gap) (distance_channel p (farthest p.centre s low) Channel.Red))
  where
    gap : r ≤ apart (code_in Channel.Red p.centre) (code_in Channel.Red (farthest p.centre s low))
    gap = rw code_by (omega (arith, farthest_half s (code_in Channel.Red low) (code_in Channel.Red p.centre) few))

-- Two orders tested in each channel.
orders : (a b c d : Channel → ℕ) → (each (λ h. leb (a h) (b h) && leb (c h) (d h)) ≡ true) ↔ ((h : Channel) → (a h ≤ b h) × (c h ≤ d h))
orders a b c d = (
  λ e h. let t = (and-eq-true_iff (leb (a h) (b h)) (leb (c h) (d h))).0 ((each_every _).0 e h) in (leb-true _ _ t.0, leb-true _ _ t.1),
  λ m. (each_every _).1 (λ h. (and-eq-true_iff (leb (a h) (b h)) (leb (c h) (d h))).1 (le-leb _ _ (m h).0, le-leb _ _ (m h).1)),
)

-- What the tests of a box from lo to hi say: of a colour x, and of the octant of side s at low.
module _ (lo hi : Colour) where
  box_ordered : ordered lo hi ≡ true → (h : Channel) → code_in h lo ≤ code_in h hi
  unfolding ordered
  box_ordered e h = leb-true _ _ ((each_every _).0 e h)

  -- "low ≤ code ≤ high in all channels."
  pub box_holds : (x : Colour) → (holds (Box lo hi) x ≡ true) ↔ ((h : Channel) → (code_in h lo ≤ code_in h x) × (code_in h x ≤ code_in h hi))
  unfolding holds
  box_holds x = orders (λ h. code_in h lo) (λ h. code_in h x) (λ h. code_in h x) (λ h. code_in h hi)

  box_overlaps : (s : ℕ) (low : Colour)
      → (overlaps (Box lo hi) s low ≡ true) ↔ ((h : Channel) → (code_in h lo ≤ last_code s (code_in h low)) × (code_in h low ≤ code_in h hi))
  unfolding overlaps
  box_overlaps s low = orders (λ h. code_in h lo) (λ h. last_code s (code_in h low)) (λ h. code_in h low) (λ h. code_in h hi)

  box_inside : (s : ℕ) (low : Colour)
      → (inside (Box lo hi) s low ≡ true) ↔ ((h : Channel) → (code_in h lo ≤ code_in h low) × (last_code s (code_in h low) ≤ code_in h hi))
  unfolding inside
  box_inside s low = orders (λ h. code_in h lo) (λ h. code_in h low) (λ h. last_code s (code_in h low)) (λ h. code_in h hi)

-- "A box needs low ≤ high in each channel"; a ball needs nothing.
unfoldable pub proper : Region → Bool
proper (Ball p r) = true
proper (Box lo hi) = ordered lo hi

-- An octant that holds a colour of the ball or box overlaps it.
pub some_overlaps : (g : Region) (s : ℕ) (low : Colour) → 1 ≤ s → (x : Colour) → cube_holds s low x ≡ true → holds g x ≡ true → overlaps g s low ≡ true
unfolding overlaps holds last_code
some_overlaps (Ball p r) s low few x i e = lt-ltb _ _ (lt_of_le_of_lt ((closest_colour p s low few).1 x i) (ltb-true _ _ e))
some_overlaps (Box lo hi) s low few x i e = (box_overlaps lo hi s low).1 (λ h. omega (arith, (cube_among s low x).0 i h, (box_holds lo hi x).0 e h))

-- "An octant overlaps a ball when its closest colour to the centre has d² < r². For a box: some colour in it." In both, it overlaps exactly
-- when some colour lies in the octant and in the ball or box.
pub overlaps_some : (g : Region) (s : ℕ) (low : Colour) → 1 ≤ s → proper g ≡ true
    → (overlaps g s low ≡ true) ↔ ((x : Colour) × (cube_holds s low x ≡ true) × (holds g x ≡ true))
unfolding overlaps holds proper last_code
overlaps_some (Ball p r) s low few o =
    (λ e. (closest p.centre s low, (closest_colour p s low few).0, e), λ e. some_overlaps (Ball p r) s low few e.0 e.1 e.2)
overlaps_some (Box lo hi) s low few o = (
  λ e. let x : Colour = colour_by (λ h. max (code_in h lo) (code_in h low)) in (
    x,
    (cube_among s low x).1 (λ h. rw code_by (omega (arith, (box_overlaps lo hi s low).0 e h))),
    (box_holds lo hi x).1 (λ h. rw code_by (omega (arith, (box_overlaps lo hi s low).0 e h, box_ordered lo hi o h))),
  ),
  λ e. some_overlaps (Box lo hi) s low few e.0 e.1 e.2,
)

-- So none of the colours of an octant that does not overlap is in the ball or box.
pub misses_all : (g : Region) (s : ℕ) (low : Colour) → 1 ≤ s → overlaps g s low ≡ false → (x : Colour) → cube_holds s low x ≡ true → holds g x ≡ false
misses_all g s low p e x i = go (holds g x) refl
  where
    go : (b : Bool) → holds g x ≡ b → b ≡ false
    go true f = sym (some_overlaps g s low p x i f) ∙ e
    go false f = refl

-- "And is inside when its farthest has. For a box: all colours in it." In both, it is inside exactly when the ball or box holds all its colours.
pub inside_all : (g : Region) (s : ℕ) (low : Colour) → 1 ≤ s
    → (inside g s low ≡ true) ↔ ((x : Colour) → cube_holds s low x ≡ true → holds g x ≡ true)
unfolding inside holds last_code
inside_all (Ball p r) s low few =
    let t = farthest_colour p s low few in
    (λ e x i. lt-ltb _ _ (lt_of_le_of_lt (t.1 x i) (ltb-true _ _ e)), λ e. e (farthest p.centre s low) t.0)
inside_all (Box lo hi) s low few = (
  λ e x i. (box_holds lo hi x).1 (λ h. omega (arith, (cube_among s low x).0 i h, (box_inside lo hi s low).0 e h)),
  λ e. let last : Colour = colour_by (λ h. last_code s (code_in h low)) in
      let a = (box_holds lo hi low).0 (e low ((cube_among s low low).1 (λ h. omega arith))) in
      let b = (box_holds lo hi last).0 (e last ((cube_among s low last).1 (λ h. rw code_by (omega arith)))) in
      (box_inside lo hi s low).1 (λ h. ((a h).0, rw code_by at (b h).1)),
)

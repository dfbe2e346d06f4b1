-- The closest d² of an octant's children, by what its own channels and its far halves add: the half that a code is in, or closer to, is as far as the
-- whole stretch, and the other half starts past the middle.
use Prim.Native.Nat.{ℕ, zero, suc, ◌+◌, ◌-◌, ◌*◌, ◌/◌, ◌%◌, ◌^◌, ◌≤◌, ◌<◌}
use mathlib.Core.Bool.{Bool, true, false}
use mathlib.Core.Path.{◌≡◌, refl, sym, ap, ap₂, ◌∙◌}
use native.Mathlib.Nat.{zero-add, div-one}
use native.Mathlib.Omega.{arith}
use borrow.Author.Tests.{leb-true, leb-false, le-leb, lt-leb, lt-ltb}
use lib.Bits.{bit_xor, differ}
use lib.Dec.{leb}
use Rattle.colour.specs.Channels.{Colour}
use Rattle.colour.specs.declared.Probe.{Probe}
use Rattle.traversal.specs.Squares.{Squares}
use Rattle.colour.specs.Colour.{Channel, Red, Green, Blue, code_in, colour_by, sum_of, black, apart, distance}
use Rattle.colour.specs.Probe.{Fine}
use Rattle.colour.specs.Octant.{bit_weight, last_code, children, child_low, depths, side_at, root_cube}
use Rattle.colour.specs.Region.{closest_code, closest}
use Rattle.colour.specs.Mask.{bit_if, by_bit, mask_of}
use Rattle.colour.specs.Steps.{closest_square}
use Rattle.colour.specs.Nearby.{closest_child}
use Rattle.traversal.specs.Nearby.{square_in, squares_by, sum_by, near_of, far_gap, far_square, far_of, turned_by, turn_within, turn_mask, NearFar, SmallSquares}
use Rattle.colour.proofs.Laws.Channels.{sum_same}
use Rattle.colour.proofs.Laws.Octants.{child_code}
use Rattle.colour.proofs.Laws.Gaps.{closest_low, closest_high, closest_self}
use Rattle.colour.proofs.Laws.Distance.{square_most}
use Rattle.colour.proofs.Laws.Halves.{closest_shares, bit_no}
use Rattle.colour.proofs.Laws.Mask.{bit_most}
use Rattle.traversal.proofs.Laws.Bits.{xor_odd, xor_half}

-- How far a stretch of s codes from low is from x.
gap_is : (x s low : ℕ) → 1 ≤ s → apart x (closest_code low (last_code s low) x) ≡ (low - x) + (suc x - (low + s))
unfolding last_code apart
gap_is x s low p = go (leb x low) refl (leb (low + s - 1) x) refl
  where
    go : (a : Bool) → leb x low ≡ a → (b : Bool) → leb (low + s - 1) x ≡ b → apart x (closest_code low (low + s - 1) x) ≡ (low - x) + (suc x - (low + s))
    go true e b f = rw (closest_low low (low + s - 1) x (leb-true x low e)) (omega (arith, leb-true x low e))
    go false e true f =
        let l : low < x = leb-false x low e in
        let h : low + s - 1 ≤ x = leb-true (low + s - 1) x f in
        rw (closest_high low (low + s - 1) x l h) (omega arith)
    go false e false f =
        let l : low < x = leb-false x low e in
        let h : x < low + s - 1 = leb-false (low + s - 1) x f in
        rw (closest_self low (low + s - 1) x l h) (omega arith)

square_is : (x s low : ℕ) → 1 ≤ s → closest_square x s low ≡ ((low - x) + (suc x - (low + s))) * ((low - x) + (suc x - (low + s)))
unfolding closest_square
square_is x s low p = ap (λ (n : ℕ). n * n) (gap_is x s low p)

-- How far a code is from the far half, as two differences of which one is 0.
pub far_apart : (x middle : ℕ) → (x + 1 - middle) + (middle - x) ≡ far_gap x middle
unfolding far_gap
far_apart x middle = go (leb middle x) refl
  where
    go : (t : Bool) → leb middle x ≡ t → (x + 1 - middle) + (middle - x) ≡ far_gap x middle
    go true f = let h : middle ≤ x = leb-true middle x f in rw (f, far_gap) (omega arith)
    go false f = let h : x < middle = leb-false middle x f in rw (f, far_gap) (omega arith)

-- The bit of the half that a code is in or closer to.
unfoldable near_bit : ℕ → ℕ → ℕ
near_bit x middle = bit_if (leb middle x) 1

near_yes : (x middle : ℕ) → middle ≤ x → near_bit x middle ≡ 1
unfolding near_bit bit_if
near_yes x middle h = rw (le-leb middle x h)

near_no : (x middle : ℕ) → x < middle → near_bit x middle ≡ 0
unfolding near_bit bit_if
near_no x middle h = rw (lt-leb middle x h)

-- One channel: s + s codes from low, and its halves.
module _ (x s low : ℕ) (some : 1 ≤ s) where
  half_near : (b : ℕ) → b ≡ near_bit x (low + s) → closest_square x s (low + b * s) ≡ closest_square x (s + s) low
  half_near b e = square_is x s (low + b * s) some ∙ ap (λ (n : ℕ). n * n) (go (leb (low + s) x) refl) ∙ sym (square_is x (s + s) low (omega arith))
    where
      go : (t : Bool) → leb (low + s) x ≡ t → (low + b * s - x) + (suc x - (low + b * s + s)) ≡ (low - x) + (suc x - (low + (s + s)))
      go true f =
          let h : low + s ≤ x = leb-true (low + s) x f in
          let one : b ≡ 1 = e ∙ near_yes x (low + s) h in
          rw one (omega arith)
      go false f =
          let h : x < low + s = leb-false (low + s) x f in
          let none : b ≡ 0 = e ∙ near_no x (low + s) h in
          rw none (omega arith)

  half_far : (b : ℕ) → b + near_bit x (low + s) ≡ 1 → closest_square x s (low + b * s) ≡ far_square x (low + s)
  unfolding far_square
  half_far b e = square_is x s (low + b * s) some ∙ ap (λ (n : ℕ). n * n) (go (leb (low + s) x) refl)
    where
      go : (t : Bool) → leb (low + s) x ≡ t → (low + b * s - x) + (suc x - (low + b * s + s)) ≡ far_gap x (low + s)
      go true f =
          let h : low + s ≤ x = leb-true (low + s) x f in
          let none : b ≡ 0 = omega (arith, e, near_yes x (low + s) h) in
          rw none (omega (arith, far_apart x (low + s)))
      go false f =
          let h : x < low + s = leb-false (low + s) x f in
          let one : b ≡ 1 = omega (arith, e, near_no x (low + s) h) in
          rw one (omega (arith, far_apart x (low + s)))

-- The closest child is one of the eight.
pub closest_child_small : (c : Colour) (s : ℕ) (low : Colour) → closest_child c s low < 8
unfolding closest_child sum_of bit_weight
closest_child_small c s low =
    let past : Channel → Bool = λ h. leb (code_in h low + s) (code_in h c) in
    omega (arith, bit_most (past Red) 1, bit_most (past Green) 2, bit_most (past Blue) 4)

-- Its bits.
bits_of : (r g b : Bool) (h : Channel) → (bit_if r 1 + bit_if g 2 + bit_if b 4) / bit_weight h % 2 ≡ bit_if (elim h [ Red ↦ r | Green ↦ g | Blue ↦ b ]) 1
unfolding bit_weight bit_if
bits_of true true true = elim [ Red ↦ refl | Green ↦ refl | Blue ↦ refl ]
bits_of true true false = elim [ Red ↦ refl | Green ↦ refl | Blue ↦ refl ]
bits_of true false true = elim [ Red ↦ refl | Green ↦ refl | Blue ↦ refl ]
bits_of true false false = elim [ Red ↦ refl | Green ↦ refl | Blue ↦ refl ]
bits_of false true true = elim [ Red ↦ refl | Green ↦ refl | Blue ↦ refl ]
bits_of false true false = elim [ Red ↦ refl | Green ↦ refl | Blue ↦ refl ]
bits_of false false true = elim [ Red ↦ refl | Green ↦ refl | Blue ↦ refl ]
bits_of false false false = elim [ Red ↦ refl | Green ↦ refl | Blue ↦ refl ]

first_bit : (c : Colour) (s : ℕ) (low : Colour) (h : Channel) → closest_child c s low / bit_weight h % 2 ≡ near_bit (code_in h c) (code_in h low + s)
unfolding closest_child sum_of bit_weight near_bit code_in
first_bit c s low Red = bits_of (leb (low.red + s) c.red) (leb (low.green + s) c.green) (leb (low.blue + s) c.blue) Red
first_bit c s low Green = bits_of (leb (low.red + s) c.red) (leb (low.green + s) c.green) (leb (low.blue + s) c.blue) Green
first_bit c s low Blue = bits_of (leb (low.red + s) c.red) (leb (low.green + s) c.green) (leb (low.blue + s) c.blue) Blue

-- The bit of a channel.
xor_bit : (a b : ℕ) (h : Channel) → bit_xor a b / bit_weight h % 2 ≡ differ (a / bit_weight h % 2) (b / bit_weight h % 2)
unfolding bit_weight
xor_bit a b Red = ap (λ (n : ℕ). n % 2) (div-one (bit_xor a b)) ∙ xor_odd a b ∙ sym (ap₂ (λ (x y : ℕ). differ (x % 2) (y % 2)) (div-one a) (div-one b))
xor_bit a b Green = ap (λ (n : ℕ). n % 2) (xor_half a b) ∙ xor_odd (a / 2) (b / 2)
xor_bit a b Blue =
    ap (λ (n : ℕ). n % 2) (quarter (bit_xor a b) ∙ ap (λ (n : ℕ). n / 2) (xor_half a b) ∙ xor_half (a / 2) (b / 2)) ∙ xor_odd (a / 2 / 2) (b / 2 / 2)
    ∙ sym (ap₂ (λ (x y : ℕ). differ (x % 2) (y % 2)) (quarter a) (quarter b))
  where
    quarter : (n : ℕ) → n / 4 ≡ n / 2 / 2
    quarter n = omega arith

bit_small : (t : Bool) → bit_if t 1 < 2
unfolding bit_if
bit_small true = omega arith
bit_small false = omega arith

near_bit_small : (x middle : ℕ) → near_bit x middle < 2
unfolding near_bit
near_bit_small x middle = bit_small (leb middle x)

differ_none : (x : ℕ) → differ x 0 ≡ x
differ_none zero = refl
differ_none (suc x) = refl

differ_one : (x : ℕ) → x < 2 → differ x 1 + x ≡ 1
differ_one zero h = refl
differ_one (suc zero) h = refl
differ_one (suc (suc x)) h = absurd (omega arith)

-- A half, by whether it is the other one.
half_picked : (x s low b : ℕ) → 1 ≤ s → b < 2
    → closest_square x s (low + differ (near_bit x (low + s)) b * s) ≡ by_bit b (closest_square x (s + s) low) (far_square x (low + s))
unfolding by_bit
half_picked x s low zero some h = half_near x s low some _ (differ_none _)
half_picked x s low (suc zero) some h = half_far x s low some _ (differ_one _ (near_bit_small x (low + s)))
half_picked x s low (suc (suc b)) some h = absurd (omega arith)

-- Squares, channel by channel.
squares_same : (f g : Channel → ℕ) → ((h : Channel) → f h ≡ g h) → squares_by f ≡ squares_by g
unfolding squares_by
squares_same f g e = cc (e Red, e Green, e Blue)

square_by : (f : Channel → ℕ) (h : Channel) → square_in h (squares_by f) ≡ f h
unfolding square_in squares_by
square_by f Red = refl
square_by f Green = refl
square_by f Blue = refl

-- What a child of side s adds, by what its parent adds and the parent's far halves: the one law of the geometry.
pub child_near : (p : Probe) (s : ℕ) (low : Colour) (m : ℕ) → 1 ≤ s
    → near_of p s (child_low s (bit_xor (closest_child p.centre s low) m) low) ≡ turned_by (near_of p (s + s) low) (far_of p s low) m
unfolding near_of far_of turned_by
child_near p s low m some =
    squares_same _ _
    (λ h.
    let c : Colour = p.centre in
    let first : ℕ = closest_child c s low in
    let bit : ℕ = m / bit_weight h % 2 in
    ap (closest_square (code_in h c) s)
    (child_code s (bit_xor first m) low h
    ∙ ap (λ (n : ℕ). code_in h low + n * s) (xor_bit first m h ∙ ap (λ (n : ℕ). differ n bit) (first_bit c s low h)))
    ∙ half_picked (code_in h c) s (code_in h low) bit some (omega arith)
    ∙ sym (ap₂ (by_bit bit) (square_by (λ g. closest_square (code_in g c) (s + s) (code_in g low)) h) (square_by (λ g. far_square (code_in g c) (code_in g low + s)) h)))

-- The three add up to their sum.
pub sum_is : (v : Squares) → v.red + v.green + v.blue ≡ sum_by v
unfolding sum_by sum_of square_in
sum_is v = refl

pub sum_fits : {v : Squares} → SmallSquares v → v.red + v.green + v.blue < 2 ^ 64
sum_fits s = omega arith

-- d² to an octant's closest colour is their sum.
pub near_sum : (p : Probe) (s : ℕ) (low : Colour) → sum_by (near_of p s low) ≡ distance p (closest p.centre s low)
unfolding sum_by near_of
near_sum p s low = sum_same _ _ (λ h. square_by (λ g. closest_square (code_in g p.centre) s (code_in g low)) h) ∙ sym (closest_shares p s low)

-- At turn 0 nothing is turned.
pub turned_none : (near far : Squares) → turned_by near far 0 ≡ near
unfolding turned_by squares_by by_bit square_in bit_weight
turned_none near far = refl

-- A half is no closer than the whole, and no square is too large.
far_more : (x s low : ℕ) → 1 ≤ s → closest_square x (s + s) low ≤ far_square x (low + s)
unfolding far_square
far_more x s low some = rw (square_is x (s + s) low (omega arith)) (square_most (omega (arith, far_apart x (low + s))))

far_most : (x middle : ℕ) → x ≤ 65535 → middle ≤ 65536 → far_square x middle ≤ 4294967296
unfolding far_square
far_most x middle a b = square_most {m = 65536} (omega (arith, far_apart x middle))

pub near_far : (p : Probe) (s : ℕ) (low : Colour) → Fine p → ((h : Channel) → (1 ≤ s) × (code_in h low + (s + s) ≤ 65536))
    → NearFar (near_of p (s + s) low) (far_of p s low)
unfolding near_of far_of squares_by code_in
near_far p s low fine room =
    let c : Colour = p.centre in
    let i = fine.centre in
    record {
      red = far_more c.red s low.red (room Red).0;
      green = far_more c.green s low.green (room Green).0;
      blue = far_more c.blue s low.blue (room Blue).0;
      small =
          record {
            red = far_most c.red (low.red + s) i.red (omega (arith, (room Red).1));
            green = far_most c.green (low.green + s) i.green (omega (arith, (room Green).1));
            blue = far_most c.blue (low.blue + s) i.blue (omega (arith, (room Blue).1));
          };
    }

-- Whichever is picked is no more than the far one.
by_bit_most : (b near far : ℕ) → near ≤ far → by_bit b near far ≤ far
unfolding by_bit
by_bit_most zero near far h = h
by_bit_most (suc b) near far h = omega arith

pub turned_small : (near far : Squares) (m : ℕ) → NearFar near far → SmallSquares (turned_by near far m)
unfolding turned_by squares_by square_in
turned_small near far m r =
    record {
      red = omega (arith, by_bit_most (m / bit_weight Red % 2) near.red far.red r.red, r.small.red);
      green = omega (arith, by_bit_most (m / bit_weight Green % 2) near.green far.green r.green, r.small.green);
      blue = omega (arith, by_bit_most (m / bit_weight Blue % 2) near.blue far.blue r.blue, r.small.blue);
    }

-- The mask of the turns, bit by bit.
module _ (most : ℕ) (near far : Squares) where
  abbrev bit : ℕ → ℕ → ℕ → ℕ → ℕ
  bit red green blue w = bit_if (leb (red + green + blue) most) w

  pub turn_bits : bit far.red near.green near.blue 2 + bit near.red far.green near.blue 4 + bit far.red far.green near.blue 8
      + bit near.red near.green far.blue 16 + bit far.red near.green far.blue 32 + bit near.red far.green far.blue 64
      + bit far.red far.green far.blue 128 ≡ turn_mask most near far
  unfolding turn_mask turn_within mask_of children bit_if sum_by sum_of turned_by squares_by square_in by_bit bit_weight
  turn_bits = simp zero-add

  -- None, if even the closest far half is past it.
  pub turns_none : (least : ℕ) → least ≤ far.red → least ≤ far.green → least ≤ far.blue → most < least → 0 ≡ turn_mask most near far
  turns_none least a b c l =
      let no : (n w : ℕ) → most < n → 0 ≡ bit_if (leb n most) w = λ n w h. bit_no w (lt-leb n most h) in
      omega (
        arith,
        turn_bits,
        no (far.red + near.green + near.blue) 2 (omega arith),
        no (near.red + far.green + near.blue) 4 (omega arith),
        no (far.red + far.green + near.blue) 8 (omega arith),
        no (near.red + near.green + far.blue) 16 (omega arith),
        no (far.red + near.green + far.blue) 32 (omega arith),
        no (near.red + far.green + far.blue) 64 (omega arith),
        no (far.red + far.green + far.blue) 128 (omega arith),
      )

  -- A turn past the first that is not in it is farther.
  pub turn_farther : (m : ℕ) → 1 ≤ m → turn_within most near far m ≡ false → most < sum_by (turned_by near far m)
  unfolding turn_within
  turn_farther m h e = leb-false _ _ (rw (lt-ltb 0 m h) at e)

-- The channels of a turn.
pub turned_is : (near far : Squares) (m : ℕ) {red green blue : ℕ} → red ≡ by_bit (m % 2) near.red far.red → green ≡ by_bit (m / 2 % 2) near.green far.green
    → blue ≡ by_bit (m / 4 % 2) near.blue far.blue → record { red = red; green = green; blue = blue } ≡ turned_by near far m
unfolding turned_by squares_by square_in bit_weight
turned_is near far m r g b = cc (r ∙ ap (λ (n : ℕ). by_bit (n % 2) near.red far.red) (sym (div-one m)), g, b)

-- The root holds every colour: it adds nothing.
none_near : (x : ℕ) → x ≤ 65535 → 0 ≡ closest_square x 65536 0
none_near x h =
    let e : (0 - x) + (suc x - (0 + 65536)) ≡ 0 = omega arith in
    sym (square_is x 65536 0 (omega arith) ∙ ap (λ (n : ℕ). n * n) e)

pub root_near : (p : Probe) → Fine p → record { red = 0; green = 0; blue = 0 } ≡ near_of p root_cube.side root_cube.low
unfolding root_cube side_at depths black colour_by near_of squares_by code_in
root_near p fine =
    let i = fine.centre in
    cc (none_near p.centre.red i.red, none_near p.centre.green i.green, none_near p.centre.blue i.blue)

-- Octants (document 01, "Colours and octants"): where they lie, that a child's bits are halves, that the eight children of an octant share
-- out its colours, and that each colour lies in one octant of each side.
use Prim.Native.Nat.{ℕ, zero, suc, ◌+◌, ◌-◌, ◌*◌, ◌/◌, ◌%◌, ◌^◌, ◌≤◌, ◌<◌}
use mathlib.Core.Bool.{true, ◌&&◌}
use mathlib.Core.Path.{◌≡◌, refl, sym, ap, ap₂, ◌∙◌}
use mathlib.Core.Logic.{◌↔◌}
use native.Mathlib.Nat.{mul-add, add-mul, two-pow-succ, mul-mod_left, mul-le-mul_right, zero-add, div-add-mod', div-eq_of_lt-le, div-mul-le_self, lt-div-mul-add, le-div_iff_mul-le, div-lt_iff_lt-mul}
use native.Mathlib.Omega.{arith}
use lib.Dec.{leb-zero, leb-suc-suc}
use lib.Pow.{pow_pos}
use Rattle.colour.specs.Channels.{Colour}
use Rattle.colour.specs.Colour.{Channel, code_in, sum_of, is_code, codes_fit, black}
use Rattle.colour.specs.Octant.{depths, cube_holds, bit_weight, bit_at, child_number, children, child_low, Octant, root, child}
use Rattle.colour.proofs.Laws.Channels.{Among, each_same, code_by, same_codes, cube_among, fit_codes}

-- q pieces of twice the side p, and b of the side p.
pieces : (p q b : ℕ) → q * (p + p) + b * p ≡ (q + q + b) * p
pieces p q b = simp (mul-add, add-mul)

-- A multiple of 2 ^ suc j, and b pieces of side 2 ^ j above it.
above : (j low b : ℕ) → low % 2 ^ suc j ≡ 0 → low + b * 2 ^ j ≡ (low / 2 ^ suc j + low / 2 ^ suc j + b) * 2 ^ j
above j low b m =
    let e : low ≡ low / 2 ^ suc j * (2 ^ j + 2 ^ j) = omega (arith, div-add-mod' low (2 ^ suc j), ap (λ (s : ℕ). low / 2 ^ suc j * s) (two-pow-succ j)) in
    ap (λ (n : ℕ). n + b * 2 ^ j) e ∙ pieces (2 ^ j) (low / 2 ^ suc j) b

-- "Half-open: each code falls in the lower or upper half." Of 2 ^ suc j codes from low, those with the bit b are the 2 ^ j from low + b * 2 ^ j.
module _ (j low x : ℕ) (m : low % 2 ^ suc j ≡ 0) where
  -- A code of the stretch lies in the half of its bit.
  pub bit_half : Among (2 ^ suc j) low x → Among (2 ^ j) (low + bit_at j x * 2 ^ j) x
  unfolding bit_at
  bit_half i =
      let q : ℕ = low / 2 ^ suc j in
      let over : q + q + 0 ≤ x / 2 ^ j = (le-div_iff_mul-le (pow_pos j)).1 (omega (arith, above j low 0 m)) in
      let under : x / 2 ^ j < q + q + 2 = (div-lt_iff_lt-mul (pow_pos j)).1 (omega (arith, above j low 2 m, two-pow-succ j)) in
      let e : q + q + x / 2 ^ j % 2 ≡ x / 2 ^ j = omega arith in
      let f : low + x / 2 ^ j % 2 * 2 ^ j ≡ x / 2 ^ j * 2 ^ j = above j low (x / 2 ^ j % 2) m ∙ ap (λ (n : ℕ). n * 2 ^ j) e in
      record { least = omega (arith, div-mul-le_self x (2 ^ j)); below = omega (arith, lt-div-mul-add {a = x} (pow_pos j)) }

  -- A code of the half b lies in the stretch, and its bit is b.
  pub half_bit : (b : ℕ) → b < 2 → Among (2 ^ j) (low + b * 2 ^ j) x → (Among (2 ^ suc j) low x) × (bit_at j x ≡ b)
  unfolding bit_at
  half_bit b h i =
      let q : ℕ = low / 2 ^ suc j in
      let e : x / 2 ^ j ≡ q + q + b = div-eq_of_lt-le (2 ^ j) (omega (arith, above j low b m)) (omega (arith, above j low b m, add-mul (q + q + b) 1 (2 ^ j))) in
      let f : b * 2 ^ j ≤ 1 * 2 ^ j = mul-le-mul_right (2 ^ j) (omega arith) in
      (record { least = omega arith; below = omega (arith, two-pow-succ j) }, omega arith)

  -- "A bit being 1 for the upper half."
  pub bit_upper : Among (2 ^ suc j) low x → (bit_at j x ≡ 1) ↔ (low + 2 ^ j ≤ x)
  bit_upper i = (
    λ e. omega (arith, (bit_half i).least, ap (λ (n : ℕ). n * 2 ^ j) e),
    λ h. (half_bit 1 (omega arith) (record { least = omega arith; below = omega (arith, two-pow-succ j) })).1,
  )

-- A bit's piece is no longer than the side.
pub bit_piece : (n s : ℕ) → n % 2 * s ≤ s
bit_piece n s = omega (arith, mul-le-mul_right {m = n % 2} {n = 1} s (omega arith))

-- Where an octant lies: its side is one of the sides 2 ^ 0 to 2 ^ 16, its least codes are multiples of the side, and it stays within the root.
pub record Lies (j : ℕ) (low : Colour) : Type 0 where
  pub side : j ≤ 16
  pub multiple : (h : Channel) → code_in h low % 2 ^ j ≡ 0
  pub fits : (h : Channel) → code_in h low + 2 ^ j ≤ 65536

-- The least code of a child.
pub child_code : (s k : ℕ) (low : Colour) (h : Channel) → code_in h (child_low s k low) ≡ code_in h low + k / bit_weight h % 2 * s
unfolding child_low
child_code s k low h = code_by (λ g. code_in g low + k / bit_weight g % 2 * s) h

-- The root's least codes are 0.
black_code : (h : Channel) → code_in h black ≡ 0
unfolding black
black_code h = code_by (λ g. 0) h

-- Every octant lies so. (The other way round is lies-octant, below.)
pub octant_lies : {j : ℕ} {low : Colour} → Octant j low → Lies j low
unfolding depths
octant_lies root = record { side = omega arith; multiple = λ h. rw black_code; fits = λ h. rw black_code (omega arith) }
octant_lies (child {j} {low} k b o) =
    let l : Lies (suc j) low = octant_lies o in
    record {
      side = omega (arith, l.side);
      multiple = λ h. rw (child_code, above j (code_in h low) (k / bit_weight h % 2) (l.multiple h)) (mul-mod_left _ _);
      fits = λ h. rw child_code (omega (arith, l.fits h, two-pow-succ j, bit_piece (k / bit_weight h) (2 ^ j)));
    }

-- "Child number = red bit + 2 × green bit + 4 × blue bit": its binary digits are the channels' bits.
pub child_bit : (j : ℕ) (c : Colour) (h : Channel) → child_number j c / bit_weight h % 2 ≡ bit_at j (code_in h c)
unfolding child_number sum_of bit_weight bit_at
child_bit j c Channel.Red = omega arith
child_bit j c Channel.Green = omega arith
child_bit j c Channel.Blue = omega arith

-- The children are 0 to 7.
pub child_small : (j : ℕ) (c : Colour) → child_number j c < children
unfolding child_number sum_of bit_weight bit_at children
child_small j c = omega arith

-- A number below 8 whose binary digits are the channels' bits is the child number.
child_is : (j : ℕ) (c : Colour) (k : ℕ) → k < children → ((h : Channel) → bit_at j (code_in h c) ≡ k / bit_weight h % 2) → child_number j c ≡ k
unfolding child_number sum_of bit_weight children
child_is j c k b e = omega (arith, e Channel.Red, e Channel.Green, e Channel.Blue)

-- "An octant of side s > 1 has eight children of side s/2, half-open." The colours of child k are exactly those of the octant whose child
-- number is k; so each colour of the octant lies in one of the eight children, and they hold no other.
pub child_holds : {j : ℕ} {low : Colour} → Octant (suc j) low → (c : Colour) (k : ℕ) → k < children
    → (cube_holds (2 ^ j) (child_low (2 ^ j) k low) c ≡ true) ↔ ((cube_holds (2 ^ suc j) low c ≡ true) × (child_number j c ≡ k))
child_holds {j} {low} o c k b = (
  λ e. let t : (h : Channel) → (Among (2 ^ suc j) (code_in h low) (code_in h c)) × (bit_at j (code_in h c) ≡ k / bit_weight h % 2) =
      λ h. half_bit j (code_in h low) (code_in h c) (l.multiple h) (k / bit_weight h % 2) (omega arith) (rw child_code at ((cube_among _ _ c).0 e h)) in
      ((cube_among _ low c).1 (λ h. (t h).0), child_is j c k b (λ h. (t h).1)),
  λ e. (cube_among _ _ c).1 (λ h. rw (child_code, ← e.1, child_bit) (bit_half j (code_in h low) (code_in h c) (l.multiple h) ((cube_among _ low c).0 e.0 h))),
)
  where
    l : Lies (suc j) low
    l = octant_lies o

-- "The root octant is all colours": it holds those whose codes are all up to 65,535.
pub root_holds : (c : Colour) → cube_holds (2 ^ 16) black c ≡ codes_fit c
unfolding cube_holds codes_fit is_code
root_holds c = each_same _ _ (λ h. rw black_code (ap₂ ◌&&◌ (leb-zero (code_in h c)) (leb-suc-suc (code_in h c) 65535)))

-- The child in which a colour of the octant lies.
pub child_of : {j : ℕ} {low : Colour} → Octant (suc j) low → (c : Colour) → cube_holds (2 ^ suc j) low c ≡ true
    → (child_number j c < children) × (cube_holds (2 ^ j) (child_low (2 ^ j) (child_number j c) low) c ≡ true)
child_of {j} o c e = (child_small j c, (child_holds o c (child_number j c) (child_small j c)).1 (e, refl))

-- A colour in an octant of side 2 ^ j.
pub record In (j : ℕ) (low c : Colour) : Type 0 where
  pub octant : Octant j low
  pub held : cube_holds (2 ^ j) low c ≡ true

-- A colour in range is followed from the root down to the octant that holds it, d sides below.
octant_below : (c : Colour) → codes_fit c ≡ true → (d j : ℕ) → d + j ≡ 16 → (low : Colour) × In j low c
unfolding depths
octant_below c f zero j e = (black, rw (sym (zero-add j) ∙ e) (record { octant = root; held = root_holds c ∙ f }))
octant_below c f (suc d) j e =
    let (low, i) = octant_below c f d (suc j) (omega arith) in
    let t = child_of i.octant c i.held in
    (child_low (2 ^ j) (child_number j c) low, record { octant = child (child_number j c) t.0 i.octant; held = t.1 })

-- So for each j up to 16 there is an octant of side 2 ^ j that holds the colour.
pub octant_of : (c : Colour) → codes_fit c ≡ true → (j : ℕ) → j ≤ 16 → (low : Colour) × In j low c
octant_of c f j h = octant_below c f (16 - j) j (omega arith)

-- A code lies in a stretch of s codes that starts at a multiple of s exactly when the stretch starts at the last such multiple up to the code.
starts : (s low x : ℕ) → 0 < s → low % s ≡ 0 → (Among s low x) ↔ (low ≡ x / s * s)
starts s low x p m =
    let e : low ≡ low / s * s = omega (arith, div-add-mod' low s) in (
      λ i. let q : x / s ≡ low / s = div-eq_of_lt-le s (omega arith) (omega (arith, add-mul (low / s) 1 s)) in e ∙ ap (λ (n : ℕ). n * s) (sym q),
      λ f. record { least = omega (arith, div-mul-le_self x s); below = omega (arith, lt-div-mul-add {a = x} p) },
    )

-- The octant of side 2 ^ j that holds a colour is the one that starts, in each channel, at the last multiple of 2 ^ j up to the colour's code.
pub octant_start_lem : {j : ℕ} {low : Colour} → Octant j low → (c : Colour)
    → (cube_holds (2 ^ j) low c ≡ true) ↔ ((h : Channel) → code_in h low ≡ code_in h c / 2 ^ j * 2 ^ j)
octant_start_lem {j} {low} o c = (
  λ e h. (starts (2 ^ j) _ _ (pow_pos j) ((octant_lies o).multiple h)).0 ((cube_among _ low c).0 e h),
  λ e. (cube_among _ low c).1 (λ h. (starts (2 ^ j) _ _ (pow_pos j) ((octant_lies o).multiple h)).1 (e h)),
)

-- So no two octants of one side hold the same colour.
pub octant_one : {j : ℕ} {a b c : Colour} → In j a c → In j b c → a ≡ b
octant_one {a} {b} {c} i k = same_codes a b (λ h. (octant_start_lem i.octant c).0 i.held h ∙ sym ((octant_start_lem k.octant c).0 k.held h))

-- The octants are exactly the cubes that lie so.
pub lies_octant : {j : ℕ} {low : Colour} → Lies j low → Octant j low
lies_octant {j} {low} l =
    let (start, i) = octant_of low ((fit_codes low).1 (λ h. omega (arith, l.fits h, pow_pos j))) j l.side in
    let e : start ≡ low =
    same_codes start low (λ h. (octant_start_lem i.octant low).0 i.held h ∙ omega (arith, div-add-mod' (code_in h low) (2 ^ j), l.multiple h)) in
    rw e at i.octant

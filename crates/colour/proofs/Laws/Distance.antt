-- d² (document 01, "Picks"): how it grows, and its bound.
use Prim.Native.Nat.{ℕ, suc, ◌+◌, ◌-◌, ◌*◌, ◌≤◌}
use mathlib.Core.Bool.{true}
use mathlib.Core.Path.{◌≡◌, refl, ap, ◌∙◌}
use native.Mathlib.Nat.{add_comm, mul-le-mul}
use native.Mathlib.Omega.{arith}
use mir.Syntax.{w64}
use mir.Val.{to_z, of_z}
use lib.IntN.{ℤ, pos, negsuc, ◌-ℤ◌, ◌*ℤ◌, nat_abs, pos-*ℤ-pos, negsuc-*ℤ-negsuc}
use Rattle.std.proofs.lemmas.Int.{ints, to_z-of_z}
use Rattle.colour.specs.Channels.{Colour}
use Rattle.colour.specs.declared.Probe.{Probe}
use Rattle.colour.specs.Colour.{Channel, Red, Green, Blue, code_in, colour_by, sum_of, codes_fit, black, greatest_distance, apart, distance}
use Rattle.colour.specs.Probe.{probe}
use Rattle.colour.proofs.Laws.Channels.{sum_grows, sum_term, sum_same, fit_codes}

-- A square grows with its root.
pub square_most : {x m : ℕ} → x ≤ m → x * x ≤ m * m
square_most h = mul-le-mul h h

-- d² grows with each of the three code differences.
pub distance_grows : (p : Probe) (x : Colour) (q : Probe) (y : Colour)
    → ((h : Channel) → apart (code_in h p.centre) (code_in h x) ≤ apart (code_in h q.centre) (code_in h y)) → distance p x ≤ distance q y
unfolding distance
distance_grows p x q y e = sum_grows _ _ (λ h. square_most (e h))

-- No channel's squared difference is more than d².
pub distance_channel : (p : Probe) (x : Colour) (h : Channel) → apart (code_in h p.centre) (code_in h x) * apart (code_in h p.centre) (code_in h x) ≤ distance p x
unfolding distance
distance_channel p x h = sum_term (λ g. apart (code_in g p.centre) (code_in g x) * apart (code_in g p.centre) (code_in g x)) h

-- d² is symmetric.
pub distance_symmetric : (a b : Colour) → distance (probe a) b ≡ distance (probe b) a
unfolding distance apart
distance_symmetric a b =
    sum_same _ _ (λ h. ap (λ (n : ℕ). n * n) (add_comm (code_in h a - code_in h b) (code_in h b - code_in h a)))

-- A colour is at the distance 0 from itself.
pub distance_self : (p : Probe) → distance p p.centre ≡ 0
unfolding distance apart sum_of
distance_self p = sum_same _ (λ h. 0) (λ h. ap (λ (n : ℕ). n * n) (apart_self (code_in h p.centre)))
  where
    apart_self : (x : ℕ) → apart x x ≡ 0
    apart_self x = omega arith

-- Three squared code differences sum to the greatest d² at most.
pub squares_most : {x y z : ℕ} → (x ≤ 65535) × ((y ≤ 65535) × (z ≤ 65535)) → x * x + y * y + z * z ≤ greatest_distance
squares_most h = omega (arith, square_most h.0, square_most h.1.0, square_most h.1.1)

-- "d² reaches 12,884,508,675": it is no more for colours in range.
pub distance_bound : (p : Probe) (x : Colour) → codes_fit p.centre ≡ true → codes_fit x ≡ true → distance p x ≤ greatest_distance
unfolding distance apart sum_of
distance_bound p x fp fx = squares_most (gap Red, (gap Green, gap Blue))
  where
    gap : (h : Channel) → apart (code_in h p.centre) (code_in h x) ≤ 65535
    gap h = omega (arith, (fit_codes p.centre).0 fp h, (fit_codes x).0 fx h)

-- It does reach that, from black to white.
pub distance_reached : distance (probe black) (colour_by (λ h. 65535)) ≡ greatest_distance
unfolding distance apart sum_of black colour_by code_in
distance_reached = refl

-- Codes are no farther apart than the last is from 0.
pub apart_most : (x y : ℕ) → x ≤ 65535 → y ≤ 65535 → apart x y ≤ 65535
unfolding apart
apart_most x y hx hy = omega arith

-- The square of a signed difference of codes is that of how far they are apart.
difference_apart : (x y : ℕ) → nat_abs (pos x -ℤ pos y) ≡ apart x y
unfolding apart
difference_apart x y = omega (arith, ints)

signed_square : (d : ℤ) → nat_abs d ≤ 65535 → nat_abs (to_z w64 (of_z w64 (d *ℤ d))) ≡ nat_abs d * nat_abs d
signed_square (pos a) h =
    rw (pos-*ℤ-pos a a, to_z-of_z w64 (pos (a * a)) (record { sfits = omega (arith, square_most h) })) refl
signed_square (negsuc a) h =
    rw (negsuc-*ℤ-negsuc a a, to_z-of_z w64 (pos (suc a * suc a)) (record { sfits = omega (arith, square_most h) })) refl

-- As it is worked out: the difference is kept in 64 bits, and so is the square.
read : ℤ → ℤ
read z = to_z w64 (of_z w64 z)

read_small : (d : ℤ) → nat_abs d ≤ 65535 → read d ≡ d
unfolding read
read_small (pos a) h = to_z-of_z w64 (pos a) (record { sfits = omega (arith, h) })
read_small (negsuc a) h = to_z-of_z w64 (negsuc a) (record { sfits = omega (arith, h) })

pub apart_squared : (x y : ℕ) → x ≤ 65535 → y ≤ 65535 → (d : ℤ) → d ≡ pos x -ℤ pos y
    → nat_abs (to_z w64 (of_z w64 (to_z w64 (of_z w64 d) *ℤ to_z w64 (of_z w64 d)))) ≡ apart x y * apart x y
unfolding read
apart_squared x y hx hy d e =
    let same : nat_abs d ≡ apart x y = ap nat_abs e ∙ difference_apart x y in
    let small : nat_abs d ≤ 65535 = rw same (apart_most x y hx hy) in
    rw (read_small d small, signed_square d small, same) refl

-- The numbers of the layout in use, as document 01 has them ("The tables").
use Prim.Native.Nat.{ℕ, ◌-◌, ◌/◌, min}
use mathlib.Core.Path.{◌≡◌, refl}
use Rattle.model.specs.Layout.{current, sample_header, sample_width, octant_header, octant_width, sample_rows, octant_rows}

pub record Numbers : Type 0 where
  pub sample_header_is : sample_header current ≡ 2
  pub sample_width_is : sample_width current ≡ 5
  pub octant_header_is : octant_header current ≡ 1
  pub octant_width_is : octant_width current ≡ 11
  -- (length − 2) / 5 rounded down, 4,096 at most; (length − 1) / 11 rounded down
  pub sample_rows_is : (len : ℕ) → sample_rows current len ≡ min 4096 ((len - 2) / 5)
  pub octant_rows_is : (len : ℕ) → octant_rows current len ≡ (len - 1) / 11

pub current_numbers : Numbers
unfolding current sample_header sample_width octant_width sample_rows octant_rows
current_numbers =
    record {
      sample_header_is = refl;
      sample_width_is = refl;
      octant_header_is = refl;
      octant_width_is = refl;
      sample_rows_is = λ len. refl;
      octant_rows_is = λ len. refl;
    }

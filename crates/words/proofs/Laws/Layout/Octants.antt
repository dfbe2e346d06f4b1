-- An octant's row, as it is written and compared.
use Prim.Native.Nat.{ℕ, ◌≤◌}
use mathlib.Core.List.{List, ◌∷◌, ◌++◌}
use mathlib.Core.Bool.{Bool, true, false, ◌&&◌}
use mathlib.Core.Logic.{◌↔◌}
use mathlib.Core.Path.{◌≡◌, refl, sym, ap, ◌∙◌}
use native.Mathlib.Omega.{arith}
use lib.Dec.{eqb}
use lib.Pointwise.{bytes_decides}
use lib.ListN.{length, get_or, take, drop, length-map}
use lib.Seq.{take_all, take-add}
use Rattle.std.specs.List.{starts_with}
use Rattle.model.specs.Layout.{current, octant_width}
use Rattle.model.proofs.Tables.Numbers.{current_numbers}
use Rattle.words.specs.Rows.{octant_field_of, octant_row_by}
use Rattle.words.proofs.Laws.Words.{words_from, words_from_lem}

-- Three words, then those of the eight children.
pub octant_row_lem : (first last count : ℕ) (kids : List ℕ) → octant_row_by current first last count kids ≡ first ∷ last ∷ count ∷ words_from kids 0 0 8
unfolding octant_row_by octant_field_of current words_from
octant_row_lem first last count kids = refl

pub octant_row_is : (first last count : ℕ) (kids : List ℕ) → length kids ≡ 8 → octant_row_by current first last count kids ≡ first ∷ last ∷ count ∷ kids
octant_row_is first last count kids e =
    octant_row_lem first last count kids
    ∙ ap (λ (l : List ℕ). first ∷ last ∷ count ∷ l) (sym (words_from_lem kids 8 0 0 (omega arith)) ∙ take_all 8 kids (omega arith))

-- As many words as the layout has fields.
pub octant_row_length : (first last count : ℕ) (kids : List ℕ) → length (octant_row_by current first last count kids) ≡ octant_width current
unfolding octant_row_by octant_width
octant_row_length first last count kids = length-map current.octant (octant_field_of first last count kids)

-- The words at the front of rows.
pub words_row : (rows : List ℕ) → octant_width current ≤ length rows
    → take (octant_width current) rows ≡ get_or rows 0 0 ∷ get_or rows 1 0 ∷ get_or rows 2 0 ∷ take 8 (drop 3 rows)
unfolding words_from
words_row rows h =
    let long : 11 ≤ length rows = omega (arith, current_numbers.octant_width_is) in
    rw current_numbers.octant_width_is
    (take-add 3 8 rows ∙ ap (λ (l : List ℕ). l ++ take 8 (drop 3 rows)) (words_from_lem rows 3 0 0 (omega arith)))

last_first : (a b c d : Bool) → (((a && b) && c) && d) ≡ (a && (b && (c && d)))
last_first true b c d = last_two b c d
  where
    last_two : (b c d : Bool) → ((b && c) && d) ≡ (b && (c && d))
    last_two true c d = refl
    last_two false c d = refl
last_first false b c d = refl

-- They are an octant's row where its words are theirs, word by word.
pub octant_same : (rows : List ℕ) (first last count : ℕ) (kids : List ℕ) → octant_width current ≤ length rows → length kids ≡ 8
    → ((((eqb first (get_or rows 0 0) && eqb last (get_or rows 1 0)) && eqb count (get_or rows 2 0)) && starts_with eqb (drop 3 rows) kids) ≡ true)
    ↔ (take (octant_width current) rows ≡ octant_row_by current first last count kids)
octant_same rows first last count kids h eight =
    let same = bytes_decides (first ∷ last ∷ count ∷ kids) (get_or rows 0 0 ∷ get_or rows 1 0 ∷ get_or rows 2 0 ∷ take 8 (drop 3 rows)) in
    rw (
      last_first (eqb first (get_or rows 0 0)) (eqb last (get_or rows 1 0)) (eqb count (get_or rows 2 0)) (starts_with eqb (drop 3 rows) kids),
      words_row rows h,
      octant_row_is first last count kids eight,
      eight,
    )
    (λ e. sym (same.0 e), λ e. same.1 (sym e))

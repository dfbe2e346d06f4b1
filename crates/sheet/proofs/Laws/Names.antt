-- A name at the left of its columns, blanks after, is the name that is read there (document 01, "Sheets").
use Prim.Native.Nat.{ℕ, zero, suc, ◌-◌, ◌≤◌, ◌<◌}
use mathlib.Core.Bool.{Bool, true, false, and-false, and-eq-true_iff}
use mathlib.Core.List.{List, [], ◌∷◌, ◌++◌, append-nil}
use mathlib.Core.Path.{◌≡◌, refl, sym, ◌∙◌, ap}
use native.Mathlib.Omega.{arith}
use lib.Dec.{leb, eqb}
use lib.ListN.{length, get_or, replicate, length-append, length-replicate}
use lib.Seq.{drop-append_seam}
use borrow.Author.Tests.{leb-true, eqb-true, le-leb, lt-leb}
use Rattle.sheet.specs.Column.{between, blank, trimmed}
use Rattle.sheet.specs.Line.{name_columns, name_byte, leading, name_good, name_field_good}
use Rattle.sheet.proofs.Laws.Text.{trimmed_blanks}

-- What the test of a name says: it has a byte, it fits its columns, and all of it is name bytes.
pub record GoodName (name : List ℕ) : Type 0 where
  pub named : 1 ≤ length name
  pub fits : length name ≤ name_columns
  pub bytes : length (leading name) ≡ length name

pub name_good_lem : (name : List ℕ) → name_good name ≡ true → GoodName name
unfolding name_good
name_good_lem name g =
    let h = (and-eq-true_iff _ _).0 g in
    let ends = (and-eq-true_iff (leb 1 (length name)) _).0 h.0 in
    record { named = leb-true _ _ ends.0; fits = leb-true _ _ ends.1; bytes = eqb-true _ _ h.1 }

-- "Each 33..126": each byte of a good name is a name byte.
pub each_named : (name : List ℕ) → length (leading name) ≡ length name → (i : ℕ) → i < length name → name_byte (get_or name i 0) ≡ true
unfolding leading
each_named [] e i h = absurd (omega arith)
each_named (x ∷ rest) e i h = go (name_byte x) refl i h (each_named rest)
  where
    go : (q : Bool) → name_byte x ≡ q → (k : ℕ) → k < length (x ∷ rest)
        → (length (leading rest) ≡ length rest → (j : ℕ) → j < length rest → name_byte (get_or rest j 0) ≡ true)
        → name_byte (get_or (x ∷ rest) k 0) ≡ true
    go true t zero l ih = t
    go true t (suc j) l ih =
        let same : suc (length (leading rest)) ≡ suc (length rest) = rw (t, leading) at e in
        ih (omega arith) j (omega arith)
    go false t k l ih = let none : 0 ≡ suc (length rest) = rw (t, leading) at e in absurd (omega arith)

-- The test, one question after another.
pub name_empty : (name : List ℕ) → length name < 1 → false ≡ name_good name
unfolding name_good
name_empty name h = rw (lt-leb 1 (length name) h)

pub name_too_long : (name : List ℕ) → name_columns < length name → false ≡ name_good name
unfolding name_good
name_too_long name h = rw (lt-leb (length name) name_columns h, and-false (leb 1 (length name)))

pub name_tested : (name : List ℕ) (n : ℕ) → 1 ≤ length name → length name ≤ name_columns → n ≡ length (leading name) → eqb n (length name) ≡ name_good name
unfolding name_good
name_tested name n some_byte fits e = rw (le-leb 1 (length name) some_byte, le-leb (length name) name_columns fits, e)

-- A name of name bytes is what is read before blanks.
leading_blanks : (name : List ℕ) (k : ℕ) → length (leading name) ≡ length name → leading (name ++ replicate k blank) ≡ name
unfolding between leading name_byte blank
leading_blanks [] zero e = refl
leading_blanks [] (suc k) e = refl
leading_blanks (x ∷ rest) k e = go (name_byte x) refl (leading_blanks rest k)
  where
    go : (q : Bool) → name_byte x ≡ q → (length (leading rest) ≡ length rest → leading (rest ++ replicate k blank) ≡ rest)
        → leading ((x ∷ rest) ++ replicate k blank) ≡ x ∷ rest
    go true t ih =
        let l : suc (length (leading rest)) ≡ suc (length rest) = rw (t, leading) at e in
        rw (t, leading, ih (omega arith))
    go false t ih = let l : 0 ≡ suc (length rest) = rw (t, leading) at e in absurd (omega arith)

-- The name's columns as they are written.
unfoldable pub filled : List ℕ → List ℕ
filled name = name ++ replicate (name_columns - length name) blank

-- They are all filled.
pub filled_length : (name : List ℕ) → length name ≤ name_columns → length (filled name) ≡ name_columns
unfolding filled
filled_length name fits = simp length-append (omega (arith, length-replicate (name_columns - length name) blank))

-- The name is read from them, and they are good.
pub filled_name : (name : List ℕ) → GoodName name → leading (filled name) ≡ name
unfolding filled
filled_name name g = leading_blanks name (name_columns - length name) g.bytes

pub filled_good : (name : List ℕ) → name_good name ≡ true → name_field_good (filled name) ≡ true
unfolding name_field_good filled trimmed
filled_good name g =
    let fill : List ℕ = replicate (name_columns - length name) blank in
    let none : trimmed fill ≡ [] = ap trimmed (sym (append-nil fill)) ∙ trimmed_blanks (name_columns - length name) [] in
    rw (filled_name name (name_good_lem name g), drop-append_seam name fill, none, g)

-- Texts gone through byte by byte: the blanks before, the name bytes first, two texts compared (document 01, "Sheets").
use Prim.Native.Nat.{ℕ, zero, suc, ◌+◌, ◌-◌, ◌≤◌, ◌<◌}
use mathlib.Core.Bool.{Bool, true, false, and-eq-true_iff}
use mathlib.Core.List.{List, [], ◌∷◌, ◌++◌}
use mathlib.Core.Path.{◌≡◌, refl, sym, ap, ◌∙◌}
use native.Mathlib.Numerals.{add-one}
use native.Mathlib.Omega.{arith}
use borrow.Author.Tests.{eq-eqb, ne_eqb, eqb-true, eqb-false, le-leb, leb-true, ltb-false}
use lib.Dec.{eqb, leb, ltb}
use lib.ListN.{length, drop, get_or, replicate, length-append, length-replicate}
use lib.Pointwise.{pointwise}
use lib.Seq.{drop-cons, drop_at}
use Rattle.std.specs.Prelude.{None, Some, cond, not, position}
use Rattle.std.specs.List.{position_or_len}
use Rattle.std.specs.Option.{unwrap_or}
use Rattle.std.proofs.lemmas.List.Sums.{prefix_len-le-length}
use Rattle.sheet.specs.Column.{between, blank, trimmed}
use Rattle.sheet.specs.Line.{name_byte, leading}
use Rattle.sheet.specs.Sheet.{same_bytes}

-- A text from byte i on is that byte and the text from the next one on.
pub next_byte : (s : List ℕ) (i : ℕ) → i < length s → drop i s ≡ get_or s i 0 ∷ drop (i + 1) s
next_byte s i h = rw (add-one, drop-cons s i 0)

-- A byte in a range.
module _ (low high x : ℕ) where
  pub in_range : low ≤ x → x ≤ high → between low high x ≡ true
  unfolding between
  in_range l h = rw (le-leb low x l, le-leb x high h)

  pub range_ends : between low high x ≡ true → (low ≤ x) × (x ≤ high)
  unfolding between
  range_ends e = let h = (and-eq-true_iff (leb low x) (leb x high)).0 e in (leb-true low x h.0, leb-true x high h.1)

-- A blank is passed over; at any other byte the blanks end.
pub skip : (x : ℕ) (rest : List ℕ) → x ≡ blank → trimmed (x ∷ rest) ≡ trimmed rest
unfolding trimmed
skip x rest e = rw (eq-eqb x blank e, trimmed)

pub stay : (x : ℕ) (rest : List ℕ) → (x ≡ blank → ⊥) → trimmed (x ∷ rest) ≡ x ∷ rest
unfolding trimmed
stay x rest e = rw (ne_eqb x blank e, trimmed)

pub trimmed_most : (s : List ℕ) → length (trimmed s) ≤ length s
unfolding trimmed
trimmed_most [] = omega arith
trimmed_most (x ∷ rest) = go (eqb x blank) refl (trimmed_most rest)
  where
    go : (q : Bool) → eqb x blank ≡ q → length (trimmed rest) ≤ length rest → length (trimmed (x ∷ rest)) ≤ length (x ∷ rest)
    go true e h = rw (e, trimmed) (omega arith)
    go false e h = rw (e, trimmed) (omega arith)

-- Where the first byte stands that passes a test, or the end of the text.
place_found : (test : ℕ → Bool) (s : List ℕ) → unwrap_or (position test s) (length s) ≡ position_or_len test s
place_found test s = go (ltb (position_or_len test s) (length s)) refl
  where
    go : (q : Bool) → ltb (position_or_len test s) (length s) ≡ q → unwrap_or (cond q (Some (position_or_len test s)) None) (length s) ≡ position_or_len test s
    go true e = refl
    go false e = omega (arith, ltb-false (position_or_len test s) (length s) e, prefix_len-le-length (λ x. not (test x)) s)

-- Before it stand the blanks.
pub blanks_first : (s : List ℕ) → unwrap_or (position (λ x. not (eqb x blank)) s) (length s) ≡ length s - length (trimmed s)
unfolding trimmed
blanks_first s = place_found (λ x. not (eqb x blank)) s ∙ count s
  where
    count : (s : List ℕ) → position_or_len (λ x. not (eqb x blank)) s ≡ length s - length (trimmed s)
    count [] = refl
    count (x ∷ rest) = go (eqb x blank) refl (count rest)
      where
        go : (q : Bool) → eqb x blank ≡ q → position_or_len (λ y. not (eqb y blank)) rest ≡ length rest - length (trimmed rest)
            → cond (not (not q)) (1 + position_or_len (λ y. not (eqb y blank)) rest) 0 ≡ suc (length rest) - length (trimmed (x ∷ rest))
        go true e h = rw (e, trimmed) (omega (arith, h, trimmed_most rest))
        go false e h = rw (e, trimmed) (omega arith)

-- A text is the blanks before it and what stands after them.
pub blanks_before : (s : List ℕ) → s ≡ replicate (length s - length (trimmed s)) blank ++ trimmed s
unfolding trimmed
blanks_before [] = refl
blanks_before (x ∷ rest) = go (eqb x blank) refl (blanks_before rest)
  where
    go : (q : Bool) → eqb x blank ≡ q → rest ≡ replicate (length rest - length (trimmed rest)) blank ++ trimmed rest
        → x ∷ rest ≡ replicate (length (x ∷ rest) - length (trimmed (x ∷ rest))) blank ++ trimmed (x ∷ rest)
    go true t ih =
        let more : suc (length rest) - length (trimmed rest) ≡ suc (length rest - length (trimmed rest)) = omega (arith, trimmed_most rest) in
        rw (skip x rest (eqb-true x blank t), more) (cc (eqb-true x blank t))
    go false t ih =
        let no_more : suc (length rest) - suc (length rest) ≡ 0 = omega arith in
        rw (stay x rest (eqb-false x blank t), no_more)

-- What stands after so many is the text without them.
pub after_blanks : (s : List ℕ) (k : ℕ) → k ≡ length s - length (trimmed s) → drop k s ≡ trimmed s
after_blanks s k e =
    let blanks : ℕ = length s - length (trimmed s) in
    ap (drop k) (blanks_before s) ∙ drop_at (replicate blanks blank) (trimmed s) k (length-replicate blanks blank ∙ sym e)

-- Blanks before a text are left out.
pub trimmed_blanks : (k : ℕ) (s : List ℕ) → trimmed (replicate k blank ++ s) ≡ trimmed s
unfolding trimmed blank
trimmed_blanks zero s = refl
trimmed_blanks (suc k) s = trimmed_blanks k s

-- Before the first other byte stand the name bytes.
pub names_first : (s : List ℕ) → unwrap_or (position (λ x. not (name_byte x)) s) (length s) ≡ length (leading s)
unfolding leading
names_first s = place_found (λ x. not (name_byte x)) s ∙ count s
  where
    count : (s : List ℕ) → position_or_len (λ x. not (name_byte x)) s ≡ length (leading s)
    count [] = refl
    count (x ∷ rest) = go (name_byte x) refl (count rest)
      where
        go : (q : Bool) → name_byte x ≡ q → position_or_len (λ y. not (name_byte y)) rest ≡ length (leading rest)
            → cond (not (not q)) (1 + position_or_len (λ y. not (name_byte y)) rest) 0 ≡ length (leading (x ∷ rest))
        go true e h = rw (e, leading) (omega (arith, h))
        go false e h = rw (e, leading)

-- A text is the name bytes that stand first and what follows them.
pub leading_first : (s : List ℕ) → s ≡ leading s ++ drop (length (leading s)) s
unfolding leading
leading_first [] = refl
leading_first (x ∷ rest) = go (name_byte x) refl (leading_first rest)
  where
    go : (q : Bool) → name_byte x ≡ q → rest ≡ leading rest ++ drop (length (leading rest)) rest
        → x ∷ rest ≡ leading (x ∷ rest) ++ drop (length (leading (x ∷ rest))) (x ∷ rest)
    go true t ih = rw (t, leading, ← ih)
    go false t ih = rw (t, leading)

pub leading_most : (s : List ℕ) → length (leading s) ≤ length s
leading_most s = omega (arith, ap length (leading_first s), length-append (leading s) (drop (length (leading s)) s))

-- The name bytes that stand first are name bytes alone.
pub leading_twice : (s : List ℕ) → leading (leading s) ≡ leading s
unfolding leading
leading_twice [] = refl
leading_twice (x ∷ rest) = go (name_byte x) refl (leading_twice rest)
  where
    go : (q : Bool) → name_byte x ≡ q → leading (leading rest) ≡ leading rest → leading (leading (x ∷ rest)) ≡ leading (x ∷ rest)
    go true e h = rw (e, e, leading, h)
    go false e h = rw (e, leading)

-- Whether two texts are the same is whether they are the same byte by byte.
either_way : (x y : ℕ) → eqb x y ≡ eqb y x
either_way x y = go (eqb x y) refl
  where
    go : (q : Bool) → eqb x y ≡ q → eqb x y ≡ eqb y x
    go true e = e ∙ sym (eq-eqb y x (sym (eqb-true x y e)))
    go false e = e ∙ sym (ne_eqb y x (λ z. eqb-false x y e (sym z)))

pub same_pointwise : (a b : List ℕ) → pointwise eqb a b ≡ same_bytes b a
unfolding same_bytes
same_pointwise [] [] = refl
same_pointwise [] (y ∷ ys) = refl
same_pointwise (x ∷ xs) [] = refl
same_pointwise (x ∷ xs) (y ∷ ys) = rw (same_pointwise xs ys, either_way x y)

-- Two texts that compare as the same are the same.
pub same_bytes_lem : (a b : List ℕ) → same_bytes a b ≡ true → a ≡ b
unfolding same_bytes
same_bytes_lem [] [] e = refl
same_bytes_lem [] (y ∷ ys) e = cc
same_bytes_lem (x ∷ xs) [] e = cc
same_bytes_lem (x ∷ xs) (y ∷ ys) e =
    let h = (and-eq-true_iff (eqb x y) (same_bytes xs ys)).0 e in
    cc (eqb-true x y h.0, same_bytes_lem xs ys h.1)

-- And a text is the same as itself.
pub same_self : (s : List ℕ) → same_bytes s s ≡ true
unfolding same_bytes
same_self [] = refl
same_self (x ∷ rest) = (and-eq-true_iff _ _).1 (eq-eqb x x refl, same_self rest)

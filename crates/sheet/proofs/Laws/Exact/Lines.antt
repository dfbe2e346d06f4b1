-- What reads as good is the very text that is written from what it says (document 01, "Sheets").
use Prim.Native.Nat.{ℕ, suc, ◌+◌, ◌-◌, ◌*◌, ◌/◌, ◌%◌, ◌^◌, ◌≤◌, ◌<◌}
use mathlib.Core.Bool.{Bool, true, false, and-eq-true_iff}
use mathlib.Core.List.{List, [], ◌∷◌, ◌++◌, append-nil, append_assoc}
use Rattle.std.specs.Prelude.{Some}
use Rattle.std.proofs.lemmas.Option.{none-some, same_Some}
use mathlib.Core.Path.{◌≡◌, refl, sym, ap, ◌∙◌}
use native.Mathlib.Nat.{pow-suc, pow-le-pow_right}
use native.Mathlib.Omega.{arith}
use borrow.Author.Tests.{eqb-true, eqb-false}
use lib.Dec.{eqb}
use lib.ListN.{length, take, drop, get_or, replicate, length-drop, drop_of_length-le}
use lib.Seq.{take-append_seam}
use Rattle.colour.specs.Colour.{Red, Green, Blue, code_in}
use Rattle.sheet.specs.declared.line.Line.{Line}
use Rattle.sheet.specs.Computes.{sheet_numbers}
use Rattle.sheet.specs.Column.{digit_byte, blank, newline, trimmed, digits_after, decimal_in, column_number, column_of}
use Rattle.sheet.specs.Line.{tag_columns, code_columns, name_columns, red_start, green_start, blue_start, blank_at, name_start, newline_at, line_length}
use Rattle.sheet.specs.Line.{leading, name_good, name_field_good, name_field, line_formed, code_column, line_numbers, line_of, number_columns, line_bytes}
use Rattle.sheet.proofs.Laws.Writing.Columns.{column_last, column_more}
use Rattle.sheet.proofs.Laws.Reading.Digits.{not_digit, one_digit}
use Rattle.sheet.proofs.Laws.Reading.Lines.{Numbers, codes, says, Formed, formed}
use Rattle.sheet.proofs.Laws.Names.{filled}
use Rattle.sheet.proofs.Laws.Parts.{part_first, part_length}
use Rattle.sheet.proofs.Laws.Text.{range_ends, next_byte, trimmed_most, blanks_before, leading_first}

-- A byte that is a digit, alone after blanks, and after the digits of m.
module _ (x : ℕ) (d : digit_byte x ≡ true) where
  low : 48 ≤ x
  unfolding digit_byte
  low = (range_ends 48 57 x d).0

  high : x ≤ 57
  unfolding digit_byte
  high = (range_ends 48 57 x d).1

  first_digit : (w : ℕ) → replicate w blank ++ (x ∷ []) ≡ column_of (suc w) (x - 48)
  first_digit w =
      let digit : 48 + (x - 48) ≡ x = omega (arith, low) in
      sym (column_last w (x - 48) (omega (arith, high)) ∙ rw digit)

  next_digit : (w m : ℕ) → 0 < m → column_of w m ++ (x ∷ []) ≡ column_of (suc w) (10 * m + (x - 48))
  next_digit w m pos =
      let tenth : (10 * m + (x - 48)) / 10 ≡ m = omega (arith, high) in
      let digit : 48 + (10 * m + (x - 48)) % 10 ≡ x = omega (arith, low, high) in
      sym (column_more w (10 * m + (x - 48)) (omega arith) ∙ rw (tenth, digit))

-- What m followed by these digits says is written as m and these digits, where m is no leading zero.
digits_exact : (w m n : ℕ) (s : List ℕ) → (0 < length s → 0 < m) → digits_after m s ≡ Some n → column_of w m ++ s ≡ column_of (w + length s) n
unfolding digits_after
digits_exact w m n [] leads e =
    let same : m ≡ n = same_Some m n e in
    let all : w + 0 ≡ w = omega arith in
    rw (append-nil, all, same)
digits_exact w m n (x ∷ rest) leads e =
    let pos = leads (omega arith) in
    go (digit_byte x) refl pos (digits_exact (suc w) (10 * m + (x - 48)) n rest (λ h. omega arith))
  where
    go : (q : Bool) → digit_byte x ≡ q → 0 < m
        → (digits_after (10 * m + (x - 48)) rest ≡ Some n → column_of (suc w) (10 * m + (x - 48)) ++ rest ≡ column_of (suc w + length rest) n)
        → column_of w m ++ (x ∷ rest) ≡ column_of (w + suc (length rest)) n
    go true d pos ih =
        let size : w + suc (length rest) ≡ suc w + length rest = omega arith in
        rw (size, ← ih (sym (one_digit m x rest d) ∙ e), ← next_digit x d w m pos, append_assoc)
    go false d pos ih = absurd (none-some n (sym (not_digit m x rest d) ∙ e))

-- What reads as a decimal number: at least one digit, and no leading zero where others follow.
record Decimal (s : List ℕ) (n : ℕ) : Type 0 where
  some_digit : 0 < length s
  leads : 1 < length s → get_or s 0 0 ≡ 48 → ⊥
  says : digits_after 0 s ≡ Some n

is_decimal : (s : List ℕ) (n : ℕ) → decimal_in s ≡ Some n → Decimal s n
unfolding decimal_in
is_decimal [] n e = absurd (none-some n e)
is_decimal (x ∷ []) n e = record { some_digit = omega arith; leads = λ h. absurd (omega arith); says = e }
is_decimal (x ∷ (y ∷ rest)) n e = go (eqb x 48) refl
  where
    go : (q : Bool) → eqb x 48 ≡ q → Decimal (x ∷ (y ∷ rest)) n
    go true z = absurd (none-some n (rw (z, decimal_in) at e))
    go false z = record { some_digit = omega arith; leads = λ h. eqb-false x 48 z; says = rw (z, decimal_in) at e }

-- It is written so, whatever the blanks before it.
decimal_exact : (k n : ℕ) (s : List ℕ) → Decimal s n → replicate k blank ++ s ≡ column_of (k + length s) n
decimal_exact k n [] g = absurd (omega (arith, g.some_digit))
decimal_exact k n (x ∷ rest) g = go (digit_byte x) refl
  where
    go : (q : Bool) → digit_byte x ≡ q → replicate k blank ++ (x ∷ rest) ≡ column_of (k + suc (length rest)) n
    go true d =
        let size : k + suc (length rest) ≡ suc k + length rest = omega arith in
        let digit : 10 * 0 + (x - 48) ≡ x - 48 = omega arith in
        let leads : (0 < length rest → 0 < x - 48) = λ h. let other = g.leads (omega arith) in omega (arith, low x d) in
        rw (size, ← digits_exact (suc k) (x - 48) n rest leads (rw digit at (sym (one_digit 0 x rest d) ∙ g.says)), ← first_digit x d k, append_assoc)
    go false d = absurd (none-some n (sym (not_digit 0 x rest d) ∙ g.says))

-- A column that reads as n is the column written from n, of the same width.
pub column_exact : (s : List ℕ) (n : ℕ) → column_number s ≡ Some n → s ≡ column_of (length s) n
unfolding column_number
column_exact s n e =
    let blanks : ℕ = length s - length (trimmed s) in
    let size : blanks + length (trimmed s) ≡ length s = omega (arith, trimmed_most s) in
    blanks_before s ∙ rw (decimal_exact blanks n (trimmed s) (is_decimal (trimmed s) n e), size)

-- Each digit more gives at most one more power of ten.
digits_fit : (w m n : ℕ) (s : List ℕ) → m < 10 ^ w → digits_after m s ≡ Some n → n < 10 ^ (w + length s)
unfolding digits_after
digits_fit w m n [] h e =
    let same : m ≡ n = same_Some m n e in
    let all : w + 0 ≡ w = omega arith in
    rw (all, ← same) h
digits_fit w m n (x ∷ rest) h e = go (digit_byte x) refl (digits_fit (suc w) (10 * m + (x - 48)) n rest)
  where
    go : (q : Bool) → digit_byte x ≡ q
        → (10 * m + (x - 48) < 10 ^ suc w → digits_after (10 * m + (x - 48)) rest ≡ Some n → n < 10 ^ (suc w + length rest))
        → n < 10 ^ (w + suc (length rest))
    go true d ih =
        let size : w + suc (length rest) ≡ suc w + length rest = omega arith in
        rw size (ih (omega (arith, pow-suc 10 w, high x d)) (sym (one_digit m x rest d) ∙ e))
    go false d ih = absurd (none-some n (sym (not_digit m x rest d) ∙ e))

-- A column that reads as n has as many columns as n has digits, at the least.
pub column_fits : (s : List ℕ) (n : ℕ) → column_number s ≡ Some n → n < 10 ^ length s
unfolding column_number
column_fits s n e =
    let h : n < 10 ^ (0 + length (trimmed s)) = digits_fit 0 0 n (trimmed s) (omega arith) (is_decimal (trimmed s) n e).says in
    let most : 0 + length (trimmed s) ≤ length s = omega (arith, trimmed_most s) in
    let power : 10 ^ (0 + length (trimmed s)) ≤ 10 ^ length s = pow-le-pow_right (omega arith) most in
    omega arith

-- A text with nothing but blanks in it.
all_blank : (s : List ℕ) → length (trimmed s) ≡ 0 → s ≡ replicate (length s) blank
all_blank s e = go (trimmed s) refl
  where
    go : (t : List ℕ) → trimmed s ≡ t → s ≡ replicate (length s) blank
    go [] z = let all : length s - 0 ≡ length s = omega arith in blanks_before s ∙ rw (z, append-nil, all)
    go (x ∷ rest) z = absurd (omega (arith, ap length z))

-- Columns of a name that are good are the name and blanks after it, as they are written.
pub field_exact : (s : List ℕ) → name_field_good s ≡ true → length s ≡ name_columns → s ≡ filled (leading s)
unfolding name_field_good filled
field_exact s g l =
    let rest : List ℕ = drop (length (leading s)) s in
    let h = (and-eq-true_iff (name_good (leading s)) (eqb (length (trimmed rest)) 0)).0 g in
    let size : length rest ≡ name_columns - length (leading s) = length-drop (length (leading s)) s ∙ omega arith in
    leading_first s ∙ ap (λ (t : List ℕ). leading s ++ t) (all_blank rest (eqb-true _ _ h.1) ∙ ap (λ (n : ℕ). replicate n blank) size)

-- A good line is so formed, and has the numbers that it says.
record Good (s : List ℕ) (l : Line) : Type 0 where
  formed : Formed s
  numbers : Numbers (column_number (take tag_columns s)) (codes (code_column s red_start) (code_column s green_start) (code_column s blue_start)) (length (leading (name_field s))) l

good_line : (s : List ℕ) (l : Line) → line_of s ≡ Some l → Good s l
unfolding line_of line_numbers
good_line s l e = go (line_formed s) refl
  where
    go : (q : Bool) → line_formed s ≡ q → Good s l
    go true t = record { formed = formed s t; numbers = says _ _ _ _ _ l (rw (t, line_of) at e) }
    go false t = absurd (none-some l (rw (t, line_of) at e))

-- The column that starts at byte `at` and reads as n is the column written from n.
pub number_exact : (s : List ℕ) (at w n : ℕ) → at + w ≤ length s → column_number (take w (drop at s)) ≡ Some n
    → drop at s ≡ column_of w n ++ drop (at + w) s
number_exact s at w n room e =
    part_first s at w ∙ ap (λ (t : List ℕ). t ++ drop (at + w) s) (rw (part_length s at w room) at (column_exact (take w (drop at s)) n e))

-- The parts of a good line, each as it is written: the tag, a code wherever its column starts, the blank, the name's columns, the newline.
module _ (s : List ℕ) (f : Formed s) where
  tag_exact : (n : ℕ) → column_number (take tag_columns s) ≡ Some n → s ≡ column_of tag_columns n ++ drop tag_columns s
  unfolding sheet_numbers
  tag_exact n e = number_exact s 0 tag_columns n (omega (arith, f.long)) e

  code_exact : (at n : ℕ) → at ≤ blue_start → code_column s at ≡ Some n → drop at s ≡ column_of code_columns n ++ drop (at + code_columns) s
  unfolding code_column blank_at name_start newline_at line_length
  code_exact at n h e = number_exact s at code_columns n (omega (arith, f.long)) e

  blank_exact : drop blank_at s ≡ blank ∷ drop name_start s
  unfolding name_start newline_at line_length
  blank_exact = next_byte s blank_at (omega (arith, f.long)) ∙ rw f.parted

  name_exact : drop name_start s ≡ leading (name_field s) ++ (replicate (name_columns - length (leading (name_field s))) blank ++ drop newline_at s)
  unfolding name_field newline_at line_length filled
  name_exact =
      let size : length (name_field s) ≡ name_columns = part_length s name_start name_columns (omega (arith, f.long)) in
      part_first s name_start name_columns
      ∙ ap (λ (t : List ℕ). t ++ drop newline_at s) (field_exact (name_field s) f.named size)
      ∙ append_assoc (leading (name_field s)) _ _

  newline_exact : drop newline_at s ≡ newline ∷ []
  unfolding line_length
  newline_exact = next_byte s newline_at (omega (arith, f.long)) ∙ rw (f.ended, drop_of_length-le s {i = newline_at + 1} (omega (arith, f.long)))

-- The name that a good line holds: the name bytes first in the name's columns.
name_is : (s : List ℕ) (l : Line) → Good s l → take l.name_length (drop name_start s) ≡ leading (name_field s)
name_is s l g = rw (← g.numbers.size, name_exact s g.formed) (take-append_seam (leading (name_field s)) _)

-- It is a good name, of the length that the line says.
pub line_name_good : (s : List ℕ) (l : Line) → line_of s ≡ Some l → name_good (take l.name_length (drop name_start s)) ≡ true
unfolding name_field_good
line_name_good s l e =
    let g = good_line s l e in
    rw (name_is s l g) ((and-eq-true_iff (name_good (leading (name_field s))) _).0 g.formed.named).0

pub line_name_size : (s : List ℕ) (l : Line) → line_of s ≡ Some l → length (take l.name_length (drop name_start s)) ≡ l.name_length
line_name_size s l e = let g = good_line s l e in ap length (name_is s l g) ∙ g.numbers.size

-- A good line is the line written from its sample and its name.
pub line_exact : (s : List ℕ) (l : Line) → line_of s ≡ Some l → s ≡ line_bytes l.sample (take l.name_length (drop name_start s))
unfolding code_in red_start green_start blue_start blank_at number_columns line_bytes
line_exact s l e =
    let g = good_line s l e in
    let f : Formed s = g.formed in
    let tag = tag_exact s f l.sample.tag g.numbers.tag in
    let red = code_exact s f red_start l.sample.colour.red (omega arith) (g.numbers.code Red) in
    let green = code_exact s f green_start l.sample.colour.green (omega arith) (g.numbers.code Green) in
    let blue = code_exact s f blue_start l.sample.colour.blue (omega arith) (g.numbers.code Blue) in
    rw (name_is s l g) (simp append_assoc (cc (blank_exact s f, name_exact s f, newline_exact s f)))

-- So two good lines that say the same, and hold the same name, are the same bytes.
pub same_line : (s t : List ℕ) (l : Line) → line_of s ≡ Some l → line_of t ≡ Some l
    → take l.name_length (drop name_start s) ≡ take l.name_length (drop name_start t) → s ≡ t
same_line s t l e f name = line_exact s l e ∙ ap (line_bytes l.sample) name ∙ sym (line_exact t l f)

-- A number written in columns reads back (document 01, "Sheets").
use Prim.Native.Nat.{ℕ, zero, suc, ◌+◌, ◌-◌, ◌*◌, ◌/◌, ◌%◌, ◌^◌, ◌≤◌, ◌<◌}
use mathlib.Core.Bool.{Bool, true, false}
use mathlib.Core.List.{List, [], ◌∷◌, ◌++◌}
use Rattle.std.specs.Prelude.{None, Some}
use mathlib.Core.Path.{◌≡◌, refl, ◌∙◌, ap}
use native.Mathlib.Nat.{pow-suc}
use native.Mathlib.Omega.{arith}
use lib.Dec.{ltb}
use lib.ListN.{length, take, drop, get_or}
use lib.Seq.{take_at, drop_at}
use borrow.Author.Tests.{ltb-true, ltb-false, ne_eqb}
use Rattle.sheet.specs.Column.{between, digit_byte, blank, trimmed, digits_after, decimal_in, column_number, decimal, column_of}
use Rattle.sheet.proofs.Laws.Text.{in_range, trimmed_blanks}
use Rattle.sheet.proofs.Laws.Writing.Lengths.{column_length}

-- A text that starts with no blank stays as it is.
trimmed_none : (s : List ℕ) → blank < get_or s 0 0 → trimmed s ≡ s
unfolding trimmed blank
trimmed_none [] h = refl
trimmed_none (x ∷ rest) h = rw (ne_eqb x 32 (λ e. omega arith), trimmed)

-- The digits of a number: what they say, and that they start with a digit, which is 0 in 0 only.
record Digits (s : List ℕ) (n : ℕ) : Type 0 where
  says : digits_after 0 s ≡ Some n
  first : 48 ≤ get_or s 0 0
  leads : 0 < n → 48 < get_or s 0 0

-- The byte of a digit d is one.
is_digit : (d : ℕ) → d < 10 → digit_byte (48 + d) ≡ true
unfolding digit_byte
is_digit d h = in_range 48 57 (48 + d) (omega arith) (omega arith)

-- One digit more gives ten times the number and that digit.
digit_more : (n m d : ℕ) (s : List ℕ) → d < 10 → digits_after n s ≡ Some m → digits_after n (s ++ ((48 + d) ∷ [])) ≡ Some (10 * m + d)
unfolding digits_after
digit_more n m d [] h e =
    let same : n ≡ m = cc in
    rw (is_digit d h, digits_after) (ap Some (omega arith))
digit_more n m d (x ∷ rest) h e = go (digit_byte x) refl (digit_more (10 * n + (x - 48)) m d rest h)
  where
    go : (q : Bool) → digit_byte x ≡ q
        → (digits_after (10 * n + (x - 48)) rest ≡ Some m → digits_after (10 * n + (x - 48)) (rest ++ ((48 + d) ∷ [])) ≡ Some (10 * m + d))
        → digits_after n ((x ∷ rest) ++ ((48 + d) ∷ [])) ≡ Some (10 * m + d)
    go true t ih = rw (t, digits_after) (ih (rw (t, digits_after) at e))
    go false t ih = let never : None ≡ Some m = rw (t, digits_after) at e in cc

-- Digits of a number that is not 0 stay so with one digit more.
digits_more : (s : List ℕ) (m d : ℕ) → 0 < m → d < 10 → Digits s m → Digits (s ++ ((48 + d) ∷ [])) (10 * m + d)
digits_more [] m d pos h g = absurd (omega (arith, g.first))
digits_more (x ∷ rest) m d pos h g = record {
  says = digit_more 0 m d (x ∷ rest) h g.says;
  first = g.first;
  leads = λ p. g.leads pos;
}

-- A number of more than one digit fits in one column less without its last.
fewer : (w n : ℕ) → 10 ≤ n → n < 10 ^ suc w → (0 < w) × (n / 10 < 10 ^ w)
fewer zero n h l = absurd (omega arith)
fewer (suc w) n h l = (omega arith, omega (arith, pow-suc 10 (suc w)))

-- A number that w columns hold is written as its digits.
decimal_digits : (w n : ℕ) → 0 < w → n < 10 ^ w → Digits (decimal w n) n
unfolding decimal digits_after
decimal_digits zero n pos h = absurd (omega arith)
decimal_digits (suc w) n pos h = go (ltb n 10) refl (decimal_digits w (n / 10))
  where
    go : (q : Bool) → ltb n 10 ≡ q → (0 < w → n / 10 < 10 ^ w → Digits (decimal w (n / 10)) (n / 10)) → Digits (decimal (suc w) n) n
    go true t ih = let l = ltb-true n 10 t in
        rw (t, decimal)
        (record { says = digit_more 0 0 n [] l refl ∙ ap Some (omega arith); first = omega arith; leads = λ p. omega arith })
    go false t ih =
        let l : 10 ≤ n = ltb-false n 10 t in
        let f = fewer w n l h in
        let whole : 10 * (n / 10) + n % 10 ≡ n = omega arith in
        rw (t, decimal) (rw whole at (digits_more (decimal w (n / 10)) (n / 10) (n % 10) (omega arith) (omega arith) (ih f.0 f.1)))

-- Digits read as the number they say: where it is not 0, by the digit they start with.
digits_read : (s : List ℕ) (n : ℕ) → 0 < n → Digits s n → decimal_in s ≡ Some n
unfolding decimal_in
digits_read [] n pos g = absurd (omega (arith, g.first))
digits_read (x ∷ []) n pos g = g.says
digits_read (x ∷ (y ∷ rest)) n pos g = rw (ne_eqb x 48 (λ e. omega (arith, g.leads pos)), decimal_in) g.says

-- 0 is one digit, whatever the columns.
decimal_reads : (w n : ℕ) → 0 < w → Digits (decimal w n) n → decimal_in (decimal w n) ≡ Some n
unfolding between digit_byte decimal decimal_in digits_after
decimal_reads zero zero pos g = absurd (omega arith)
decimal_reads (suc w) zero pos g = refl
decimal_reads w (suc n) pos g = digits_read (decimal w (suc n)) (suc n) (omega arith) g

-- A number written in w columns, w at least 1, reads back.
pub column_reads : (w n : ℕ) → 0 < w → n < 10 ^ w → column_number (column_of w n) ≡ Some n
unfolding column_number column_of blank
column_reads w n pos h =
    let g = decimal_digits w n pos h in
    ap decimal_in (trimmed_blanks (w - length (decimal w n)) (decimal w n) ∙ trimmed_none (decimal w n) (omega (arith, g.first)))
    ∙ decimal_reads w n pos g

-- The part of a text that stands between p and r.
pub part_at : (p q r : List ℕ) (at n : ℕ) → length p ≡ at → length q ≡ n → take n (drop at (p ++ (q ++ r))) ≡ q
part_at p q r at n a e = rw (drop_at p (q ++ r) at a) (take_at q r n e)

-- A number reads back wherever its columns stand.
pub column_at : (p r : List ℕ) (at w n : ℕ) → length p ≡ at → 0 < w → n < 10 ^ w → column_number (take w (drop at (p ++ (column_of w n ++ r)))) ≡ Some n
column_at p r at w n a pos h = ap column_number (part_at p (column_of w n) r at w a (column_length w n)) ∙ column_reads w n pos h

-- The header of a sheet, and where its lines stand (document 01, "Sheets").
use Prim.Native.Nat.{ℕ, suc, ◌+◌, ◌-◌, ◌≤◌, ◌<◌}
use mathlib.Core.Bool.{Bool, true, false, and-eq-true_iff}
use mathlib.Core.List.{List, [], ◌∷◌}
use Rattle.std.specs.Prelude.{Option, None, Some, is_some}
use Rattle.std.specs.Option.{ok_or}
use mathlib.Core.Path.{◌≡◌, refl, sym, ap, ◌∙◌}
use native.Mathlib.Omega.{arith}
use borrow.Author.Tests.{eqb-true, eq-eqb}
use lib.Dec.{eqb}
use lib.ListN.{length, take, drop, get_or}
use Rattle.colour.specs.declared.refusal.Refusal.TheVariants as Q
use Rattle.colour.specs.Question.{asks, first_no}
use Rattle.sheet.specs.Answers.{header_answer}
use Rattle.sheet.specs.Column.{newline, column_number}
use Rattle.sheet.specs.Line.{line_length}
use Rattle.sheet.specs.Steps.{within}
use Rattle.sheet.specs.Sheet.{title, same_bytes, count_columns, line_start, header_formed, count_if, line_count, read_header, line_part}
use Rattle.sheet.proofs.Laws.Reading.Digits.{within_some, within_yes}
use Rattle.sheet.proofs.Laws.Numbers.{line_length_is, line_start_is}

-- What a good header of n lines has: the title, the count after it, a newline, and as many bytes after that as the lines take.
pub record Formed (s : List ℕ) (n : ℕ) : Type 0 where
  pub titled : same_bytes (take (length title) s) title ≡ true
  pub ended : get_or s (length title + count_columns) 0 ≡ newline
  pub count : column_number (take count_columns (drop (length title) s)) ≡ Some n
  pub whole : length s ≡ line_start n

-- A count is taken where the header is so formed and the length is that of so many lines.
taken : (b : Bool) (o : Option ℕ) (s : List ℕ) (n : ℕ) → count_if b o s ≡ Some n → (b ≡ true) × (o ≡ Some n) × (length s ≡ line_start n)
unfolding count_if
taken false o s n e = let z : ◌≡◌ {A = ℕ} 0 1 = cc in absurd (omega arith)
taken true None s n e = let z : ◌≡◌ {A = ℕ} 0 1 = cc in absurd (omega arith)
taken true (Some m) s n e = go (eqb (length s) (line_start m)) refl e
  where
    go : (q : Bool) → eqb (length s) (line_start m) ≡ q → count_if true (Some m) s ≡ Some n
        → (true ≡ true) × (Some m ≡ Some n) × (length s ≡ line_start n)
    go true l e =
        let same : Some m ≡ Some n = rw (l, count_if) at e in
        let same' : m ≡ n = cc in
        (refl, same, eqb-true _ _ l ∙ ap line_start same')
    go false l e =
        let no : ◌≡◌ {A = Option ℕ} None (Some n) = rw (l, count_if) at e in
        let z : ◌≡◌ {A = ℕ} 0 1 = cc in
        absurd (omega arith)

-- So a count says that the header is so formed, and the other way round.
pub formed : (s : List ℕ) (n : ℕ) → line_count s ≡ Some n → Formed s n
unfolding line_count header_formed
formed s n e =
    let h = taken _ _ s n e in
    let t = (and-eq-true_iff _ _).0 h.0 in
    record { titled = t.0; ended = eqb-true _ _ t.1; count = h.1; whole = h.2 }

pub counted : (s : List ℕ) (n : ℕ) → Formed s n → line_count s ≡ Some n
unfolding line_count header_formed count_if
counted s n f = rw (f.titled, eq-eqb _ _ f.ended, f.count, count_if, eq-eqb (length s) (line_start n) f.whole)

-- The answer of a header that was read: the number of lines, or the refusal.
pub header_read : (s : List ℕ) → header_answer (ok_or (line_count s) Q.Header) ≡ read_header s
unfolding header_answer read_header first_no
header_read s = go (line_count s)
  where
    go : (o : Option ℕ) → header_answer (ok_or o Q.Header) ≡ record { number = first_no (asks 11 (is_some o) ∷ []); lines = o }
    go None = refl
    go (Some n) = refl

-- A header that is not so formed counts nothing.
pub not_good : (s : List ℕ) → ((n : ℕ) → Formed s n → ⊥) → None ≡ line_count s
not_good s h = go (line_count s) refl
  where
    go : (o : Option ℕ) → line_count s ≡ o → None ≡ line_count s
    go None e = sym e
    go (Some n) e = absurd (h n (formed s n e))

-- A sheet without the title has no good header.
pub not_titled : (s : List ℕ) (n : ℕ) → same_bytes (take (length title) s) title ≡ false → Formed s n → ⊥
not_titled s n e f = let z : ◌≡◌ {A = ℕ} 0 1 = cc f.titled in omega arith

-- The length of a sheet leaves one number that a good header can count: it is at most that number, and no other.
module _ (s : List ℕ) (lines n : ℕ) (exact : length s ≡ line_start lines) (f : Formed s n) where
  same_lines : n ≡ lines
  same_lines = omega (arith, f.whole, line_start_is n, line_start_is lines)

  pub count_found : None ≡ within lines (column_number (take count_columns (drop (length title) s))) → ⊥
  count_found e = let z : ◌≡◌ {A = ℕ} 0 1 = cc (within_yes lines n (omega (arith, same_lines)), f.count) in omega arith

  pub count_is : (m : ℕ) → Some m ≡ within lines (column_number (take count_columns (drop (length title) s))) → m ≡ lines
  count_is m e =
      let same : m ≡ n = cc ((within_some lines _ m e).0, f.count) in
      omega (arith, same_lines)

-- A line ends where the next one starts.
pub line_ends : (k : ℕ) → line_start (suc k) ≡ line_start k + line_length
line_ends k = omega (arith, line_start_is k, line_start_is (suc k), line_length_is)

-- Each line that a good header counts lies within the sheet.
pub line_fits : (s : List ℕ) (n k : ℕ) → line_count s ≡ Some n → k < n → line_start (suc k) ≤ length s
line_fits s n k e h = omega (arith, (formed s n e).whole, line_start_is (suc k), line_start_is n)

-- A part as long as a line that starts where line k does is that line.
pub line_part_is : (s : List ℕ) (k at : ℕ) → at ≡ line_start k → take (at + line_length - at) (drop at s) ≡ line_part s k
unfolding line_part
line_part_is s k at e =
    let size : at + line_length - at ≡ line_length = omega arith in
    rw (size, e)

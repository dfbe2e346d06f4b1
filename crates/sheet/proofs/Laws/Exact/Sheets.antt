-- A sheet that reads as good is the very sheet that is written from what it says (document 01, "Sheets").
use Prim.Native.Nat.{ℕ, zero, suc, ◌+◌, ◌^◌, ◌≤◌, ◌<◌}
use mathlib.Core.Bool.{true}
use mathlib.Core.List.{List, [], ◌∷◌, ◌++◌, append_assoc}
use Rattle.std.specs.Prelude.{Option, None, Some}
use mathlib.Core.Path.{◌≡◌, refl, sym, ap, ◌∙◌}
use native.Mathlib.Omega.{arith}
use lib.ListN.{length, take, drop, take-append-drop, drop_of_length-le}
use Rattle.sheet.specs.declared.line.Line.{Line}
use Rattle.sheet.specs.Line.{name_start, line_length, line_of}
use Rattle.sheet.specs.Sheet.{title, count_columns, header_length, line_start, line_count, line_part, lines_from, lines_by, lines_of, all_good}
use Rattle.sheet.specs.Entries.{Entry, header_bytes, lines_bytes, sheet_bytes, entry_good, entries_good, line_said, lines_said}
use Rattle.sheet.proofs.Laws.Exact.Lines.{number_exact, column_fits, line_exact, line_name_good, line_name_size}
use Rattle.sheet.proofs.Laws.Reading.Header.{Formed, formed, line_ends}
use Rattle.sheet.proofs.Laws.Numbers.{line_start_is}
use Rattle.sheet.proofs.Laws.Ranges.{GoodRange, Ranged, line_ranged}
use Rattle.sheet.proofs.Laws.Parts.{part_first, part_length}
use Rattle.sheet.proofs.Laws.Text.{next_byte, same_bytes_lem}

-- A sheet with a good header is as long as the header, at the least.
header_room : (s : List ℕ) (n : ℕ) → Formed s n → header_length ≤ length s
unfolding line_start
header_room s n f = omega (arith, f.whole)

-- It starts with the header written for its number of lines.
pub header_exact : (s : List ℕ) (n : ℕ) → line_count s ≡ Some n → s ≡ header_bytes n ++ drop header_length s
unfolding header_bytes header_length
header_exact s n e =
    let f = formed s n e in
    let room = header_room s n f in
    let titled = same_bytes_lem (take (length title) s) title f.titled in
    let count = number_exact s (length title) count_columns n (omega arith) f.count in
    let ended = next_byte s (length title + count_columns) (omega arith) in
    let newline-is = f.ended in
    simp append_assoc (cc (take-append-drop (length title) s))

-- The entry that a line says: its sample, and the name's bytes in the line.
unfoldable pub entry_of : List ℕ → Line → Entry
entry_of s l = record { sample = l.sample; name = take l.name_length (drop name_start s) }

-- The entries that the good lines of a sheet say, of lines from line k on, and of all its lines.
unfoldable pub entries_from : List ℕ → ℕ → List (Option Line) → List Entry
entries_from s k [] = []
entries_from s k (None ∷ rest) = entries_from s (suc k) rest
entries_from s k (Some l ∷ rest) = entry_of (line_part s k) l ∷ entries_from s (suc k) rest

abbrev pub entries_of : List ℕ → List (Option Line) → List Entry
entries_of s lines = entries_from s 0 lines

-- The entry that a good line says is good, and the line written from it says the same.
entry_good_lem : (s : List ℕ) (l : Line) → line_of s ≡ Some l → entry_good (entry_of s l) ≡ true
unfolding entry_good entry_of Ranged
entry_good_lem s l e =
    let r : GoodRange l = rw e at (line_ranged s) in
    rw (r.tag, r.codes, line_name_good s l e)

entry_says : (s : List ℕ) (l : Line) → line_of s ≡ Some l → line_said (entry_of s l) ≡ l
unfolding line_said entry_of
entry_says s l e = rw (line_name_size s l e)

-- What the entries of the n lines from line k on are: the sheet from there is written from them, and they are n, are good and say those lines.
record Entries (s : List ℕ) (k n : ℕ) (lines : List (Option Line)) (es : List Entry) : Type 0 where
  bytes : drop (line_start k) s ≡ lines_bytes es
  count : length es ≡ n
  good : entries_good es ≡ true
  same : lines_said es ≡ lines

-- Good lines up to the sheet's end have such entries.
lines_exact : (s : List ℕ) (k n : ℕ) → length s ≡ line_start (k + n) → all_good (lines_from s k n) ≡ true
    → Entries s k n (lines_from s k n) (entries_from s k (lines_from s k n))
unfolding lines_from lines_bytes entries_from entry_of all_good line_part entries_good lines_said
lines_exact s k zero whole g = record {
  bytes = drop_of_length-le s {i = line_start k} (omega (arith, line_start_is k, line_start_is (k + 0)));
  count = refl;
  good = refl;
  same = refl;
}
lines_exact s k (suc n) whole g =
    go (line_of (line_part s k)) refl g
    (lines_exact s (suc k) n (omega (arith, line_start_is (k + suc n), line_start_is (suc k + n))))
  where
    rest : List (Option Line)
    rest = lines_from s (suc k) n

    go : (o : Option Line) → line_of (line_part s k) ≡ o → all_good (o ∷ rest) ≡ true
        → (all_good rest ≡ true → Entries s (suc k) n rest (entries_from s (suc k) rest))
        → Entries s k (suc n) (o ∷ rest) (entries_from s k (o ∷ rest))
    go None e g ih = record { bytes = cc; count = cc; good = cc; same = cc }
    go (Some l) e g ih =
        let h = ih g in
        record {
          bytes = cc (part_first s (line_start k) line_length, line_ends k, line_exact (line_part s k) l e, h.bytes);
          count = ap suc h.count;
          good = rw (entry_good_lem (line_part s k) l e, h.good);
          same = rw (entry_says (line_part s k) l e, h.same);
        }

-- A sheet whose header and lines are all good.
module _ (s : List ℕ) (n : ℕ) (lines : List (Option Line)) (header : line_count s ≡ Some n) (e : lines_of s ≡ lines) (g : all_good lines ≡ true) where
  -- Its header counts its entries.
  counted : Entries s 0 n lines (entries_of s lines)
  unfolding lines_of lines_by
  counted =
      let same : lines ≡ lines_from s 0 n = sym (rw header at e) in
      let whole : length s ≡ line_start (0 + n) = omega (arith, (formed s n header).whole, line_start_is n, line_start_is (0 + n)) in
      rw same (lines_exact s 0 n whole (rw same at g))

  -- It is the sheet written from the entries that its lines say.
  pub sheet_exact : s ≡ sheet_bytes (entries_of s lines)
  unfolding line_start sheet_bytes
  sheet_exact =
      let start : line_start 0 ≡ header_length = omega arith in
      rw (counted.count, ← counted.bytes, start) (header_exact s n header)

  -- These are good, are no more than a header can count, and say those lines.
  pub entries_exact : (entries_good (entries_of s lines) ≡ true) × (length (entries_of s lines) < 10 ^ count_columns) × (lines_said (entries_of s lines) ≡ lines)
  unfolding header_length
  entries_exact =
      let f = formed s n header in
      let size : length (take count_columns (drop (length title) s)) ≡ count_columns =
      part_length s (length title) count_columns (omega (arith, header_room s n f)) in
      let few : n < 10 ^ count_columns = rw size at (column_fits (take count_columns (drop (length title) s)) n f.count) in
      (counted.good, rw counted.count few, counted.same)

-- So two such sheets that say the same entries are the same bytes.
pub same_sheet : (s t : List ℕ) (n : ℕ) (lines : List (Option Line)) → line_count s ≡ Some n → lines_of s ≡ lines → line_count t ≡ Some n → lines_of t ≡ lines
    → all_good lines ≡ true → entries_of s lines ≡ entries_of t lines → s ≡ t
same_sheet s t n lines c e d f g same = sheet_exact s n lines c e g ∙ ap sheet_bytes same ∙ sym (sheet_exact t n lines d f g)

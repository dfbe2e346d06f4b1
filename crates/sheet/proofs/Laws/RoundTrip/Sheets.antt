-- A sheet of written lines reads back: its count, its lines, and the name for a tag (document 01, "Sheets").
use Prim.Native.Nat.{ℕ, suc, ◌+◌, ◌*◌, ◌^◌, ◌<◌}
use mathlib.Core.Bool.{Bool, true, false, ◌&&◌, and-eq-true_iff}
use mathlib.Core.List.{List, [], ◌∷◌, ◌++◌, append_assoc}
use Rattle.std.specs.Prelude.{Some}
use mathlib.Core.Path.{◌≡◌, refl, ◌∙◌}
use native.Mathlib.Omega.{arith}
use lib.Dec.{eqb}
use lib.ListN.{length, take, drop, get_or, length-append}
use lib.Seq.{get_or_at, drop-append-add}
use Rattle.colour.specs.Colour.{is_tag, codes_fit}
use Rattle.sheet.specs.Column.{newline, column_number, column_of}
use Rattle.sheet.specs.Line.{name_start, line_length, name_good, line_of, line_bytes}
use Rattle.sheet.specs.Sheet.{title, same_bytes, count_columns, header_length, line_start, line_count, line_part, lines_from, lines_by, lines_of}
use Rattle.sheet.specs.Sheet.{empty_part, bytes_of, all_good, name_part_from, name_part}
use Rattle.sheet.specs.Entries.{Entry, entries_good, entry_good, header_bytes, line_said, lines_bytes, lines_said, name_for, sheet_bytes}
use Rattle.sheet.proofs.Laws.RoundTrip.Columns.{part_at, column_at}
use Rattle.sheet.proofs.Laws.Reading.Header.{counted}
use Rattle.sheet.proofs.Laws.Reading.Lookup.{where_good, looked_up_lem}
use Rattle.sheet.proofs.Laws.Names.{name_good_lem}
use Rattle.sheet.proofs.Laws.Numbers.{line_length_is}
use Rattle.sheet.proofs.Laws.Writing.Lengths.{column_length, line_bytes_length}
use Rattle.sheet.proofs.Laws.RoundTrip.Lines.{line_reads, name_stands}

-- The line written from an entry. That of a good entry has the length of a line, and reads back.
abbrev line : Entry → List ℕ
line e = line_bytes e.sample e.name

record Stands (e : Entry) : Type 0 where
  fills : length (line e) ≡ line_length
  reads : line_of (line e) ≡ Some (line_said e)

stands : (e : Entry) → entry_good e ≡ true → Stands e
unfolding entry_good line_said
stands e g =
    let named = (and-eq-true_iff (is_tag e.sample.tag && codes_fit e.sample.colour) (name_good e.name)).0 g in
    let ranged = (and-eq-true_iff _ _).0 named.0 in
    record {
      fills = line_bytes_length e.sample e.name (name_good_lem e.name named.1).fits;
      reads = line_reads e.sample e.name ranged.0 ranged.1 named.1;
    }

first_stands : (e : Entry) (rest : List Entry) → entries_good (e ∷ rest) ≡ true → Stands e × (entries_good rest ≡ true)
unfolding entries_good
first_stands e rest g = let h = (and-eq-true_iff (entry_good e) (entries_good rest)).0 g in (stands e h.0, h.1)

-- A header for n lines, whatever follows it: the title, the count and the newline stand where they are read.
module _ (n : ℕ) (t : List ℕ) where
  header_is : header_bytes n ++ t ≡ title ++ (column_of count_columns n ++ (newline ∷ t))
  unfolding header_bytes
  header_is = simp append_assoc

  title_stands : same_bytes (take (length title) (header_bytes n ++ t)) title ≡ true
  unfolding title same_bytes
  title_stands = rw header_is

  count_stands : n < 10 ^ count_columns → column_number (take count_columns (drop (length title) (header_bytes n ++ t))) ≡ Some n
  unfolding count_columns
  count_stands h = rw header_is (column_at title (newline ∷ t) (length title) count_columns n refl (omega arith) h)

  newline_stands : get_or (header_bytes n ++ t) (length title + count_columns) 0 ≡ newline
  newline_stands =
      rw (header_is, ← append_assoc title)
      (get_or_at (title ++ column_of count_columns n) newline t 0 _ (simp (length-append, column_length)))

-- Line 0 starts after the header, and each line after the one before it.
header_length_lem : (n : ℕ) → length (header_bytes n) ≡ line_start 0
unfolding header_bytes header_length line_start
header_length_lem n = simp (length-append, column_length) (omega (arith, line_length_is))

next_start : (p : List ℕ) (k : ℕ) (e : Entry) → length p ≡ line_start k → Stands e → length (p ++ line e) ≡ line_start (suc k)
unfolding line_start
next_start p k e a h = length-append p (line e) ∙ omega (arith, h.fills, line_length_is, a)

-- The header and the lines fill the sheet.
lines_length : (es : List Entry) → entries_good es ≡ true → length (lines_bytes es) ≡ line_length * length es
unfolding lines_bytes
lines_length [] g = omega (arith, line_length_is)
lines_length (e ∷ rest) g =
    let h = first_stands e rest g in
    length-append (line e) (lines_bytes rest) ∙ omega (arith, h.0.fills, lines_length rest h.1, line_length_is)

sheet_length : (es : List Entry) → entries_good es ≡ true → length (sheet_bytes es) ≡ line_start (length es)
unfolding sheet_bytes line_start
sheet_length es g =
    length-append (header_bytes (length es)) (lines_bytes es)
    ∙ omega (arith, header_length_lem (length es), lines_length es g, line_length_is)

-- The count reads back.
count_reads : (es : List Entry) → entries_good es ≡ true → length es < 10 ^ count_columns → line_count (sheet_bytes es) ≡ Some (length es)
unfolding sheet_bytes
count_reads es g few =
    let n : ℕ = length es in
    let t : List ℕ = lines_bytes es in
    counted (sheet_bytes es) n
    (record { titled = title_stands n t; ended = newline_stands n t; count = count_stands n t few; whole = sheet_length es g })

-- The lines from line k on read back, after what stands before them.
lines_read : (p : List ℕ) (k : ℕ) (es : List Entry) → length p ≡ line_start k → entries_good es ≡ true
    → lines_from (p ++ lines_bytes es) k (length es) ≡ lines_said es
unfolding lines_bytes lines_from line_part lines_said
lines_read p k [] a g = refl
lines_read p k (e ∷ rest) a g =
    let h = first_stands e rest g in
    let more = lines_read (p ++ line e) (suc k) rest (next_start p k e a h.0) h.1 in
    rw (part_at p (line e) (lines_bytes rest) (line_start k) line_length a h.0.fills, h.0.reads, rw append_assoc at more)

-- The name for the tag is found among the lines from line k on, after what stands before them.
name_found : (tag : ℕ) (p : List ℕ) (k : ℕ) (es : List Entry) → length p ≡ line_start k → entries_good es ≡ true
    → bytes_of (name_part_from tag k (lines_said es)) (p ++ lines_bytes es) ≡ name_for tag es
unfolding lines_said line_said lines_bytes bytes_of name_part_from empty_part name_for
name_found tag p k [] a g = refl
name_found tag p k (e ∷ rest) a g =
    let h = first_stands e rest g in
    go (eqb e.sample.tag tag) refl (rw append_assoc at (name_found tag (p ++ line e) (suc k) rest (next_start p k e a h.0) h.1))
  where
    go : (q : Bool) → eqb e.sample.tag tag ≡ q
        → bytes_of (name_part_from tag (suc k) (lines_said rest)) (p ++ (line e ++ lines_bytes rest)) ≡ name_for tag rest
        → bytes_of (name_part_from tag k (lines_said (e ∷ rest))) (p ++ lines_bytes (e ∷ rest)) ≡ name_for tag (e ∷ rest)
    go true t ih = rw (t, name_part_from, name_for, ← a, drop-append-add p _ name_start) (name_stands e.sample e.name (lines_bytes rest))
    go false t ih = rw (t, name_part_from, name_for) ih

-- All lines said are good.
said_good : (es : List Entry) → all_good (lines_said es) ≡ true
unfolding lines_said all_good
said_good [] = refl
said_good (e ∷ rest) = said_good rest

-- A sheet written from good entries reads back: the count is their number, and each line says its entry.
pub sheet_reads : (es : List Entry) → entries_good es ≡ true → length es < 10 ^ count_columns
    → (line_count (sheet_bytes es) ≡ Some (length es)) × (lines_of (sheet_bytes es) ≡ lines_said es)
unfolding sheet_bytes lines_of lines_by
sheet_reads es g few =
    let count = count_reads es g few in
    (count, rw count (lines_read (header_bytes (length es)) 0 es (header_length_lem (length es)) g))

-- The lookup in such a sheet hands back the name of the first entry with the tag.
pub sheet_name : (es : List Entry) (tag : ℕ) → entries_good es ≡ true → length es < 10 ^ count_columns
    → bytes_of (name_part (sheet_bytes es) tag) (sheet_bytes es) ≡ name_for tag es
unfolding sheet_bytes lines_by where_good
sheet_name es tag g few =
    rw (looked_up_lem (sheet_bytes es) tag (Some (length es)) (count_reads es g few))
    (rw (lines_read (header_bytes (length es)) 0 es (header_length_lem (length es)) g, said_good es) (name_found tag (header_bytes (length es)) 0 es (header_length_lem (length es)) g))

-- A written line reads back as it was given (document 01, "Sheets").
use Prim.Native.Nat.{ℕ}
use mathlib.Core.Bool.{true, ◌&&◌, and-eq-true_iff}
use mathlib.Core.List.{List, [], ◌∷◌, ◌++◌, append-nil, append_assoc}
use Rattle.std.specs.Prelude.{Some}
use mathlib.Core.Path.{◌≡◌, refl, sym, ◌∙◌}
use native.Mathlib.Omega.{arith}
use lib.ListN.{length, take, drop, get_or, length-append}
use lib.Seq.{take_at, drop_at, get_or_at, take-append_seam}
use borrow.Author.Tests.{ltb-true, eq-eqb}
use Rattle.colour.specs.declared.Sample.{Sample}
use Rattle.colour.specs.Colour.{Channel, Red, Green, Blue, code_in, is_tag, codes_fit}
use Rattle.colour.proofs.Laws.Channels.{fit_codes}
use Rattle.sheet.specs.Column.{blank, newline, column_number, column_of}
use Rattle.sheet.specs.Line.{tag_columns, code_columns, name_columns, red_start, green_start, blue_start, blank_at, name_start, newline_at, line_length}
use Rattle.sheet.specs.Line.{name_good, line_from, name_field, code_column, line_numbers, line_of, number_columns, line_bytes, write_line}
use Rattle.sheet.proofs.Laws.RoundTrip.Columns.{column_at}
use Rattle.sheet.proofs.Laws.Reading.Lines.{Formed, forms}
use Rattle.sheet.proofs.Laws.Names.{name_good_lem, filled, filled_length, filled_name, filled_good}
use Rattle.sheet.proofs.Laws.Writing.Lines.{accepted}
use Rattle.sheet.proofs.Laws.Writing.Lengths.{column_length, numbers_length, start_length, line_bytes_length}

-- Where a channel's code starts.
code_start : Channel → ℕ
code_start Red = red_start
code_start Green = green_start
code_start Blue = blue_start

module _ (s : Sample) (name : List ℕ) where
  -- The columns of the line: the four numbers, and what stands after them.
  abbrev tag : List ℕ
  tag = column_of tag_columns s.tag

  abbrev code : Channel → List ℕ
  code h = column_of code_columns (code_in h s.colour)

  abbrev numbers : List ℕ
  numbers = number_columns s

  abbrev after : List ℕ → List ℕ
  after t = blank ∷ (filled name ++ (newline ∷ t))

  -- A line is these, whatever follows it.
  line_parts : (t : List ℕ) → line_bytes s name ++ t ≡ numbers ++ after t
  unfolding number_columns line_bytes filled code_in
  line_parts t = simp append_assoc

  line_is : line_bytes s name ≡ numbers ++ after []
  line_is = sym (append-nil (line_bytes s name)) ∙ line_parts []

  -- The tag reads back.
  tag_reads : is_tag s.tag ≡ true → column_number (take tag_columns (line_bytes s name)) ≡ Some s.tag
  unfolding is_tag number_columns line_bytes tag_columns
  tag_reads t = let h = ltb-true s.tag _ t in simp append_assoc (column_at [] _ 0 tag_columns s.tag refl (omega arith) (omega arith))

  -- A channel's code reads back where its column stands between p and r.
  code_at : (h : Channel) (p r : List ℕ) → codes_fit s.colour ≡ true → line_bytes s name ≡ p ++ (code h ++ r)
      → length p ≡ code_start h → code_column (line_bytes s name) (code_start h) ≡ Some (code_in h s.colour)
  unfolding code_column code_columns
  code_at h p r f e a = rw e (column_at p r (code_start h) code_columns _ a (omega arith) (omega (arith, (fit_codes s.colour).0 f h)))

  -- So each does.
  code_reads : codes_fit s.colour ≡ true → (h : Channel) → code_column (line_bytes s name) (code_start h) ≡ Some (code_in h s.colour)
  unfolding number_columns code_in code_start red_start green_start blue_start
  code_reads f Red = code_at Red tag (code Green ++ code Blue ++ after []) f (line_is ∙ simp append_assoc) (simp column_length)
  code_reads f Green = code_at Green (tag ++ code Red) (code Blue ++ after []) f (line_is ∙ simp append_assoc) (simp (length-append, column_length))
  code_reads f Blue = code_at Blue (tag ++ code Red ++ code Green) (after []) f (line_is ∙ simp append_assoc) (simp (length-append, column_length))

  -- The numbers read back, beside a name of n bytes.
  numbers_read : (n : ℕ) → is_tag s.tag ≡ true → codes_fit s.colour ≡ true
      → line_numbers (line_bytes s name) n ≡ Some (record { sample = s; name_length = n })
  unfolding line_numbers code_start code_in line_from
  numbers_read n t f =
      let good : (is_tag s.tag && codes_fit s.colour) ≡ true = (and-eq-true_iff _ _).1 (t, f) in
      rw (tag_reads t, code_reads f Red, code_reads f Green, code_reads f Blue) (rw (good, line_from))

  -- After the numbers stand the blank, the name's columns and the newline.
  blank_stands : get_or (line_bytes s name) blank_at 0 ≡ blank
  blank_stands = rw line_is (get_or_at numbers blank _ 0 blank_at (numbers_length s))

  name_on : (t : List ℕ) → drop name_start (line_bytes s name ++ t) ≡ filled name ++ (newline ∷ t)
  name_on t = rw (line_parts t, ← append_assoc numbers (blank ∷ [])) (drop_at (numbers ++ (blank ∷ [])) _ name_start (start_length s))

  field_is : name_good name ≡ true → name_field (line_bytes s name) ≡ filled name
  unfolding name_field
  field_is g =
      rw (rw append-nil at (name_on [])) (take_at (filled name) (newline ∷ []) name_columns (filled_length name (name_good_lem name g).fits))

  newline_stands : name_good name ≡ true → get_or (line_bytes s name) newline_at 0 ≡ newline
  unfolding newline_at name_start
  newline_stands g =
      rw (line_is, ← append_assoc numbers (blank ∷ filled name))
      (get_or_at (numbers ++ (blank ∷ filled name)) newline [] 0 newline_at
      (length-append numbers (blank ∷ filled name) ∙ omega (arith, numbers_length s, filled_length name (name_good_lem name g).fits)))

  -- So it is formed as a line is.
  formed : name_good name ≡ true → Formed (line_bytes s name)
  formed g = record {
    long = line_bytes_length s name (name_good_lem name g).fits;
    parted = blank_stands;
    named = rw (field_is g) (filled_good name g);
    ended = newline_stands g;
  }

  -- A line written from a sample and a good name says that sample and the name's length.
  pub line_reads : is_tag s.tag ≡ true → codes_fit s.colour ≡ true → name_good name ≡ true
      → line_of (line_bytes s name) ≡ Some (record { sample = s; name_length = length name })
  unfolding line_of
  line_reads t f g =
      rw (forms (line_bytes s name) (formed g), line_of) (rw (field_is g, filled_name name (name_good_lem name g)) (numbers_read (length name) t f))

  -- The name's bytes stand where the name starts, whatever follows the line.
  pub name_stands : (t : List ℕ) → take (length name) (drop name_start (line_bytes s name ++ t)) ≡ name
  unfolding filled
  name_stands t = rw (name_on t, append_assoc name) (take-append_seam name _)

  -- A written line holds the name's bytes.
  pub name_reads : take (length name) (drop name_start (line_bytes s name)) ≡ name
  name_reads = rw append-nil at (name_stands [])

-- Written over the bytes lent.
module _ (s : Sample) (name lent : List ℕ) where
  -- The line stands first in the bytes lent.
  written_is : (write_line s name lent).number ≡ 0 → (write_line s name lent).left ≡ line_bytes s name ++ drop line_length lent
  unfolding write_line
  written_is z = rw (eq-eqb _ 0 z, write_line)

  -- The first 62 of the bytes lent say the sample and the name's length.
  pub written_reads : is_tag s.tag ≡ true → (write_line s name lent).number ≡ 0
      → line_of (take line_length (write_line s name lent).left) ≡ Some (record { sample = s; name_length = length name })
  unfolding write_line
  written_reads t z =
      let a = accepted s name lent z in
      rw (written_is z, take_at (line_bytes s name) _ line_length (line_bytes_length s name (name_good_lem name a.named).fits))
      (line_reads s name t a.codes a.named)

  -- They hold the name's bytes.
  pub written_name : (write_line s name lent).number ≡ 0 → take (length name) (drop name_start (write_line s name lent).left) ≡ name
  written_name z = rw (written_is z) (name_stands s name _)

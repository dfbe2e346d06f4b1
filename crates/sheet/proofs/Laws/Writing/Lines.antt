-- A line written column by column over the bytes lent (document 01, "Sheets").
use Prim.Native.Nat.{ℕ, ◌+◌, ◌-◌, ◌≤◌}
use mathlib.Core.Bool.{Bool, true}
use mathlib.Core.List.{List, [], ◌∷◌, ◌++◌, append_assoc}
use Rattle.std.specs.Prelude.{Result, Err}
use mathlib.Core.Path.{◌≡◌, refl, sym, ap, ◌∙◌}
use native.Mathlib.Omega.{arith}
use borrow.Author.Tests.{eq-eqb, ne_eqb, leb-true}
use lib.Dec.{leb}
use borrow.Rule.Slice.PartMut.{put_mid}
use lib.ListN.{length, take, drop, set, replicate, length-append}
use lib.Seq.{drop_at}
use Rattle.colour.specs.declared.Sample.{Sample}
use Rattle.colour.specs.declared.refusal.Refusal.{Refusal}
use Rattle.colour.specs.Colour.{codes_fit}
use Rattle.colour.specs.Question.{asks, first_no}
use Rattle.colour.proofs.Laws.Questions.{asked, refusal_numbered}
use Rattle.sheet.specs.Answers.{written_answer}
use Rattle.colour.specs.Refusal.{answer_number}
use Rattle.sheet.specs.Computes.{sheet_numbers}
use Rattle.sheet.specs.Column.{blank, newline, column_of}
use Rattle.sheet.specs.Line.{tag_columns, code_columns, name_columns, red_start, green_start, blue_start, blank_at, name_start, newline_at, line_length, name_good, number_columns, line_bytes, write_number, write_line}
use Rattle.sheet.specs.Steps.{put_at}
use Rattle.sheet.proofs.Laws.Parts.{part_length, put_next, set_next, part_put}
use Rattle.sheet.proofs.Laws.Names.{filled, filled_length}
use Rattle.sheet.proofs.Laws.Writing.Lengths.{column_length, numbers_length, start_length}

-- A column that was lent comes back with its number.
pub column_put : (at w n : ℕ) (s t : List ℕ) → at + w ≤ length s → t ≡ column_of (length (take (at + w - at) (drop at s))) n
    → put_mid at (at + w - at) s t ≡ put_at at (column_of w n) s
column_put at w n s t fits e =
    let width : at + w - at ≡ w = omega arith in
    let is : t ≡ column_of w n = e ∙ rw (width, part_length s at w fits) in
    rw is (part_put at (at + w - at) s (column_of w n) (column_length w n ∙ sym width))

-- A number written where the text before it ends.
column_next : (p d : List ℕ) (a w n : ℕ) → length p ≡ a → put_at a (column_of w n) (p ++ drop a d) ≡ (p ++ column_of w n) ++ drop (a + w) d
column_next p d a w n end = put_next p d a end (column_of w n) ∙ rw (column_length w n)

-- The four numbers of a line, written one after another.
pub numbers_written : (s : Sample) (l₀ l₁ l₂ l₃ l₄ : List ℕ)
    → l₁ ≡ put_at 0 (column_of tag_columns s.tag) l₀
    → l₂ ≡ put_at red_start (column_of code_columns s.colour.red) l₁
    → l₃ ≡ put_at green_start (column_of code_columns s.colour.green) l₂
    → l₄ ≡ put_at blue_start (column_of code_columns s.colour.blue) l₃
    → l₄ ≡ number_columns s ++ drop blank_at l₀
unfolding number_columns sheet_numbers
numbers_written s l₀ l₁ l₂ l₃ l₄ e₁ e₂ e₃ e₄ =
    let t : List ℕ = column_of tag_columns s.tag in
    let r : List ℕ = column_of code_columns s.colour.red in
    let g : List ℕ = column_of code_columns s.colour.green in
    let h₁ : l₁ ≡ t ++ drop red_start l₀ = e₁ ∙ column_next [] l₀ 0 tag_columns s.tag refl in
    let h₂ : l₂ ≡ (t ++ r) ++ drop green_start l₀ =
    e₂ ∙ ap (put_at red_start r) h₁ ∙ column_next t l₀ red_start code_columns s.colour.red (column_length tag_columns s.tag) in
    let h₃ : l₃ ≡ ((t ++ r) ++ g) ++ drop blue_start l₀ =
    e₃ ∙ ap (put_at green_start g) h₂
    ∙ column_next (t ++ r) l₀ green_start code_columns s.colour.green (simp (length-append, column_length)) in
    e₄ ∙ ap (put_at blue_start (column_of code_columns s.colour.blue)) h₃
    ∙ column_next ((t ++ r) ++ g) l₀ blue_start code_columns s.colour.blue (simp (length-append, column_length))

-- The rest of a line after its numbers: a blank, the name with blanks after it in a part that was lent, a newline.
module _ (s : Sample) (l₀ l₁ : List ℕ) (room : line_length ≤ length l₀) (numbers : l₁ ≡ number_columns s ++ drop blank_at l₀) where
  abbrev before : List ℕ
  before = number_columns s ++ (blank ∷ [])

  blank_set : set l₁ blank_at blank ≡ before ++ drop name_start l₀
  unfolding name_start newline_at line_length
  blank_set =
      ap (λ (l : List ℕ). set l blank_at blank) numbers ∙ set_next (number_columns s) l₀ blank_at (numbers_length s) blank (omega arith)

  name_room : length (take name_columns (drop name_start (set l₁ blank_at blank))) ≡ name_columns
  unfolding newline_at line_length
  name_room =
      let rest : drop name_start (set l₁ blank_at blank) ≡ drop name_start l₀ =
      ap (drop name_start) blank_set ∙ drop_at before (drop name_start l₀) name_start (start_length s) in
      rw rest (part_length l₀ name_start name_columns (omega arith))

  module _ (name t : List ℕ) (fits : length name ≤ name_columns)
      (named : t ≡ name ++ replicate (length (take name_columns (drop name_start (set l₁ blank_at blank))) - length name) blank) where
    name_is : t ≡ filled name
    unfolding filled
    name_is = named ∙ rw name_room

    name_size : length t ≡ name_columns
    name_size = ap length name_is ∙ filled_length name fits

    name_put : put_mid name_start name_columns (set l₁ blank_at blank) t ≡ (before ++ t) ++ drop newline_at l₀
    unfolding newline_at
    name_put =
        part_put name_start name_columns (set l₁ blank_at blank) t name_size ∙ ap (put_at name_start t) blank_set
        ∙ put_next before l₀ name_start (start_length s) t
        ∙ rw name_size

    pub line_written : set (put_mid name_start name_columns (set l₁ blank_at blank) t) newline_at newline ≡ line_bytes s name ++ drop line_length l₀
    unfolding line_bytes filled newline_at line_length
    line_written =
        ap (λ (l : List ℕ). set l newline_at newline) name_put
        ∙ set_next (before ++ t) l₀ newline_at (length-append before t ∙ omega (arith, (start_length s), name_size)) newline (omega arith)
        ∙ rw name_is (simp append_assoc)

-- A refusal has a number.
pub refused : (w : Result (Unit {0}) Refusal) (r : Refusal) → w ≡ Err r → answer_number w ≡ 0 → ⊥
refused w r e z = refusal_numbered r (sym (ap answer_number e) ∙ z)

-- What is accepted: each question was answered with yes.
pub record Accepted (s : Sample) (name lent : List ℕ) : Type 0 where
  pub codes : codes_fit s.colour ≡ true
  pub named : name_good name ≡ true
  pub room : line_length ≤ length lent

pub accepted : (s : Sample) (name lent : List ℕ) → write_number s name lent ≡ 0 → Accepted s name lent
unfolding write_number
accepted s name lent z =
    let codes = asked 4 (codes_fit s.colour) _ (λ e. omega arith) z in
    let named = asked 10 (name_good name) _ (λ e. omega arith) codes.1 in
    let room = asked 13 (leb line_length (length lent)) _ (λ e. omega arith) named.1 in
    record { codes = codes.0; named = named.0; room = leb-true line_length (length lent) room.0 }

-- What is asked of the line to write, as the code asks it.
module _ (s : Sample) (name lent : List ℕ) (codes good room : Bool) (w : Result (Unit {0}) Refusal)
    (c : codes ≡ codes_fit s.colour) (n : good ≡ name_good name) (r : room ≡ leb line_length (length lent))
    (said : answer_number w ≡ first_no (asks 4 codes ∷ asks 10 good ∷ asks 13 room ∷ [])) where
  number_is : answer_number w ≡ write_number s name lent
  unfolding write_number
  number_is = said ∙ rw (c, n, r)

  -- A refusal leaves the bytes lent.
  pub left_alone : (answer_number w ≡ 0 → ⊥) → written_answer w lent ≡ write_line s name lent
  unfolding written_answer write_line
  left_alone z = rw (number_is, ne_eqb (write_number s name lent) 0 (λ e. z (number_is ∙ e)))

  pub all_yes : answer_number w ≡ 0 → Accepted s name lent
  all_yes z = accepted s name lent (sym number_is ∙ z)

  -- The line stands over the bytes lent.
  pub line_stands : answer_number w ≡ 0 → (left : List ℕ) → left ≡ line_bytes s name ++ drop line_length lent → written_answer w left ≡ write_line s name lent
  unfolding written_answer write_line
  line_stands z left e = rw (number_is, eq-eqb (write_number s name lent) 0 (sym number_is ∙ z), e)

-- A line written from a sample and a name reads back as both, exactly where the sample has codes and the name is good.
use Prim.Native.Nat.{ℕ, ◌+◌, ◌-◌, ◌^◌, ◌≤◌, ◌<◌}
use mathlib.Core.Bool.{Bool, true, false, ◌&&◌, and-eq-true_iff}
use mathlib.Core.List.{List, ◌++◌}
use Rattle.std.specs.Prelude.{None, Some, Result, Ok, Err}
use mathlib.Core.Path.{◌≡◌, refl, sym, ap, ◌∙◌}
use native.Mathlib.Omega.{arith}
use lib.Dec.{eqb}
use lib.ListN.{length, take, drop}
use lib.Pointwise.{pointwise}
use lib.Seq.{take_all}
use borrow.Author.Tests.{eq-eqb, lt-ltb, le-leb}
use borrow.Rule.Slice.PartMut.{put_mid}
use Rattle.colour.specs.declared.Sample.{Sample}
use Rattle.colour.specs.declared.refusal.Refusal.{Refusal}
use Rattle.colour.specs.Colour.{is_tag, codes_fit}
use Rattle.colour.specs.Question.{first_no}
use Rattle.sheet.specs.declared.line.Line.{Line}
use Rattle.sheet.specs.Answers.{line_answer, written_answer}
use Rattle.colour.specs.Refusal.{answer_number}
use Rattle.sheet.specs.Line.{LineAnswer, WriteAnswer, name_start, newline_at, line_length, name_good, line_of, line_asked, read_line, write_number, write_line}
use Rattle.sheet.proofs.Laws.Names.{name_good_lem}
use Rattle.sheet.proofs.Laws.Parts.{part_tail, put_tail}
use Rattle.sheet.proofs.Laws.Text.{same_pointwise, same_self}
use Rattle.sheet.proofs.Laws.RoundTrip.Lines.{written_reads, written_name}
use Rattle.sheet.proofs.Laws.Writing.Lines.{accepted}

-- Samples that are the same are found equal, number by number.
pub same_equal : (a b : Sample) → a ≡ b
    → (eqb a.tag b.tag && (eqb a.colour.red b.colour.red && (eqb a.colour.green b.colour.green && eqb a.colour.blue b.colour.blue))) ≡ true
same_equal a b e =
    rw e (rw (eq-eqb b.tag b.tag refl, eq-eqb b.colour.red b.colour.red refl, eq-eqb b.colour.green b.colour.green refl, eq-eqb b.colour.blue b.colour.blue refl))

-- Two tests that do not both say yes.
both : (p q : Bool) → (p ≡ true → q ≡ true → ⊥) → false ≡ (p && q)
both true true n = absurd (n refl refl)
both true false n = refl
both false q n = refl

-- What a line written from a sample and a name says: both were accepted, it reads as the sample and the name's length, and it
-- holds the name.
pub record Stands (s : Sample) (name left : List ℕ) : Type 0 where
  pub codes : codes_fit s.colour ≡ true
  pub named : name_good name ≡ true
  pub line : line_of left ≡ Some (record { sample = s; name_length = length name })
  pub bytes : take (length name) (drop name_start left) ≡ name

-- The writer's answer, over as many bytes as a line has.
module _ (s : Sample) (name lent left : List ℕ) (w : Result (Unit {0}) Refusal) (room : length lent ≡ line_length) (said : written_answer w left ≡ write_line s name lent) where
  number_is : answer_number w ≡ (write_line s name lent).number
  unfolding written_answer
  number_is = ap (λ (a : WriteAnswer). a.number) said

  left_is : left ≡ (write_line s name lent).left
  unfolding written_answer
  left_is = ap (λ (a : WriteAnswer). a.left) said

  -- It refuses only where the sample has no codes or the name is not good.
  pub none_written : (answer_number w ≡ 0 → ⊥) → false ≡ (codes_fit s.colour && name_good name)
  unfolding write_line write_number first_no
  none_written refused =
      both (codes_fit s.colour) (name_good name)
      (λ f g. refused (number_is ∙ rw (f, g, le-leb line_length (length lent) (omega arith))))

  -- Where it does not, the line stands.
  pub line_written : answer_number w ≡ 0 → length left ≡ line_length → s.tag < 2 ^ 32 → Stands s name left
  unfolding is_tag write_line
  line_written accepts size tag =
      let z : (write_line s name lent).number ≡ 0 = sym number_is ∙ accepts in
      record {
        codes = (accepted s name lent z).codes;
        named = (accepted s name lent z).named;
        line =
            ap line_of (sym (take_all line_length left (omega arith)) ∙ ap (take line_length) left_is)
            ∙ written_reads s name lent (lt-ltb s.tag _ tag) z;
        bytes = ap (λ (l : List ℕ). take (length name) (drop name_start l)) left_is ∙ written_name s name lent z;
      }

-- What is read from it comes back: the sample is the same, and the name is within the line and is the same.
pub record Back (s : Sample) (name left : List ℕ) (l : Line) : Type 0 where
  pub sample : l.sample ≡ s
  pub within : name_start + l.name_length ≤ line_length
  pub bytes : pointwise eqb (take (name_start + l.name_length - name_start) (drop name_start left)) name ≡ (codes_fit s.colour && name_good name)

-- A line that stands reads as good, and what is read comes back.
module _ (s : Sample) (name left : List ℕ) (stands : Stands s name left) where
  pub never_refused : (r : Refusal) → line_answer (Err r) ≡ read_line left → ⊥
  unfolding line_answer read_line line_asked
  never_refused r read =
      let e : None ≡ line_of left = ap (λ (a : LineAnswer). a.line) read in
      let z : ◌≡◌ {A = ℕ} 0 1 = cc stands.line in
      omega arith

  module _ (l : Line) (read : line_answer (Ok l) ≡ read_line left) where
    line_is : l ≡ record { sample = s; name_length = length name }
    unfolding line_answer read_line line_asked
    line_is = let e : Some l ≡ line_of left = ap (λ (a : LineAnswer). a.line) read in cc stands.line

    length_is : l.name_length ≡ length name
    length_is = ap (λ (l : Line). l.name_length) line_is

    pub reads_back : Back s name left l
    unfolding newline_at line_length
    reads_back =
        let size : name_start + l.name_length - name_start ≡ length name = omega (arith, length_is) in
        let is : take (name_start + l.name_length - name_start) (drop name_start left) ≡ name = rw size stands.bytes in
        record {
          sample = ap (λ (l : Line). l.sample) line_is;
          within = omega (arith, length_is, (name_good_lem name stands.named).fits);
          bytes =
              ap (λ (t : List ℕ). pointwise eqb t name) is ∙ same_pointwise name name ∙ same_self name ∙ sym ((and-eq-true_iff _ _).1 (stands.codes, stands.named));
        }

-- A line written over the bytes of a sheet from byte `at` on, which were lent and come back.
pub line_put : (at : ℕ) (sheet name t : List ℕ) (s : Sample) (w : Result (Unit {0}) Refusal)
    → written_answer w t ≡ write_line s name (take (length sheet - at) (drop at sheet))
    → put_mid at (length sheet - at) sheet t ≡ take at sheet ++ (write_line s name (drop at sheet)).left
unfolding written_answer
line_put at sheet name t s w said =
    let is : t ≡ (write_line s name (drop at sheet)).left = ap (λ (a : WriteAnswer). a.left) said ∙ rw (part_tail sheet at) in
    put_tail at sheet t ∙ rw is

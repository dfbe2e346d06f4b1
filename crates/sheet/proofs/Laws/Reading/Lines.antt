-- A line read by its columns, one test after another (document 01, "Sheets").
use Prim.Native.Nat.{ℕ, ◌-◌, ◌≤◌, ◌<◌, ◌^◌}
use mathlib.Core.Bool.{Bool, true, false, ◌&&◌, and-false, and-true, and-eq-true_iff}
use mathlib.Core.List.{List}
use Rattle.std.specs.Prelude.{Option, None, Some}
use Rattle.std.specs.Option.{ok_or}
use Rattle.std.proofs.lemmas.Option.{none-some, same_Some}
use mathlib.Core.Path.{◌≡◌, refl, sym, ap, ◌∙◌}
use native.Mathlib.Omega.{arith}
use borrow.Author.Tests.{le-leb, eq-eqb, ne_eqb, ltb-true, lt-ltb, eqb-true}
use lib.Dec.{leb, eqb}
use lib.ListN.{length, drop, get_or}
use Rattle.colour.specs.declared.Sample.{Sample}
use Rattle.colour.specs.declared.refusal.Refusal.TheVariants as Q
use Rattle.colour.specs.Question.{first_no}
use Rattle.colour.specs.Colour.{Channel, Red, Green, Blue, code_in, is_tag, codes_fit}
use Rattle.colour.proofs.Laws.Channels.{fit_codes}
use Rattle.sheet.specs.declared.line.Line.{Line}
use Rattle.sheet.specs.Answers.{line_answer}
use Rattle.sheet.specs.Column.{blank, newline, trimmed}
use Rattle.sheet.specs.Line.{blank_at, newline_at, line_length, leading, name_good, name_field_good, line_from, name_columns, name_field, line_formed, line_numbers, line_of, line_asked}
use Rattle.sheet.specs.Steps.{within, name_length_in, greatest_tag, greatest_code}
use Rattle.sheet.proofs.Laws.Reading.Digits.{within_yes, within_some}
use Rattle.sheet.proofs.Laws.Text.{leading_twice, leading_most, trimmed_most}
use Rattle.sheet.proofs.Laws.Ranges.{GoodRange, Ranged, from_holds}

-- The answer of a line that was read: what it says, or the refusal.
pub line_read : (l : Option Line) → line_answer (ok_or l Q.Line) ≡ line_asked l
unfolding line_answer line_asked first_no
line_read None = refl
line_read (Some l) = refl

-- A line that says something has all its numbers: the tag, a code in each channel, and the name's length.
pub record Numbers (t : Option ℕ) (f : Channel → Option ℕ) (n : ℕ) (l : Line) : Type 0 where
  pub tag : t ≡ Some l.sample.tag
  pub code : (h : Channel) → f h ≡ Some (code_in h l.sample.colour)
  pub size : n ≡ l.name_length

abbrev pub codes : Option ℕ → Option ℕ → Option ℕ → Channel → Option ℕ
codes r g b Red = r
codes r g b Green = g
codes r g b Blue = b

of_line : (k l : Line) → k ≡ l → Numbers (Some k.sample.tag) (codes (Some k.sample.colour.red) (Some k.sample.colour.green) (Some k.sample.colour.blue)) k.name_length l
unfolding code_in
of_line k l e = record {
  tag = ap (λ (x : Line). Some x.sample.tag) e;
  code = elim [ Red ↦ ap (λ (x : Line). Some x.sample.colour.red) e | Green ↦ ap (λ (x : Line). Some x.sample.colour.green) e | Blue ↦ ap (λ (x : Line). Some x.sample.colour.blue) e ];
  size = ap (λ (x : Line). x.name_length) e;
}

pub says : (t r g b : Option ℕ) (n : ℕ) (l : Line) → line_from t r g b n ≡ Some l → Numbers t (codes r g b) n l
unfolding line_from
says None r g b n l e = absurd (none-some l e)
says (Some t) None g b n l e = absurd (none-some l e)
says (Some t) (Some r) None b n l e = absurd (none-some l e)
says (Some t) (Some r) (Some g) None n l e = absurd (none-some l e)
says (Some t) (Some r) (Some g) (Some b) n l e = go (is_tag t && codes_fit (record { red = r; green = g; blue = b })) refl
  where
    go : (q : Bool) → (is_tag t && codes_fit (record { red = r; green = g; blue = b })) ≡ q → Numbers (Some t) (codes (Some r) (Some g) (Some b)) n l
    go true h =
        let line : Line = record { sample = record { tag = t; colour = record { red = r; green = g; blue = b } }; name_length = n } in
        let same : Some line ≡ Some l = rw (h, line_from) at e in
        of_line line l (same_Some line l same)
    go false h = let none_is : None ≡ Some l = rw (h, line_from) at e in absurd (none-some l none_is)

-- Without one of its numbers, or with one out of range, a line says nothing.
module _ (t r g b : Option ℕ) (n : ℕ) where
  unless : ((l : Line) → line_from t r g b n ≡ Some l → ⊥) → None ≡ line_from t r g b n
  unless never = go (line_from t r g b n) refl
    where
      go : (o : Option Line) → line_from t r g b n ≡ o → None ≡ line_from t r g b n
      go None e = sym e
      go (Some l) e = absurd (never l e)

  ranged : (l : Line) → line_from t r g b n ≡ Some l → GoodRange l
  unfolding Ranged
  ranged l h = rw h at (from_holds Ranged t r g b n tt (λ l n r. r))

  pub no_tag : None ≡ within greatest_tag t → None ≡ line_from t r g b n
  unfolding is_tag
  no_tag e = unless (λ l h.
      let fits : l.sample.tag ≤ greatest_tag = omega (arith, ltb-true l.sample.tag (2 ^ 32) (ranged l h).tag) in
      none-some l.sample.tag (e ∙ ap (within greatest_tag) (says t r g b n l h).tag ∙ within_yes greatest_tag _ fits))

  pub no_code : (h : Channel) → None ≡ within greatest_code (codes r g b h) → None ≡ line_from t r g b n
  no_code h e = unless (λ l k.
      let fits : code_in h l.sample.colour ≤ greatest_code = (fit_codes l.sample.colour).0 (ranged l k).codes h in
      none-some (code_in h l.sample.colour) (e ∙ ap (within greatest_code) ((says t r g b n l k).code h) ∙ within_yes greatest_code _ fits))

-- With all its numbers in range it says them.
pub all_numbers : (t r g b : Option ℕ) (s : Sample) (n : ℕ) → Some s.tag ≡ within greatest_tag t
    → ((h : Channel) → Some (code_in h s.colour) ≡ within greatest_code (codes r g b h))
    → Some (record { sample = s; name_length = n }) ≡ line_from t r g b n
unfolding line_from is_tag code_in
all_numbers t r g b s n et ec =
    let tag = within_some greatest_tag t s.tag et in
    let code : (h : Channel) → (codes r g b h ≡ Some (code_in h s.colour)) × (code_in h s.colour ≤ greatest_code) = λ h. within_some greatest_code (codes r g b h) (code_in h s.colour) (ec h) in
    let tag_fits : is_tag s.tag ≡ true = lt-ltb s.tag (2 ^ 32) (omega (arith, tag.1)) in
    let good : (is_tag s.tag && codes_fit s.colour) ≡ true = (and-eq-true_iff _ _).1 (tag_fits, (fit_codes s.colour).1 (λ h. (code h).1)) in
    rw (tag.0, (code Red).0, (code Green).0, (code Blue).0) (rw (good, line_from))

-- A name's columns: the bytes that stand first, and blanks after.
good : (s : List ℕ) → name_field_good s ≡ true → Some (length (leading s)) ≡ name_length_in s
unfolding name_length_in
good s e = rw (e, name_length_in)

bad : (s : List ℕ) → name_field_good s ≡ false → None ≡ name_length_in s
unfolding name_length_in
bad s e = rw (e, name_length_in)

-- Columns that start with n name bytes: no name byte, some other byte among the rest, or n bytes of name.
module _ (s : List ℕ) (n : ℕ) (named : n ≡ length (leading s)) where
  pub name_none : n ≡ 0 → None ≡ name_length_in s
  unfolding name_field_good name_good
  name_none z = bad s (rw (← named, z))

  pub name_followed : (rest : List ℕ) → rest ≡ drop n s → (k : ℕ) → k ≡ length rest - length (trimmed rest) → k < length rest → None ≡ name_length_in s
  unfolding name_field_good
  name_followed rest r k blanks h =
      let some_byte : eqb (length (trimmed rest)) 0 ≡ false = ne_eqb (length (trimmed rest)) 0 (λ z. omega arith) in
      bad s (rw (← named, ← r, some_byte, and-false (name_good (leading s))))

  -- The tests of the columns, where only blanks follow.
  tests : (rest : List ℕ) → rest ≡ drop n s → length (trimmed rest) ≡ 0 → n ≤ name_columns → name_field_good s ≡ leb 1 n
  unfolding name_field_good name_good
  tests rest r blank-rest fits =
      rw (leading_twice s, ← named, ← r, eq-eqb (length (trimmed rest)) 0 blank-rest, le-leb n name_columns fits, eq-eqb n n refl)
      (and-true (leb 1 n && true && true) ∙ and-true (leb 1 n && true) ∙ and-true (leb 1 n))

  pub name_alone : (rest : List ℕ) → rest ≡ drop n s → (k : ℕ) → k ≡ length rest - length (trimmed rest) → length rest ≤ k
      → length s ≤ name_columns → (n ≡ 0 → ⊥) → Some n ≡ name_length_in s
  name_alone rest r k blanks h narrow some =
      let fits : n ≤ name_columns = omega (arith, leading_most s) in
      let all_blank : length (trimmed rest) ≡ 0 = omega (arith, trimmed_most rest) in
      ap Some named ∙ good s (tests rest r all_blank fits ∙ le-leb 1 n (omega arith))

-- What a good line has besides its numbers.
pub record Formed (s : List ℕ) : Type 0 where
  pub long : length s ≡ line_length
  pub parted : get_or s blank_at 0 ≡ blank
  pub named : name_field_good (name_field s) ≡ true
  pub ended : get_or s newline_at 0 ≡ newline

pub formed : (s : List ℕ) → line_formed s ≡ true → Formed s
unfolding line_formed
formed s e =
    let long : Bool = eqb (length s) line_length in
    let parted : Bool = eqb (get_or s blank_at 0) blank in
    let h = (and-eq-true_iff (long && parted && name_field_good (name_field s)) (eqb (get_or s newline_at 0) newline)).0 e in
    let k = (and-eq-true_iff (long && parted) (name_field_good (name_field s))).0 h.0 in
    let m = (and-eq-true_iff long parted).0 k.0 in
    record { long = eqb-true _ _ m.0; parted = eqb-true _ _ m.1; named = k.1; ended = eqb-true _ _ h.1 }

pub forms : (s : List ℕ) → Formed s → line_formed s ≡ true
unfolding line_formed
forms s f =
    rw (eq-eqb (length s) line_length f.long, eq-eqb (get_or s blank_at 0) blank f.parted, f.named, eq-eqb (get_or s newline_at 0) newline f.ended)

-- A line that fails one of its tests is not good; one that passes them says its numbers, beside its name.
module _ (s : List ℕ) where
  not_formed : (Formed s → ⊥) → None ≡ line_of s
  unfolding line_of
  not_formed never = go (line_formed s) refl
    where
      go : (q : Bool) → line_formed s ≡ q → None ≡ line_of s
      go true e = absurd (never (formed s e))
      go false e = rw (e, line_of)

  pub other_length : (length s ≡ line_length → ⊥) → None ≡ line_of s
  other_length h = not_formed (λ f. h f.long)

  pub no_blank : (get_or s blank_at 0 ≡ blank → ⊥) → None ≡ line_of s
  no_blank h = not_formed (λ f. h f.parted)

  pub no_newline : (get_or s newline_at 0 ≡ newline → ⊥) → None ≡ line_of s
  no_newline h = not_formed (λ f. h f.ended)

  pub no_name : None ≡ name_length_in (name_field s) → None ≡ line_of s
  no_name h = not_formed (λ f. none-some _ (h ∙ sym (good (name_field s) f.named)))

  pub has_name : (n : ℕ) → Some n ≡ name_length_in (name_field s) → length s ≡ line_length → get_or s blank_at 0 ≡ blank → get_or s newline_at 0 ≡ newline
      → line_numbers s n ≡ line_of s
  unfolding line_of
  has_name n e l b k = go (name_field_good (name_field s)) refl
    where
      go : (q : Bool) → name_field_good (name_field s) ≡ q → line_numbers s n ≡ line_of s
      go true g =
          rw (forms s (record { long = l; parted = b; named = g; ended = k }), line_of)
          (ap (line_numbers s) (same_Some _ _ (e ∙ sym (good (name_field s) g))))
      go false g = absurd (none-some n (bad (name_field s) g ∙ sym e))

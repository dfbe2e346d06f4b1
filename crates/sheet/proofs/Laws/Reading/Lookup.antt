-- The name lookup: a sheet's lines gone through one after another (document 01, "Sheets").
use Prim.Native.Nat.{ℕ, zero, suc, ◌+◌, ◌-◌, ◌≤◌, ◌<◌}
use mathlib.Core.Bool.{Bool, true, false}
use mathlib.Core.List.{List, ◌∷◌}
use Rattle.std.specs.Prelude.{Option, None, Some, Result}
use Rattle.std.specs.Option.{unwrap_or, is_some}
use Rattle.std.specs.Result.{result_ok}
use Rattle.colour.specs.declared.refusal.Refusal.{Refusal}
use mathlib.Core.Path.{◌≡◌, refl, sym, ap, ◌∙◌}
use native.Mathlib.Numerals.{add-one}
use native.Mathlib.Omega.{arith}
use borrow.Author.Tests.{eq-eqb, ne_eqb}
use borrow.Rule.Slice.PartAt.{sl_partˢ}
use borrow.Rule.Slice.Shared.{by_byte}
use denote.Ref.{Bor}
use lib.Dec.{eqb}
use lib.ListN.{length}
use Rattle.sheet.specs.declared.line.Line.{Line}
use Rattle.sheet.specs.declared.lookup.Part.{Part}
use Rattle.sheet.specs.Answers.{header_answer, line_answer}
use Rattle.sheet.specs.Line.{name_columns, name_start, newline_at, line_length, line_of, LineAnswer, line_asked, read_line}
use Rattle.sheet.specs.Sheet.{line_start, line_count, HeaderAnswer, read_header, line_part, lines_from, lines_by, lines_of, empty_part, bytes_of, all_good, name_part_from, name_part, NameIn}
use Rattle.sheet.proofs.Laws.Exact.Lines.{line_name_good, line_name_size}
use Rattle.sheet.proofs.Laws.Reading.Header.{line_ends, line_fits}
use Rattle.sheet.proofs.Laws.Names.{name_good_lem}

-- What the answers of a header and of a line say.
pub header_says : (r : Result ℕ Refusal) (s : List ℕ) → header_answer r ≡ read_header s → result_ok r ≡ line_count s
unfolding header_answer read_header
header_says r s e = ap (λ (a : HeaderAnswer). a.lines) e

pub line_says : (r : Result Line Refusal) (s : List ℕ) → line_answer r ≡ read_line s → result_ok r ≡ line_of s
unfolding line_answer read_line line_asked
line_says r s e = ap (λ (a : LineAnswer). a.line) e

-- The name of a good line has 1 to 32 bytes. So a part of no bytes is never a name that was found.
pub name_length : (s : List ℕ) (l : Line) → line_of s ≡ Some l → (1 ≤ l.name_length) × (l.name_length ≤ name_columns)
name_length s l e =
    let size = line_name_size s l e in
    let g = name_good_lem _ (line_name_good s l e) in
    (omega (arith, g.named), omega (arith, g.fits))

name_fits : (s : List ℕ) (l : Line) → line_of s ≡ Some l → l.name_length ≤ name_columns
name_fits s l e = (name_length s l e).1

-- The part, where all lines are good.
unfoldable pub where_good : Bool → Part → Part
where_good good p = elim good [ true ↦ p | false ↦ empty_part ]

-- The part that a lookup hands back, where it found so much and these lines are left, from line k on.
pub pending : Option Part → ℕ → ℕ → List (Option Line) → Part
pending found tag k lines = where_good (all_good lines) (unwrap_or found (name_part_from tag k lines))

-- What a good line leaves: the name was found already, the line has another tag, or its name is the one.
module _ (found : Option Part) (tag k : ℕ) (l : Line) (rest : List (Option Line)) where
  one_more : (more : Option Part) → unwrap_or found (name_part_from tag k (Some l ∷ rest)) ≡ unwrap_or more (name_part_from tag (k + 1) rest)
      → pending found tag k (Some l ∷ rest) ≡ pending more tag (k + 1) rest
  unfolding pending all_good
  one_more more e = ap (where_good (all_good rest)) e

  passed : (l.sample.tag ≡ tag → ⊥) → pending found tag k (Some l ∷ rest) ≡ pending found tag (k + 1) rest
  unfolding name_part_from
  passed h = one_more found (ap (unwrap_or found) (rw (ne_eqb l.sample.tag tag h, name_part_from, add-one)))

after : (found : Option Part) (tag k : ℕ) (l : Line) (rest : List (Option Line)) → is_some found ≡ true
    → pending found tag k (Some l ∷ rest) ≡ pending found tag (k + 1) rest
after None tag k l rest e = cc
after (Some p) tag k l rest e = one_more (Some p) tag k l rest (Some p) refl

hit : (found : Option Part) (tag k : ℕ) (l : Line) (rest : List (Option Line)) → is_some found ≡ false → l.sample.tag ≡ tag
    → pending found tag k (Some l ∷ rest) ≡ pending (Some (record { start = line_start k + name_start; size = l.name_length })) tag (k + 1) rest
unfolding name_part_from
hit None tag k l rest e same = one_more None tag k l rest _ (rw (eq-eqb l.sample.tag tag same, name_part_from))
hit (Some p) tag k l rest e same = cc

-- The state of a lookup before line k, with what was found so far: what is left to find gives the part that it hands back.
pub record SoFar (s : List ℕ) (tag count k : ℕ) (found : Option Part) : Type 0 where
  pub reached : k ≤ count
  pub fits : (j : ℕ) → j < count → line_start (suc j) ≤ length s
  pub left : name_part s tag ≡ pending found tag k (lines_from s k (count - k))

-- The lookup, by the lines that a header counts.
abbrev pub looked_up : ℕ → List (Option Line) → Part
looked_up tag lines = where_good (all_good lines) (name_part_from tag 0 lines)

pub looked_up_lem : (s : List ℕ) (tag : ℕ) (o : Option ℕ) → line_count s ≡ o → name_part s tag ≡ looked_up tag (lines_by o s)
unfolding lines_of name_part where_good
looked_up_lem s tag o e = ap (λ (n : Option ℕ). looked_up tag (lines_by n s)) e

-- A sheet without a good header, and the first line of one with it.
pub no_header : (s : List ℕ) (tag : ℕ) → None ≡ line_count s → empty_part ≡ name_part s tag
unfolding lines_by name_part_from all_good where_good
no_header s tag e = sym (looked_up_lem s tag None (sym e))

pub begins : (s : List ℕ) (tag count : ℕ) → Some count ≡ line_count s → SoFar s tag count 0 None
unfolding lines_by pending
begins s tag count e =
    let all : count ≡ count - 0 = omega arith in
    record {
      reached = omega arith;
      fits = λ j h. line_fits s count j (sym e) h;
      left = looked_up_lem s tag (Some count) (sym e) ∙ ap (λ (n : ℕ). looked_up tag (lines_from s 0 n)) all;
    }

-- From one state to the next.
module _ {s : List ℕ} {tag count k : ℕ} {found : Option Part} (h : SoFar s tag count k found) where
  next : k < count → (o : Option Line) → o ≡ line_of (line_part s k)
      → name_part s tag ≡ pending found tag k (o ∷ lines_from s (k + 1) (count - (k + 1)))
  unfolding lines_from
  next more o e =
      let one : count - k ≡ suc (count - (k + 1)) = omega arith in
      h.left ∙ rw (one, lines_from, e, add-one)

  -- A line that is not good.
  pub bad_line : k < count → None ≡ line_of (line_part s k) → empty_part ≡ name_part s tag
  unfolding pending all_good where_good
  bad_line more e = sym (next more None e)

  -- No line left.
  pub ends : count ≤ k → unwrap_or found empty_part ≡ name_part s tag
  unfolding pending lines_from all_good where_good name_part_from
  ends end =
      let none_left : count - k ≡ 0 = omega arith in
      sym (h.left ∙ rw (none_left, lines_from))

  -- A good line: the name was found before it, it has another tag, or its name is the one.
  module _ (more : k < count) {l : Line} (e : Some l ≡ line_of (line_part s k)) where
    onward : {found' : Option Part}
        → pending found tag k (Some l ∷ lines_from s (k + 1) (count - (k + 1))) ≡ pending found' tag (k + 1) (lines_from s (k + 1) (count - (k + 1)))
        → SoFar s tag count (k + 1) found'
    onward w = record { reached = omega arith; fits = h.fits; left = next more _ e ∙ w }

    pub found_before : is_some found ≡ true → SoFar s tag count (k + 1) found
    found_before z = onward (after _ _ _ _ _ z)

    pub another_tag : (l.sample.tag ≡ tag → ⊥) → SoFar s tag count (k + 1) found
    another_tag other = onward (passed _ _ _ _ _ other)

    pub finds : is_some found ≡ false → l.sample.tag ≡ tag → SoFar s tag count (k + 1) (Some (record { start = line_start k + name_start; size = l.name_length }))
    finds z same = onward (hit _ _ _ _ _ z same)

-- That a part lies within the first m bytes.
abbrev Within : Part → ℕ → Type 0
Within p m = p.start + p.size ≤ m

-- A name lies in its line, so within the bytes up to the line's end, and each name among lines from line k on.
line_within : (tag k m : ℕ) (l : Line) (rest : List (Option Line)) → l.name_length ≤ name_columns → line_start (suc k) ≤ m
    → Within (name_part_from tag (suc k) rest) m → Within (name_part_from tag k (Some l ∷ rest)) m
unfolding name_part_from line_length newline_at
line_within tag k m l rest short room h = go (eqb l.sample.tag tag) refl
  where
    go : (q : Bool) → eqb l.sample.tag tag ≡ q → Within (name_part_from tag k (Some l ∷ rest)) m
    go true e = rw (e, name_part_from) (omega (arith, line_ends k))
    go false e = rw (e, name_part_from) h

from_within : (s : List ℕ) (tag k n m : ℕ) → ((j : ℕ) → j < k + n → line_start (suc j) ≤ m) → Within (name_part_from tag k (lines_from s k n)) m
unfolding name_part_from lines_from empty_part
from_within s tag k zero m fits = omega arith
from_within s tag k (suc n) m fits =
    go (line_of (line_part s k)) refl (from_within s tag (suc k) n m (λ j h. fits j (omega arith)))
  where
    go : (o : Option Line) → line_of (line_part s k) ≡ o → Within (name_part_from tag (suc k) (lines_from s (suc k) n)) m
        → Within (name_part_from tag k (o ∷ lines_from s (suc k) n)) m
    go None e h = h
    go (Some l) e h = line_within tag k m l (lines_from s (suc k) n) (name_fits (line_part s k) l e) (fits k (omega arith)) h

good_within : (good : Bool) (p : Part) (m : ℕ) → Within p m → Within (where_good good p) m
unfolding where_good empty_part
good_within true p m h = h
good_within false p m h = omega arith

-- The part that a lookup hands back lies within the sheet.
pub name_within : (s : List ℕ) (tag : ℕ) → Within (name_part s tag) (length s)
unfolding lines_by where_good empty_part name_part_from all_good
name_within s tag = go (line_count s) refl
  where
    go : (o : Option ℕ) → line_count s ≡ o → Within (name_part s tag) (length s)
    go None e = rw (looked_up_lem s tag None e) (omega arith)
    go (Some n) e =
        rw (looked_up_lem s tag (Some n) e)
        (good_within (all_good (lines_from s 0 n)) (name_part_from tag 0 (lines_from s 0 n)) (length s)
        (from_within s tag 0 n (length s) (λ j h. line_fits s n j e (omega arith))))

-- The lookup's part of a sheet can be handed back, and it is what is promised.
module _ (sheet : Bor (List ℕ)) (tag : ℕ) (p : Part) (e : p ≡ name_part sheet.now tag) where
  pub name_in : NameIn sheet tag (sl_partˢ sheet (by_byte p.start sheet.ref_ptr.1) p.start (p.start + p.size))
  unfolding bytes_of
  name_in =
      let size : p.start + p.size - p.start ≡ p.size = omega arith in
      let place : p.start + sheet.ref_ptr.1 ≡ sheet.ref_ptr.1 + p.start = omega arith in
      record {
        within = name_within sheet.now tag;
        bytes = rw (size, e);
        place = rw (← e) (ap (λ (n : ℕ). (sheet.ref_ptr.0, n)) place);
      }

-- `stopped`: why a load ends before a line.
use Prim.Native.Nat.{ℕ, ◌-◌, ◌≤◌, ◌<◌}
use mathlib.Core.Bool.{true≢false}
use mathlib.Core.List.{List, []}
use native.Mathlib.Omega.{arith}
use Rattle.std.specs.Prelude.{None, Some, Result, is_ok, MatchResult, IsErrAnd}
use Rattle.std.specs.Option.{is_some}
use Rattle.std.specs.Result.{result_ok}
use mathlib.Core.Path.{◌≡◌, refl, sym, ap, ap₂, subst⁻¹, ◌∙◌}
use borrow.Author.Tests.{lt-ltb, le-ltb, le-leb, lt-leb}
use lib.Dec.{leb, ltb}
use lib.ListN.{length}
use Rattle.colour.specs.declared.refusal.Refusal.{Refusal}
use Rattle.colour.specs.declared.refusal.Refusal.TheVariants as R
use Rattle.colour.specs.Question.{first_no}
use Rattle.colour.specs.Refusal.{refusal_number, answer_number}
use Rattle.colour.proofs.Laws.Questions.{first_no_lem, refusal_numbered}
use Rattle.sheet.specs.Answers.{line_answer}
use Rattle.samples.specs.declared.answers.Stop.{Stop}
use Rattle.sheet.specs.declared.line.Line.{Line}
use Rattle.sheet.specs.Line.{LineAnswer, line_of, line_asked, read_line}
use Rattle.sheet.specs.Sheet.{line_part, lines_from}
use Rattle.model.specs.Layout.{current, sample_rows}
use Rattle.words.specs.Rows.{samples_from}
use Rattle.words.proofs.Laws.Layout.Samples.{samples_length}
use Rattle.std.specs.Prelude.{Ok, Err}
use Rattle.samples.specs.Steps.{row_of_tag, row_questions, stop_by, stop_number, Stopped}
use Rattle.samples.proofs.Laws.Tags.{tag_in_rows, row_asked}
use Rattle.samples.proofs.Laws.Loaded.Left.{next_left, none_left}

-- A value is no refusal.
ok_no_err : {T E : Type 0} (x : T) (y : E) → ◌≡◌ {A = Result T E} (Ok x) (Err y) → ⊥
ok_no_err x y e = true≢false (ap is_ok e)

-- An answer whose refusal is handed on with how many lines were taken.
abbrev pub Handed : {T : Type 0} → ℕ → Result T Refusal → Result T Stop → Type 0
Handed taken r s = MatchResult r (λ x. s ≡ Ok x) (λ e. IsErrAnd s (λ y. y ≡ record { refusal = e; taken = taken }))

handed_refused : {T : Type 0} (taken : ℕ) (r : Result T Refusal) (s : Result T Stop) (y : Stop) → Handed taken r s → s ≡ Err y
    → (e : Refusal) × (r ≡ Err e) × (y ≡ record { refusal = e; taken = taken })
handed_refused taken (Ok x) s y h is = absurd (ok_no_err x y (sym h ∙ is))
handed_refused taken (Err e) (Ok x) y h is = absurd h
handed_refused taken (Err e) (Err z) y h is = let same : y ≡ z = cc in (e, refl, same ∙ h)

handed_accepted : {T : Type 0} (taken : ℕ) (r : Result T Refusal) (s : Result T Stop) (x : T) → Handed taken r s → s ≡ Ok x → r ≡ Ok x
handed_accepted taken (Ok z) s x h is = let same : z ≡ x = cc in ap Ok same
handed_accepted taken (Err e) (Ok z) x h is = absurd h
handed_accepted {T} taken (Err e) (Err z) x h is = absurd (ok_no_err {T = T} {E = Stop} x z (sym is))

module _ (n : ℕ) (ws sheet : List ℕ) (lines taken : ℕ) where
  -- The sheet ends, or the line is not good.
  pub at_end : lines ≤ taken → Stopped n ws sheet lines taken (Ok taken)
  unfolding stop_number first_no
  at_end end = record { number = rw (none_left sheet taken lines end); count = refl }

  pub at_bad_line : taken < lines → None ≡ line_of (line_part sheet taken) → Stopped n ws sheet lines taken (Err (record { refusal = R.Line; taken = taken }))
  unfolding stop_number first_no
  at_bad_line more bad = record { number = rw (next_left sheet taken lines more, ← bad); count = refl }

  -- At a good line the number is told by the row of its tag and by the rows.
  module _ (l : Line) (more : taken < lines) (good : Some l ≡ line_of (line_part sheet taken)) (row : ℕ)
      (placed : row ≡ row_of_tag l.sample.tag (samples_from current ws 0 n)) where
    by_rows : stop_number (samples_from current ws 0 n) (sample_rows current (length ws)) (lines_from sheet taken (lines - taken))
        ≡ stop_by (ltb row n) (leb (sample_rows current (length ws)) n)
    unfolding stop_number
    by_rows =
        rw (next_left sheet taken lines more, ← good)
        (ap₂ stop_by (tag_in_rows l.sample.tag n ws row placed) (ap (leb (sample_rows current (length ws))) (samples_length ws n 0)))

    pub at_known_tag : row < n → Stopped n ws sheet lines taken (Err (record { refusal = R.KnownTag; taken = taken }))
    unfolding first_no
    at_known_tag h = record { number = rw (by_rows, lt-ltb row n h); count = refl }

    pub at_no_row : n ≤ row → sample_rows current (length ws) ≤ n → Stopped n ws sheet lines taken (Err (record { refusal = R.NoRow; taken = taken }))
    unfolding first_no
    at_no_row new full = record { number = rw (by_rows, le-ltb row n new, le-leb (sample_rows current (length ws)) n full); count = refl }

    pub at_no_octants : n ≤ row → n < sample_rows current (length ws) → Stopped n ws sheet lines taken (Err (record { refusal = R.NoOctants; taken = taken }))
    unfolding first_no
    at_no_octants new left = record { number = rw (by_rows, le-ltb row n new, lt-leb (sample_rows current (length ws)) n left); count = refl }

  -- A load that ends with t, where a refusal y was handed on.
  ends_with : (t : Result ℕ Stop) (y : Stop) (e : Refusal) → t ≡ Err y → y ≡ record { refusal = e; taken = taken }
      → Stopped n ws sheet lines taken (Err (record { refusal = e; taken = taken })) → Stopped n ws sheet lines taken t
  ends_with t y e is same h = subst⁻¹ (Stopped n ws sheet lines taken) (is ∙ ap Err same) h

  -- That of a line that is not good.
  pub line_refused : (r : Result Line Refusal) (s : Result Line Stop) (y : Stop) (t : Result ℕ Stop) → Handed taken r s → s ≡ Err y → t ≡ Err y
      → taken < lines → line_answer r ≡ read_line (line_part sheet taken) → Stopped n ws sheet lines taken t
  unfolding line_answer read_line line_asked
  line_refused r s y t handed was is more told =
      let no = handed_refused taken r s y handed was in
      let bad : None ≡ line_of (line_part sheet taken) = ap result_ok (sym no.1) ∙ ap (λ (a : LineAnswer). a.line) told in
      let number : refusal_number no.0 ≡ 12 =
      ap answer_number (sym no.1) ∙ ap (λ (a : LineAnswer). a.number) told ∙ first_no_lem 12 _ [] (ap is_some (sym bad)) in
      ends_with t y no.0 is no.2 (record { number = number ∙ (at_bad_line more bad).number; count = refl })

  -- That of a good line by question 5 or 6. Where neither refuses it is 7.
  module _ (r : Result Line Refusal) (s : Result Line Stop) (l : Line) (handed : Handed taken r s) (was : s ≡ Ok l) (more : taken < lines)
      (told : line_answer r ≡ read_line (line_part sheet taken)) where
    good : Some l ≡ line_of (line_part sheet taken)
    unfolding line_answer read_line line_asked
    good = ap result_ok (sym (handed_accepted taken r s l handed was)) ∙ ap (λ (a : LineAnswer). a.line) told

    abbrev asked : ℕ
    asked = first_no (row_questions l.sample.tag (samples_from current ws 0 n) (sample_rows current (length ws)))

    abbrev left : ℕ
    left = stop_number (samples_from current ws 0 n) (sample_rows current (length ws)) (lines_from sheet taken (lines - taken))

    module _ (q : Result (Unit {0}) Refusal) (p : Result (Unit {0}) Stop) (passed : Handed taken q p) (said : answer_number q ≡ asked) where
      pub good_refused : (y : Stop) (t : Result ℕ Stop) → p ≡ Err y → t ≡ Err y → Stopped n ws sheet lines taken t
      good_refused y t refused is =
          let e = handed_refused taken q p y passed refused in
          let number : refusal_number e.0 ≡ asked = ap answer_number (sym e.1) ∙ said in
          let same : (asked ≡ 0 → ⊥) → asked ≡ left =
          row_asked l.sample.tag n ws (sample_rows current (length ws)) (λ k. (k ≡ 0 → ⊥) → k ≡ left)
          (λ known _. (at_known_tag l more good _ refl known).number)
          (λ new full _. (at_no_row l more good _ refl new full).number)
          (λ new room ne. absurd (ne refl)) in
          ends_with t y e.0 is e.2 (record { number = number ∙ same (λ z. refusal_numbered e.0 (number ∙ z)); count = refl })

      pub good_taken : (y : Stop) → p ≡ Ok tt → y ≡ record { refusal = R.NoOctants; taken = taken } → Stopped n ws sheet lines taken (Err y)
      good_taken y accepted is =
          ends_with (Err y) y R.NoOctants refl is
          (row_asked l.sample.tag n ws (sample_rows current (length ws))
          (λ k. k ≡ 0 → Stopped n ws sheet lines taken (Err (record { refusal = R.NoOctants; taken = taken })))
          (λ _ z. absurd (omega (arith, z)))
          (λ _ _ z. absurd (omega (arith, z)))
          (λ new room _. at_no_octants l more good _ refl new room)
          (sym said ∙ ap answer_number (handed_accepted taken q p tt passed accepted)))

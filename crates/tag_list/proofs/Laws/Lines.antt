-- Lines of 11 bytes, written one after another.
use Prim.Native.Nat.{ℕ, ◌+◌, ◌*◌, ◌≤◌, ◌<◌}
use mathlib.Core.List.{List, [], ◌∷◌, ◌++◌, append_assoc}
use mathlib.Core.Path.{◌≡◌, refl, sym, ap, ◌∙◌}
use native.Mathlib.Numerals.{add-one}
use native.Mathlib.Omega.{arith}
use lib.ListN.{length, take, drop, get_or, set, length-append}
use lib.Seq.{take-suc, length-take-le}
use Rattle.sheet.specs.Column.{newline, column_of}
use Rattle.sheet.specs.Line.{tag_columns}
use Rattle.sheet.specs.Steps.{put_at}
use Rattle.sheet.proofs.Laws.Parts.{put_next, set_next}
use Rattle.sheet.proofs.Laws.Writing.Lengths.{column_length}
use Rattle.model.specs.Walklist.{tag_lines, refused_line}

pub lines_length : (tags : List ℕ) → length (tag_lines tags) ≡ 11 * length tags
unfolding tag_lines tag_columns
lines_length [] = refl
lines_length (tag ∷ rest) =
    length-append (column_of 10 tag) (newline ∷ tag_lines rest) ∙ omega (arith, column_length 10 tag, lines_length rest)

lines_append : (xs ys : List ℕ) → tag_lines (xs ++ ys) ≡ tag_lines xs ++ tag_lines ys
unfolding tag_lines
lines_append [] ys = refl
lines_append (x ∷ xs) ys =
    ap (λ (l : List ℕ). column_of tag_columns x ++ (newline ∷ l)) (lines_append xs ys) ∙ sym (append_assoc (column_of tag_columns x) (newline ∷ tag_lines xs) (tag_lines ys))

-- A newline after a number in its columns.
module _ (s : List ℕ) (at w n : ℕ) (room : at + w + 1 ≤ length s) where
  abbrev number : List ℕ
  number = column_of w n

  last_length : length (number ++ (newline ∷ [])) ≡ w + 1
  last_length = length-append number (newline ∷ []) ∙ omega (arith, column_length w n)

  pub number_line_put : (t : List ℕ) → t ≡ put_at at number s → set t (at + w) newline ≡ put_at at (number ++ (newline ∷ [])) s
  unfolding put_at
  number_line_put t e =
      let p : List ℕ = take at s ++ number in
      let end : length p ≡ at + w = length-append (take at s) number ∙ omega (arith, length-take-le at s (omega arith), column_length w n) in
      let so_far : t ≡ p ++ drop (at + w) s = e ∙ rw (column_length w n, append_assoc) in
      let last : List ℕ = number ++ (newline ∷ []) in
      let past : at + w + 1 ≡ at + length last = omega (arith, last_length) in
      ap (λ (l : List ℕ). set l (at + w) newline) so_far
      ∙ set_next p s (at + w) end newline (omega arith)
      ∙ ap (λ (l : List ℕ). l ++ drop (at + w + 1) s) (append_assoc (take at s) number (newline ∷ []))
      ∙ append_assoc (take at s) last (drop (at + w + 1) s)
      ∙ ap (λ (k : ℕ). take at s ++ (last ++ drop k s)) past

-- One line more.
module _ (tags text₀ : List ℕ) (i : ℕ) (here : i < length tags) where
  pub tags_more : (text : List ℕ) → text ≡ tag_lines (take i tags) ++ drop (11 * i) text₀
      → put_at (11 * i) (column_of tag_columns (get_or tags i 0) ++ (newline ∷ [])) text ≡ tag_lines (take (i + 1) tags) ++ drop (11 * (i + 1)) text₀
  unfolding tag_lines
  tags_more text e =
      let line : List ℕ = column_of tag_columns (get_or tags i 0) ++ (newline ∷ []) in
      let size : length (tag_lines (take i tags)) ≡ 11 * i = lines_length (take i tags) ∙ omega (arith, length-take-le i tags (omega arith)) in
      let more : tag_lines (take (i + 1) tags) ≡ tag_lines (take i tags) ++ line =
      ap tag_lines (ap (λ (k : ℕ). take k tags) (add-one i) ∙ take-suc tags i 0 here) ∙ lines_append (take i tags) (get_or tags i 0 ∷ []) in
      let past : 11 * i + length line ≡ 11 * (i + 1) = omega (arith, lines_length (get_or tags i 0 ∷ [])) in
      ap (put_at (11 * i) line) e
      ∙ put_next (tag_lines (take i tags)) text₀ (11 * i) size line
      ∙ ap (λ (l : List ℕ). l ++ drop (11 * i + length line) text₀) (sym more)
      ∙ ap (λ (k : ℕ). tag_lines (take (i + 1) tags) ++ drop k text₀) past

-- A refusal's line.
pub refusal_length : (n : ℕ) → length (refused_line n) ≡ 11
unfolding refused_line
refusal_length n = omega (arith, length-append (column_of 3 n) (newline ∷ []), column_length 3 n)

pub refusal_put : (s s₁ name s₂ : List ℕ) (n : ℕ) → 11 ≤ length s → name ≡ 82 ∷ 69 ∷ 70 ∷ 85 ∷ 83 ∷ 69 ∷ 68 ∷ [] → s₁ ≡ name ++ drop 7 s
    → s₂ ≡ put_at 7 (column_of 3 n ++ (newline ∷ [])) s₁ → s₂ ≡ refused_line n ++ drop 11 s
unfolding refused_line
refusal_put s s₁ name s₂ n room word e₁ e₂ =
    let last : List ℕ = column_of 3 n ++ (newline ∷ []) in
    let size : length name ≡ 7 = ap length word in
    let past : 7 + length last ≡ 11 = omega (arith, length-append (column_of 3 n) (newline ∷ []), column_length 3 n) in
    e₂ ∙ ap (put_at 7 last) e₁ ∙ put_next name s 7 size last
    ∙ ap (λ (l : List ℕ). (l ++ last) ++ drop (7 + length last) s) word
    ∙ ap (λ (k : ℕ). refused_line n ++ drop k s) past

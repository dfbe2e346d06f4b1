-- A text as its parts are written, and parts that were lent and came back.
use Prim.Native.Nat.{ℕ, ◌+◌, ◌-◌, ◌≤◌, ◌<◌}
use mathlib.Core.List.{List, [], ◌∷◌, ◌++◌, append-nil, append_assoc}
use mathlib.Core.Path.{◌≡◌, sym, ap, ◌∙◌}
use native.Mathlib.Numerals.{add-one}
use native.Mathlib.Omega.{arith}
use borrow.Rule.Slice.PartMut.{put_mid}
use lib.ListN.{length, take, drop, get_or, set, replicate, length-append, length-drop, drop_of_length-le, take-append-drop}
use lib.Seq.{take_all, take-suc, take_at, drop_at, drop-drop, set_at, length-take-le}
use Rattle.sheet.specs.Steps.{put_at}
use Rattle.sheet.proofs.Laws.Text.{next_byte}

-- A part to the end of a text is the text from there on.
pub part_tail : (s : List ℕ) (a : ℕ) → take (length s - a) (drop a s) ≡ drop a s
part_tail s a = take_all (length s - a) (drop a s) (omega (arith, length-drop a s))

-- A text from byte `at` on is the next w bytes and the text after them.
pub part_first : (s : List ℕ) (at w : ℕ) → drop at s ≡ take w (drop at s) ++ drop (at + w) s
part_first s at w = sym (rw (← drop-drop w at s) (take-append-drop w (drop at s)))

pub part_length : (s : List ℕ) (at w : ℕ) → at + w ≤ length s → length (take w (drop at s)) ≡ w
part_length s at w room = length-take-le w (drop at s) (omega (arith, length-drop at s))

-- A part to the end that was lent stands in its place.
pub put_tail : (a : ℕ) (s t : List ℕ) → put_mid a (length s - a) s t ≡ take a s ++ t
put_tail a s t =
    ap (λ (l : List ℕ). take a s ++ (t ++ l)) (drop_of_length-le (drop a s) {i = length s - a} (omega (arith, length-drop a s)))
    ∙ ap (λ (l : List ℕ). take a s ++ l) (append-nil t)

-- One byte more is copied.
pub copy_more : (s d : List ℕ) (i : ℕ) → i < length s → i < length d
    → set (take i s ++ drop i d) i (get_or s i 0) ≡ take (i + 1) s ++ drop (i + 1) d
copy_more s d i hs hd =
    rw (next_byte d i hd, set_at (take i s) (get_or d i 0) (drop (i + 1) d) (get_or s i 0) i (length-take-le i s (omega arith)), add-one i, take-suc s i 0 hs, append_assoc)

-- A text that is copied whole, and the blanks after it that were lent and came back.
pub left_whole : (text place head rest : List ℕ) (v : ℕ) → length text ≤ length place → head ≡ text
    → rest ≡ replicate (length (take (length (head ++ drop (length text) place) - length text) (drop (length text) (head ++ drop (length text) place)))) v
    → put_mid (length text) (length (head ++ drop (length text) place) - length text) (head ++ drop (length text) place) rest
    ≡ text ++ replicate (length place - length text) v
left_whole text place head rest v fits same e =
    let whole : List ℕ = head ++ drop (length text) place in
    let size : length (take (length whole - length text) (drop (length text) whole)) ≡ length place - length text =
    ap length (part_tail whole (length text))
    ∙ omega (arith, ap length same, length-drop (length text) whole, length-append head (drop (length text) place), length-drop (length text) place) in
    put_tail (length text) whole rest ∙ rw (take_at head (drop (length text) place) (length text) (ap length same), e, size, same)

-- A text whose first places are written as p, and the next ones are written: by a part that was lent, by a call, by a store.
module _ (p d : List ℕ) (a : ℕ) (end : length p ≡ a) where
  pub put_next : (t : List ℕ) → put_at a t (p ++ drop a d) ≡ (p ++ t) ++ drop (a + length t) d
  unfolding put_at
  put_next t =
      let rest : drop (a + length t) (p ++ drop a d) ≡ drop (a + length t) d =
      sym (drop-drop (length t) a (p ++ drop a d)) ∙ ap (drop (length t)) (drop_at p (drop a d) a end) ∙ drop-drop (length t) a d in
      rw (take_at p (drop a d) a end, rest, append_assoc)

  pub set_next : (v : ℕ) → a < length d → set (p ++ drop a d) a v ≡ (p ++ (v ∷ [])) ++ drop (a + 1) d
  set_next v h = rw (next_byte d a h, set_at p (get_or d a 0) (drop (a + 1) d) v a end, append_assoc)

-- A part that was lent is written over the text.
pub part_put : (a k : ℕ) (s t : List ℕ) → length t ≡ k → put_mid a k s t ≡ put_at a t s
unfolding put_at
part_put a k s t e = rw (drop-drop k a s, e)

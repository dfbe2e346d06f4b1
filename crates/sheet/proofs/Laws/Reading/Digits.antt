-- Digits read one after another, with a limit (document 01, "Sheets").
use Prim.Native.Nat.{ℕ, ◌+◌, ◌-◌, ◌*◌, ◌≤◌, ◌<◌}
use mathlib.Core.Bool.{Bool, true, false}
use mathlib.Core.List.{List, [], ◌∷◌}
use Rattle.std.specs.Prelude.{Option, None, Some}
use mathlib.Core.Path.{◌≡◌, refl, sym, ap, ◌∙◌}
use native.Mathlib.Omega.{arith}
use borrow.Author.Tests.{le-leb, lt-leb, leb-true, leb-false, eq-eqb, ne_eqb}
use lib.Dec.{leb}
use lib.ListN.{length, drop, get_or, drop_of_length-le}
use Rattle.sheet.specs.Column.{digit_byte, digits_after, decimal_in}
use Rattle.sheet.specs.Steps.{within}
use Rattle.sheet.proofs.Laws.Text.{next_byte}

pub within_none : (most : ℕ) → within most None ≡ None
unfolding within
within_none most = refl

pub within_yes : (most n : ℕ) → n ≤ most → within most (Some n) ≡ Some n
unfolding within
within_yes most n h = rw (le-leb n most h, within)

pub within_over : (most n : ℕ) → most < n → within most (Some n) ≡ None
unfolding within
within_over most n h = rw (lt-leb n most h, within)

-- What a limit lets through is the number itself, and at most the limit.
pub within_some : (most : ℕ) (o : Option ℕ) (m : ℕ) → Some m ≡ within most o → (o ≡ Some m) × (m ≤ most)
within_some most None m e = let z : ◌≡◌ {A = ℕ} 0 1 = cc (within_none most) in (absurd (omega arith), absurd (omega arith))
within_some most (Some k) m e = go (leb k most) refl
  where
    go : (q : Bool) → leb k most ≡ q → (Some k ≡ Some m) × (m ≤ most)
    go true l =
        let same : k ≡ m = cc (within_yes most k (leb-true k most l)) in
        (ap Some same, omega (arith, leb-true k most l))
    go false l =
        let z : ◌≡◌ {A = ℕ} 0 1 = cc (within_over most k (leb-false k most l)) in
        (absurd (omega arith), absurd (omega arith))

-- A byte that is no digit ends the number; one that is goes on with it.
module _ (n x : ℕ) (rest : List ℕ) where
  pub not_digit : digit_byte x ≡ false → digits_after n (x ∷ rest) ≡ None
  unfolding digits_after
  not_digit e = rw (e, digits_after)

  pub one_digit : digit_byte x ≡ true → digits_after n (x ∷ rest) ≡ digits_after (10 * n + (x - 48)) rest
  unfolding digits_after
  one_digit e = rw (e, digits_after)

-- A number never falls as digits follow: once it is above the limit, it stays there.
pub over : (most n : ℕ) (s : List ℕ) → most < n → within most (digits_after n s) ≡ None
unfolding digits_after
over most n [] h = within_over most n h
over most n (x ∷ rest) h =
    go (digit_byte x) refl (over most (10 * n + (x - 48)) rest (omega arith))
  where
    go : (q : Bool) → digit_byte x ≡ q → within most (digits_after (10 * n + (x - 48)) rest) ≡ None
        → within most (digits_after n (x ∷ rest)) ≡ None
    go true e h = ap (within most) (one_digit n x rest e) ∙ h
    go false e h = ap (within most) (not_digit n x rest e) ∙ within_none most

pub single : (n x : ℕ) → digit_byte x ≡ true → digits_after n (x ∷ []) ≡ Some (10 * n + (x - 48))
unfolding digits_after
single n x d = one_digit n x [] d

-- One digit, and those that follow it: where it passes the limit, so do they; otherwise they go on from it.
module _ (most n x : ℕ) (rest : List ℕ) where
  digit_over : None ≡ within most (digits_after n (x ∷ [])) → within most (digits_after n (x ∷ rest)) ≡ None
  digit_over e = go (digit_byte x) refl (leb (10 * n + (x - 48)) most) refl
    where
      go : (q : Bool) → digit_byte x ≡ q → (p : Bool) → leb (10 * n + (x - 48)) most ≡ p
          → within most (digits_after n (x ∷ rest)) ≡ None
      go true d true l =
          let z : ◌≡◌ {A = ℕ} 0 1 = cc (ap (within most) (single n x d), within_yes most _ (leb-true _ most l)) in
          absurd (omega arith)
      go true d false l = ap (within most) (one_digit n x rest d) ∙ over most (10 * n + (x - 48)) rest (leb-false _ most l)
      go false d p l = ap (within most) (not_digit n x rest d) ∙ within_none most

  digit_goes_on : (m : ℕ) → Some m ≡ within most (digits_after n (x ∷ [])) → (m ≤ most) × (digits_after n (x ∷ rest) ≡ digits_after m rest)
  digit_goes_on m e = go (digit_byte x) refl (within_some most (digits_after n (x ∷ [])) m e)
    where
      go : (q : Bool) → digit_byte x ≡ q → (digits_after n (x ∷ []) ≡ Some m) × (m ≤ most)
          → (m ≤ most) × (digits_after n (x ∷ rest) ≡ digits_after m rest)
      go true d h =
          let same : 10 * n + (x - 48) ≡ m = cc (single n x d, h.0) in
          (h.1, one_digit n x rest d ∙ ap (λ (k : ℕ). digits_after k rest) same)
      go false d h = let z : ◌≡◌ {A = ℕ} 0 1 = cc (not_digit n x [] d, h.0) in absurd (omega arith)

-- A text of which i bytes are read as n: the next byte ends it or is read too, or there is none.
module _ (most : ℕ) (s : List ℕ) (n i : ℕ) (so_far : within most (digits_after 0 s) ≡ within most (digits_after n (drop i s))) where
  next : i < length s → within most (digits_after 0 s) ≡ within most (digits_after n (get_or s i 0 ∷ drop (i + 1) s))
  next more = so_far ∙ ap (λ (t : List ℕ). within most (digits_after n t)) (next_byte s i more)

  pub digits_stop : i < length s → None ≡ within most (digits_after n (get_or s i 0 ∷ [])) → None ≡ within most (digits_after 0 s)
  digits_stop more e = sym (next more ∙ digit_over most n (get_or s i 0) (drop (i + 1) s) e)

  pub digits_more : i < length s → (m : ℕ) → Some m ≡ within most (digits_after n (get_or s i 0 ∷ []))
      → (m ≤ most) × (within most (digits_after 0 s) ≡ within most (digits_after m (drop (i + 1) s)))
  digits_more more m e =
      let h = digit_goes_on most n (get_or s i 0) (drop (i + 1) s) m e in
      (h.0, next more ∙ ap (within most) h.1)

  pub digits_end : length s ≤ i → n ≤ most → Some n ≡ within most (digits_after 0 s)
  unfolding digits_after
  digits_end end h =
      sym (so_far ∙ ap (λ (t : List ℕ). within most (digits_after n t)) (drop_of_length-le s end) ∙ within_yes most n h)

-- No leading zero but in 0 itself; no number at all in an empty text.
pub decimal_empty : (s : List ℕ) → length s ≡ 0 → decimal_in s ≡ None
unfolding decimal_in
decimal_empty [] e = refl
decimal_empty (x ∷ rest) e = absurd (omega arith)

pub leading_zero : (s : List ℕ) → 1 < length s → get_or s 0 0 ≡ 48 → decimal_in s ≡ None
unfolding decimal_in
leading_zero [] h e = absurd (omega arith)
leading_zero (x ∷ []) h e = absurd (omega arith)
leading_zero (x ∷ (y ∷ rest)) h e = rw (eq-eqb x 48 e, decimal_in)

pub decimal_single : (s : List ℕ) → (length s ≡ 0 → ⊥) → length s ≤ 1 → decimal_in s ≡ digits_after 0 s
unfolding decimal_in
decimal_single [] e h = absurd (e refl)
decimal_single (x ∷ []) e h = refl
decimal_single (x ∷ (y ∷ rest)) e h = absurd (omega arith)

pub decimal_plain : (s : List ℕ) → 1 < length s → (get_or s 0 0 ≡ 48 → ⊥) → decimal_in s ≡ digits_after 0 s
unfolding decimal_in
decimal_plain [] h e = absurd (omega arith)
decimal_plain (x ∷ []) h e = absurd (omega arith)
decimal_plain (x ∷ (y ∷ rest)) h e = rw (ne_eqb x 48 e, decimal_in)

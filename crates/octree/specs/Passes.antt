-- Words that are passed to a table, each part at its place: written there, or compared with what stands there.
use Rattle.std.specs.Prelude.{ℕ, ◌+◌, ◌≤◌, Bool, true, false, List, [], ◌++◌, ◌≡◌, ◌↔◌, length, take, drop}

-- What parts that are passed one after the other come to, for a table of `lent` words. A no is a no to all that they are a part of.
pub record PassLaws {T : Type 0} (lent : T → ℕ) (passed : T → ℕ → List ℕ → Bool → T → Type 0) : Type 0 where
  pub kept : {s t : T} {at : ℕ} {xs : List ℕ} {b : Bool} → passed s at xs b t → lent t ≡ lent s
  pub none : (s : T) (at : ℕ) → at ≤ lent s → passed s at [] true s
  pub behind : {s t u : T} {at : ℕ} {xs ys : List ℕ} {b : Bool} → passed s at xs true t → passed t (at + length xs) ys b u → passed s at (xs ++ ys) b u
  pub before : {s t u : T} {at : ℕ} {xs ys : List ℕ} {b : Bool} → passed s (at + length xs) ys true t → passed t at xs b u → passed s at (xs ++ ys) b u
  pub stopped : {s t : T} {at : ℕ} {xs : List ℕ} (ys : List ℕ) → passed s at xs false t → passed s at (xs ++ ys) false t
  pub stopped_behind : {s t : T} {at : ℕ} (xs : List ℕ) {ys : List ℕ} → passed s (at + length xs) ys false t → passed s at (xs ++ ys) false t

-- Words are written: they stand in their place, nothing else has changed, and the answer is yes.
pub record Put (before : List ℕ) (at : ℕ) (words : List ℕ) (yes : Bool) (after : List ℕ) : Type 0 where
  pub room : at + length words ≤ length before
  pub is : after ≡ take at before ++ (words ++ drop (at + length words) before)
  pub says : yes ≡ true

-- Words are compared: the answer is whether they stand there, and nothing has changed.
pub record Compared (before : List ℕ) (at : ℕ) (words : List ℕ) (yes : Bool) (after : List ℕ) : Type 0 where
  pub kept : after ≡ before
  pub says : (yes ≡ true) ↔ (take (length words) (drop at before) ≡ words)

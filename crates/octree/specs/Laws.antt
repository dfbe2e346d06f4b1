-- Parts that are written and parts that are compared keep `PassLaws`. The tables of `src/rows.rt` name these proofs, so they stand here and not under proofs/.
use Prim.Native.Nat.{ℕ, ◌+◌, ◌≤◌}
use mathlib.Core.Bool.{Bool, true, false}
use mathlib.Core.List.{List, [], ◌++◌, append_assoc}
use mathlib.Core.Logic.{◌↔◌}
use mathlib.Core.Path.{◌≡◌, refl, sym, ap, ap₂, ◌∙◌}
use native.Mathlib.Omega.{arith}
use lib.ListN.{length, take, drop, length-append, length-drop, take-append-drop}
use Rattle.std.proofs.lemmas.List.{length-take}
use lib.Seq.{take_at, drop_at, drop-drop, take-add, length-take-le}
use Rattle.model.proofs.Tables.Unique.{front_same, back_same}
use Rattle.octree.specs.Passes.{PassLaws, Put, Compared}

-- Lists that are the same up to a place are so up to an earlier one, and from there on.
fronts : (u t : List ℕ) (at m : ℕ) → at ≤ length u → at ≤ length t → take (at + m) u ≡ take (at + m) t
    → (take at u ≡ take at t) × (take m (drop at u) ≡ take m (drop at t))
fronts u t at m hu ht e =
    let long : length (take at u) ≡ length (take at t) = length-take-le at u hu ∙ sym (length-take-le at t ht) in
    let all : take at u ++ take m (drop at u) ≡ take at t ++ take m (drop at t) = sym (take-add at m u) ∙ e ∙ take-add at m t in (
      front_same (take at u) (take m (drop at u)) (take at t) (take m (drop at t)) long all,
      back_same (take at u) (take m (drop at u)) (take at t) (take m (drop at t)) long all,
    )

-- A list with a part written in its place: what stands before it, and from it on.
module _ {before after words : List ℕ} {at : ℕ} {b : Bool} (p : Put before at words b after) where
  long : length (take at before) ≡ at
  long = length-take-le at before (omega (arith, p.room))

  pub put_front : take at after ≡ take at before
  put_front = ap (take at) p.is ∙ take_at (take at before) (words ++ drop (at + length words) before) at long

  pub put_back : drop at after ≡ words ++ drop (at + length words) before
  put_back = ap (drop at) p.is ∙ drop_at (take at before) (words ++ drop (at + length words) before) at long

  pub put_length : length after ≡ length before
  put_length =
      omega (
        arith,
        p.room,
        ap length p.is,
        length-append (take at before) (words ++ drop (at + length words) before),
        long,
        length-append words (drop (at + length words) before),
        length-drop (at + length words) before,
      )

-- And the other way round.
put_from : (before after words : List ℕ) (at : ℕ) (b : Bool) → b ≡ true → at + length words ≤ length before → take at after ≡ take at before
    → drop at after ≡ words ++ drop (at + length words) before → Put before at words b after
put_from before after words at b says room front back = record {
  room = room;
  is = sym (take-append-drop at after) ∙ ap₂ (λ (a c : List ℕ). a ++ c) front back;
  says = says;
}

-- The end of two parts.
two : (at : ℕ) (xs ys : List ℕ) → at + length (xs ++ ys) ≡ at + length xs + length ys
two at xs ys = omega (arith, length-append xs ys)

put_behind : {s t u : List ℕ} {at : ℕ} {xs ys : List ℕ} {b : Bool} → Put s at xs true t → Put t (at + length xs) ys b u → Put s at (xs ++ ys) b u
put_behind {s} {t} {u} {at} {xs} {ys} {b} p q =
    let same = fronts u t at (length xs) (omega (arith, q.room, put_length q)) (omega (arith, q.room)) (put_front q) in
    put_from s u (xs ++ ys) at b q.says (omega (arith, q.room, put_length p, two at xs ys)) (same.0 ∙ put_front p)
    (sym (take-append-drop (length xs) (drop at u))
    ∙ ap₂ (λ (a c : List ℕ). a ++ c)
    (same.1 ∙ ap (take (length xs)) (put_back p) ∙ take_at xs (drop (at + length xs) s) (length xs) refl)
    (drop-drop (length xs) at u
    ∙ put_back q
    ∙ ap (λ (l : List ℕ). ys ++ l)
    (sym (drop-drop (length ys) (at + length xs) t)
    ∙ ap (drop (length ys)) (sym (drop-drop (length xs) at t) ∙ ap (drop (length xs)) (put_back p) ∙ drop_at xs (drop (at + length xs) s) (length xs) refl)
    ∙ drop-drop (length ys) (at + length xs) s))
    ∙ sym (append_assoc xs ys (drop (at + length xs + length ys) s))
    ∙ ap (λ (n : ℕ). (xs ++ ys) ++ drop n s) (sym (two at xs ys)))

put_before : {s t u : List ℕ} {at : ℕ} {xs ys : List ℕ} {b : Bool} → Put s (at + length xs) ys true t → Put t at xs b u → Put s at (xs ++ ys) b u
put_before {s} {t} {u} {at} {xs} {ys} {b} p q =
    let same = fronts t s at (length xs) (omega (arith, q.room)) (omega (arith, p.room)) (put_front p) in
    put_from s u (xs ++ ys) at b q.says (omega (arith, p.room, two at xs ys)) (put_front q ∙ same.0)
    (put_back q
    ∙ ap (λ (l : List ℕ). xs ++ l) (put_back p)
    ∙ sym (append_assoc xs ys (drop (at + length xs + length ys) s))
    ∙ ap (λ (n : ℕ). (xs ++ ys) ++ drop n s) (sym (two at xs ys)))

put_none : (t : List ℕ) (at : ℕ) → at ≤ length t → Put t at [] true t
put_none t at room = record {
  room = omega arith;
  is = sym (take-append-drop at t) ∙ ap (λ (n : ℕ). take at t ++ drop n t) (omega arith);
  says = refl;
}

never : {A : Type 0} → false ≡ true → A
never e = let z : ◌≡◌ {A = ℕ} 0 1 = cc in absurd (omega arith)

-- What stands in the place of two parts.
parts : (s : List ℕ) (at : ℕ) (xs ys : List ℕ)
    → take (length (xs ++ ys)) (drop at s) ≡ take (length xs) (drop at s) ++ take (length ys) (drop (at + length xs) s)
parts s at xs ys =
    ap (λ (n : ℕ). take n (drop at s)) (length-append xs ys)
    ∙ take-add (length xs) (length ys) (drop at s)
    ∙ ap (λ (l : List ℕ). take (length xs) (drop at s) ++ take (length ys) l) (drop-drop (length xs) at s)

-- What is the same as two parts begins with the first.
take_front : (s : List ℕ) (at : ℕ) (xs ys : List ℕ) → take (length (xs ++ ys)) (drop at s) ≡ xs ++ ys → take (length xs) (drop at s) ≡ xs
take_front s at xs ys all =
    let few : length xs ≤ length (drop at s) =
    omega (arith, ap length all, length-append xs ys, length-take (length (xs ++ ys)) (drop at s)) in
    front_same (take (length xs) (drop at s)) (take (length ys) (drop (at + length xs) s)) xs ys (length-take-le (length xs) (drop at s) few)
    (sym (parts s at xs ys) ∙ all)

-- Words that are compared.
compared_behind : (s : List ℕ) (at : ℕ) (xs ys : List ℕ) (b : Bool) → take (length xs) (drop at s) ≡ xs
    → (b ≡ true) ↔ (take (length ys) (drop (at + length xs) s) ≡ ys) → (b ≡ true) ↔ (take (length (xs ++ ys)) (drop at s) ≡ xs ++ ys)
compared_behind s at xs ys b e f = (
  λ yes. parts s at xs ys ∙ ap₂ (λ (a c : List ℕ). a ++ c) e (f.0 yes),
  λ all. f.1
      (back_same (take (length xs) (drop at s)) (take (length ys) (drop (at + length xs) s)) xs ys (ap length e)
      (sym (parts s at xs ys) ∙ all)),
)

compared_before : (s : List ℕ) (at : ℕ) (xs ys : List ℕ) (b : Bool) → take (length ys) (drop (at + length xs) s) ≡ ys
    → (b ≡ true) ↔ (take (length xs) (drop at s) ≡ xs) → (b ≡ true) ↔ (take (length (xs ++ ys)) (drop at s) ≡ xs ++ ys)
compared_before s at xs ys b e f = (
  λ yes. parts s at xs ys ∙ ap₂ (λ (a c : List ℕ). a ++ c) (f.0 yes) e,
  λ all.
      let whole : take (length xs) (drop at s) ++ take (length ys) (drop (at + length xs) s) ≡ xs ++ ys = sym (parts s at xs ys) ∙ all in
      let long : length (take (length xs) (drop at s)) ≡ length xs =
      omega (arith, ap length whole, length-append (take (length xs) (drop at s)) (take (length ys) (drop (at + length xs) s)), length-append xs ys, ap length e) in
      f.1 (front_same (take (length xs) (drop at s)) (take (length ys) (drop (at + length xs) s)) xs ys long whole),
)

-- A part that differs makes the whole differ.
compared_stopped : (s : List ℕ) (at : ℕ) (xs ys : List ℕ) → (false ≡ true) ↔ (take (length xs) (drop at s) ≡ xs)
    → (false ≡ true) ↔ (take (length (xs ++ ys)) (drop at s) ≡ xs ++ ys)
compared_stopped s at xs ys f = (λ e. never e, λ all. f.1 (take_front s at xs ys all))

compared_stopped_behind : (s : List ℕ) (at : ℕ) (xs ys : List ℕ) → (false ≡ true) ↔ (take (length ys) (drop (at + length xs) s) ≡ ys)
    → (false ≡ true) ↔ (take (length (xs ++ ys)) (drop at s) ≡ xs ++ ys)
compared_stopped_behind s at xs ys f = (
  λ e. never e,
  λ all. f.1
      (back_same (take (length xs) (drop at s)) (take (length ys) (drop (at + length xs) s)) xs ys (ap length (take_front s at xs ys all))
      (sym (parts s at xs ys) ∙ all)),
)

-- What the two kinds of tables keep, behind the references through which they are lent: a table that is written stays the same one.
pub written_laws : {T N : Type 0} (now : T → List ℕ) (name : T → N)
    → PassLaws (λ s. length (now s)) (λ s at xs b t. (name t ≡ name s) × Put (now s) at xs b (now t))
written_laws now name = record {
  kept = λ p. put_length p.1;
  none = λ t at room. (refl, put_none (now t) at room);
  behind = λ p q. (q.0 ∙ p.0, put_behind p.1 q.1);
  before = λ p q. (q.0 ∙ p.0, put_before p.1 q.1);
  stopped = λ ys p. never p.1.says;
  stopped_behind = λ xs p. never p.1.says;
}

pub compared_laws : {T : Type 0} (now : T → List ℕ) → PassLaws (λ s. length (now s)) (λ s at xs b t. Compared (now s) at xs b (now t))
compared_laws now = record {
  kept = λ p. ap length p.kept;
  none = λ t at room. record { kept = refl; says = (λ e. refl, λ e. refl) };
  behind = λ {s} {t} {u} {at} {xs} {ys} {b} p q.
      record { kept = q.kept ∙ p.kept; says = compared_behind (now s) at xs ys b (p.says.0 refl) (rw p.kept at q.says) };
  before = λ {s} {t} {u} {at} {xs} {ys} {b} p q.
      record { kept = q.kept ∙ p.kept; says = compared_before (now s) at xs ys b (p.says.0 refl) (rw p.kept at q.says) };
  stopped = λ {s} {t} {at} {xs} ys p. record { kept = p.kept; says = compared_stopped (now s) at xs ys p.says };
  stopped_behind = λ {s} {t} {at} xs {ys} p. record { kept = p.kept; says = compared_stopped_behind (now s) at xs ys p.says };
}

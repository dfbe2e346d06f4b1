-- Lists of samples: their tags and codes where some are left out, where one is added, and of their fronts.
use Prim.Native.Nat.{ℕ, zero, suc}
use mathlib.Core.Bool.{Bool, true, false, true≢false}
use mathlib.Core.List.{List, [], ◌∷◌, ◌++◌}
use mathlib.Core.Path.{◌≡◌, refl, sym}
use borrow.Author.Tests.{eqb-false, ne_eqb}
use lib.Dec.{eqb}
use lib.ListN.{take}
use Rattle.colour.specs.declared.Sample.{Sample}
use Rattle.model.specs.Lists.{keep}
use Rattle.model.specs.Machine.{has_tag}
use Rattle.model.specs.Sound.{Distinct, CodesInRange}

-- Of a list without a tag: its first has another, its rest is without it.
pub first_tag : (t : ℕ) (x : Sample) (xs : List Sample) → has_tag t (x ∷ xs) ≡ false → (eqb x.tag t ≡ false) × (has_tag t xs ≡ false)
unfolding has_tag
first_tag t x xs h = go (eqb x.tag t) refl
  where
    go : (r : Bool) → eqb x.tag t ≡ r → (eqb x.tag t ≡ false) × (has_tag t xs ≡ false)
    go true e = absurd (true≢false (rw (e, has_tag) at h))
    go false e = (e, rw (e, has_tag) at h)

-- What was new, distinct or in range stays so where samples are left out.
module _ (p : Sample → Bool) where
  keep_tag : (t : ℕ) (xs : List Sample) → has_tag t xs ≡ false → has_tag t (keep p xs) ≡ false
  unfolding keep has_tag
  keep_tag t [] h = refl
  keep_tag t (x ∷ xs) h = go (p x) refl (keep_tag t xs (first_tag t x xs h).1)
    where
      go : (r : Bool) → p x ≡ r → has_tag t (keep p xs) ≡ false → has_tag t (keep p (x ∷ xs)) ≡ false
      go true e i = rw (e, keep) (rw ((first_tag t x xs h).0, has_tag) i)
      go false e i = rw (e, keep) i

  pub keep_distinct : (xs : List Sample) → Distinct xs → Distinct (keep p xs)
  unfolding keep Distinct
  keep_distinct [] h = tt
  keep_distinct (x ∷ xs) h = go (p x) refl (keep_distinct xs h.1)
    where
      go : (r : Bool) → p x ≡ r → Distinct (keep p xs) → Distinct (keep p (x ∷ xs))
      go true e i = rw (e, keep) (keep_tag x.tag xs h.0, i)
      go false e i = rw (e, keep) i

  pub keep_range : (xs : List Sample) → CodesInRange xs → CodesInRange (keep p xs)
  unfolding keep CodesInRange
  keep_range [] h = tt
  keep_range (x ∷ xs) h = go (p x) refl (keep_range xs h.1)
    where
      go : (r : Bool) → p x ≡ r → CodesInRange (keep p xs) → CodesInRange (keep p (x ∷ xs))
      go true e i = rw (e, keep) (h.0, i)
      go false e i = rw (e, keep) i

-- One more at the end.
snoc_tag : (t : ℕ) (s : Sample) (xs : List Sample) → has_tag t xs ≡ false → eqb s.tag t ≡ false → has_tag t (xs ++ (s ∷ [])) ≡ false
unfolding has_tag
snoc_tag t s [] h e = rw (e, has_tag)
snoc_tag t s (x ∷ xs) h e = rw ((first_tag t x xs h).0, has_tag) (snoc_tag t s xs (first_tag t x xs h).1 e)

pub snoc_distinct : (s : Sample) (xs : List Sample) → Distinct xs → has_tag s.tag xs ≡ false → Distinct (xs ++ (s ∷ []))
unfolding Distinct has_tag
snoc_distinct s [] d h = (refl, tt)
snoc_distinct s (x ∷ xs) d h =
    let other : eqb s.tag x.tag ≡ false = ne_eqb s.tag x.tag (λ e. eqb-false x.tag s.tag (first_tag s.tag x xs h).0 (sym e)) in (
      snoc_tag x.tag s xs d.0 other,
      snoc_distinct s xs d.1 (first_tag s.tag x xs h).1,
    )

-- A tag that a list does not have, its front does not have.
front_tag : (t : ℕ) (xs ys : List Sample) → has_tag t (xs ++ ys) ≡ false → has_tag t xs ≡ false
unfolding has_tag
front_tag t [] ys h = refl
front_tag t (x ∷ xs) ys h =
    let f = first_tag t x (xs ++ ys) h in
    rw (f.0, has_tag) (front_tag t xs ys f.1)

-- A front of distinct samples is distinct.
pub front_distinct : (xs ys : List Sample) → Distinct (xs ++ ys) → Distinct xs
unfolding Distinct
front_distinct [] ys d = tt
front_distinct (x ∷ xs) ys d = (front_tag x.tag xs ys d.0, front_distinct xs ys d.1)

-- Nor does its back.
back_tag : (t : ℕ) (xs ys : List Sample) → has_tag t (xs ++ ys) ≡ false → has_tag t ys ≡ false
back_tag t [] ys h = h
back_tag t (x ∷ xs) ys h = back_tag t xs ys (first_tag t x (xs ++ ys) h).1

-- The last of distinct samples is new.
pub last_new : (s : Sample) (xs : List Sample) → Distinct (xs ++ (s ∷ [])) → has_tag s.tag xs ≡ false
unfolding Distinct has_tag
last_new s [] d = refl
last_new s (x ∷ xs) d =
    let other : eqb s.tag x.tag ≡ false = (first_tag x.tag s [] (back_tag x.tag xs (s ∷ []) d.0)).0 in
    rw (ne_eqb x.tag s.tag (λ e. eqb-false s.tag x.tag other (sym e)), has_tag) (last_new s xs d.1)

-- Codes in range: of a front, and of two lists one after the other.
pub front_range : (j : ℕ) (xs : List Sample) → CodesInRange xs → CodesInRange (take j xs)
unfolding CodesInRange
front_range zero xs h = tt
front_range (suc j) [] h = tt
front_range (suc j) (x ∷ xs) h = (h.0, front_range j xs h.1)

pub both_range : (xs ys : List Sample) → CodesInRange xs → CodesInRange ys → CodesInRange (xs ++ ys)
unfolding CodesInRange
both_range [] ys h g = g
both_range (x ∷ xs) ys h g = (h.0, both_range xs ys h.1 g)

-- The children in a mask: the first, and the mask without it; and what that says of a mask that answers a test.
use Prim.Native.Nat.{ℕ, zero, suc, ◌+◌, ◌-◌, ◌/◌, ◌%◌, ◌^◌, ◌≤◌, ◌<◌}
use mathlib.Core.Bool.{Bool, true, false}
use mathlib.Core.List.{List, [], ◌∷◌}
use mathlib.Core.Path.{◌≡◌, refl, sym, ap, ap₂, ◌∙◌, subst, subst⁻¹}
use native.Mathlib.Nat.{two-pow-succ}
use native.Mathlib.Omega.{arith}
use lib.Count.{count_trailing_zeros, under}
use lib.ListN.{length}
use Rattle.colour.specs.Mask.{mask_of}
use Rattle.colour.proofs.Laws.Mask.{from, mask_none, mask_first, mask_small}
use Rattle.traversal.specs.Places.{place_if, places, children_in}

places_none : (d p : ℕ) → places d p 0 ≡ []
unfolding places place_if
places_none zero p = refl
places_none (suc d) p = places_none d (suc p)

-- The least place is that of the lowest digit that is not 0.
record LeastPlace (d p m c : ℕ) : Type 0 where
  below : c < d
  within : 2 ^ c ≤ m
  others : places d p m ≡ (p + c) ∷ places d p (m - 2 ^ c)

least_place : (d p m : ℕ) → (m ≡ 0 → ⊥) → m < 2 ^ d → LeastPlace d p m (count_trailing_zeros d m)
unfolding places place_if count_trailing_zeros
least_place zero p m z h = absurd (z (omega (arith, h)))
least_place (suc d) p m z h = go (m % 2) refl (least_place d (suc p) (m / 2))
  where
    rest : List ℕ
    rest = places d (suc p) (m / 2)

    go : (b : ℕ) → m % 2 ≡ b → ((m / 2 ≡ 0 → ⊥) → m / 2 < 2 ^ d → LeastPlace d (suc p) (m / 2) (count_trailing_zeros d (m / 2)))
        → LeastPlace (suc d) p m (count_trailing_zeros (suc d) m)
    go (suc b) e above =
        let t : count_trailing_zeros (suc d) m ≡ 0 = ap (λ (x : ℕ). under x (count_trailing_zeros d (m / 2))) e in
        let even : (m - 1) % 2 ≡ 0 = omega (arith, e) in
        let half : (m - 1) / 2 ≡ m / 2 = omega (arith, e) in
        let here : places (suc d) p m ≡ p ∷ rest = ap (λ (x : ℕ). place_if x p rest) e in
        let later : places (suc d) p (m - 1) ≡ rest = ap₂ (λ (x y : ℕ). place_if x p (places d (suc p) y)) even half in
        let place : p + 0 ≡ p = omega arith in
        subst⁻¹ (LeastPlace (suc d) p m) t
        (record { below = omega arith; within = omega (arith, e); others = here ∙ ap₂ (λ (x : ℕ) (l : List ℕ). x ∷ l) (sym place) (sym later) })
    go zero e above =
        let c : ℕ = count_trailing_zeros d (m / 2) in
        let t : count_trailing_zeros (suc d) m ≡ suc c = ap (λ (x : ℕ). under x c) e in
        let a = above (λ q. z (omega (arith, q, e))) (omega (arith, two-pow-succ d, h)) in
        let even : (m - 2 ^ suc c) % 2 ≡ 0 = omega (arith, two-pow-succ c, e, a.within) in
        let half : (m - 2 ^ suc c) / 2 ≡ m / 2 - 2 ^ c = omega (arith, two-pow-succ c, e, a.within) in
        let here : places (suc d) p m ≡ rest = ap (λ (x : ℕ). place_if x p rest) e in
        let later : places (suc d) p (m - 2 ^ suc c) ≡ places d (suc p) (m / 2 - 2 ^ c) =
        ap₂ (λ (x y : ℕ). place_if x p (places d (suc p) y)) even half in
        let place : p + suc c ≡ suc p + c = omega arith in
        subst⁻¹ (LeastPlace (suc d) p m) t
        (record {
          below = omega (arith, a.below);
          within = omega (arith, two-pow-succ c, a.within);
          others = here ∙ a.others ∙ ap₂ (λ (x : ℕ) (l : List ℕ). x ∷ l) (sym place) (sym later);
        })

-- No children are in a mask that is 0.
pub children_none : children_in 0 ≡ []
unfolding children_in
children_none = places_none 32 0

-- The first child in a mask, and the others.
pub record FirstChild (m k : ℕ) : Type 0 where
  pub below : k < 32
  pub within : 2 ^ k ≤ m
  pub others : children_in m ≡ k ∷ children_in (m - 2 ^ k)

pub first_child : (m : ℕ) → (m ≡ 0 → ⊥) → m < 4294967296 → FirstChild m (count_trailing_zeros 32 m)
unfolding children_in
first_child m z h =
    let l = least_place 32 0 m z h in
    let place : 0 + count_trailing_zeros 32 m ≡ count_trailing_zeros 32 m = omega arith in
    record { below = l.below; within = l.within; others = rw place at l.others }

-- The next of the children from p on that f says yes to, and those after it.
pub record NextChild (f : ℕ → Bool) (p k : ℕ) (after : List ℕ) : Type 0 where
  pub least : p ≤ k
  pub below : k < 8
  pub is : f k ≡ true
  pub skipped : (i : ℕ) → p ≤ i → i < k → f i ≡ false
  pub rest : after ≡ children_in (mask_of (from (suc k) f) 8)

head_of : List ℕ → ℕ
head_of [] = 0
head_of (x ∷ xs) = x

tail_of : List ℕ → List ℕ
tail_of [] = []
tail_of (x ∷ xs) = xs

module _ (f : ℕ → Bool) (p : ℕ) {ahead : List ℕ} (left : ahead ≡ children_in (mask_of (from p f) 8)) where
  abbrev mask : ℕ
  mask = mask_of (from p f) 8

  -- One more.
  pub next_child : {k : ℕ} {after : List ℕ} → ahead ≡ k ∷ after → NextChild f p k after
  unfolding head_of tail_of
  next_child {k} {after} step = go mask refl
    where
      go : (x : ℕ) → mask ≡ x → NextChild f p k after
      go zero e = absurd (omega (arith, ap length (sym step ∙ left ∙ ap children_in e ∙ children_none)))
      go (suc x) e =
          let z : mask ≡ 0 → ⊥ = λ q. omega (arith, q, e) in
          let n = mask_first f p 8 mask (omega arith) refl z in
          let c = first_child mask z (omega (arith, mask_small (from p f) 8)) in
          let same = sym c.others ∙ sym left ∙ step in
          subst (λ (k : ℕ). NextChild f p k after) (ap head_of same)
          (record { least = n.least; below = n.below; is = n.is; skipped = n.skipped; rest = sym (ap tail_of same) ∙ ap children_in n.rest })

  -- No more.
  pub no_child : ahead ≡ [] → (i : ℕ) → p ≤ i → i < 8 → f i ≡ false
  no_child none = go mask refl
    where
      go : (x : ℕ) → mask ≡ x → (i : ℕ) → p ≤ i → i < 8 → f i ≡ false
      go zero e = mask_none f p 8 e
      go (suc x) e =
          let c = first_child mask (λ q. omega (arith, q, e)) (omega (arith, mask_small (from p f) 8)) in
          absurd (omega (arith, ap length (sym c.others ∙ sym left ∙ none)))

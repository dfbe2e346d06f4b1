-- The place of a tag among samples.
use Prim.Native.Nat.{ℕ, suc, ◌+◌, ◌-◌, ◌≤◌, ◌<◌}
use mathlib.Core.Bool.{Bool, true, false, not}
use mathlib.Core.List.{List, [], ◌∷◌}
use mathlib.Core.Path.{◌≡◌, refl, sym, ap, ◌∙◌}
use native.Mathlib.Nat.{add-zero}
use native.Mathlib.Omega.{arith}
use borrow.Author.Tests.{lt-ltb, le-ltb, ltb-true, ltb-false, leb-true, leb-false, eq-eqb, ne_eqb, eqb-true}
use Rattle.std.specs.Prelude.{Option, None, Some}
use Rattle.std.specs.Option.{is_some}
use lib.Dec.{eqb, leb, ltb, leb-suc-suc}
use lib.ListN.{length}
use Rattle.colour.specs.declared.Sample.{Sample}
use Rattle.colour.specs.Question.{asks, first_no}
use Rattle.model.specs.Layout.{current}
use Rattle.model.specs.Lists.{keep}
use Rattle.model.specs.Machine.{has_tag}
use Rattle.model.specs.Sound.{Distinct}
use Rattle.model.proofs.Machine.Samples.{first_tag}
use Rattle.words.specs.Rows.{sample_in, samples_from}
use Rattle.words.proofs.Laws.Layout.Samples.{samples_length}
use Rattle.samples.specs.Steps.{row_of_tag, row_found, found_if, row_questions, without_row}

-- A tag is known exactly where its place is among the samples.
tag_placed : (t : ℕ) (xs : List Sample) → has_tag t xs ≡ ltb (row_of_tag t xs) (length xs)
unfolding has_tag row_of_tag
tag_placed t [] = refl
tag_placed t (s ∷ xs) = go (eqb s.tag t) refl (tag_placed t xs)
  where
    go : (r : Bool) → eqb s.tag t ≡ r → has_tag t xs ≡ ltb (row_of_tag t xs) (length xs) → has_tag t (s ∷ xs) ≡ ltb (row_of_tag t (s ∷ xs)) (length (s ∷ xs))
    go true e ih = rw (e, has_tag, row_of_tag) (sym (lt-ltb 0 (suc (length xs)) (omega arith)))
    go false e ih = rw (e, has_tag, row_of_tag) (ih ∙ sym (leb-suc-suc (suc (row_of_tag t xs)) (length xs)))

-- A tag is known where its row is among the first n.
pub tag_in_rows : (tag n : ℕ) (ws : List ℕ) (row : ℕ) → row ≡ row_of_tag tag (samples_from current ws 0 n)
    → has_tag tag (samples_from current ws 0 n) ≡ ltb row n
tag_in_rows tag n ws row placed = tag_placed tag (samples_from current ws 0 n) ∙ rw (samples_length ws n 0, ← placed)

-- What is found by a test tells the test.
found_told : (b : Bool) (r k : ℕ) → found_if b r ≡ Some k → (b ≡ true) × (r ≡ k)
unfolding found_if
found_told true r k e = (refl, cc)
found_told false r k e = let z : ◌≡◌ {A = ℕ} 0 1 = cc in absurd (omega arith)

found_untold : (b : Bool) (r : ℕ) → found_if b r ≡ None → b ≡ false
unfolding found_if
found_untold true r e = let z : ◌≡◌ {A = ℕ} 0 1 = cc in absurd (omega arith)
found_untold false r e = refl

found_known : (b : Bool) (r : ℕ) → is_some (found_if b r) ≡ b
unfolding found_if
found_known true r = refl
found_known false r = refl

-- The row that is found, and what it tells.
module _ (t n : ℕ) (ws : List ℕ) where
  abbrev xs₀ : List Sample
  xs₀ = samples_from current ws 0 n

  in_rows : has_tag t xs₀ ≡ ltb (row_of_tag t xs₀) n
  in_rows = tag_in_rows t n ws (row_of_tag t xs₀) refl

  pub row_there : (row : ℕ) → row ≡ row_of_tag t xs₀ → row < n → Some row ≡ row_found t xs₀
  unfolding row_found found_if
  row_there row e h = sym (ap (λ (b : Bool). found_if b (row_of_tag t xs₀)) (tag_in_rows t n ws row e ∙ lt-ltb row n h) ∙ ap Some (sym e))

  pub row_missing : n ≡ row_of_tag t xs₀ → None ≡ row_found t xs₀
  unfolding row_found found_if
  row_missing e =
      let same : n ≤ n = omega arith in
      sym (ap (λ (b : Bool). found_if b (row_of_tag t xs₀)) (tag_in_rows t n ws n e ∙ le-ltb n n same))

  pub row_told : (k : ℕ) → row_found t xs₀ ≡ Some k → (k ≡ row_of_tag t xs₀) × (k < n)
  unfolding row_found
  row_told k e =
      let f = found_told (has_tag t xs₀) (row_of_tag t xs₀) k e in
      let below : row_of_tag t xs₀ < n = ltb-true (row_of_tag t xs₀) n (sym in_rows ∙ f.0) in
      (sym f.1, omega (arith, f.1, below))

  pub row_untold : row_found t xs₀ ≡ None → n ≤ row_of_tag t xs₀
  unfolding row_found
  row_untold e = ltb-false (row_of_tag t xs₀) n (sym in_rows ∙ found_untold (has_tag t xs₀) (row_of_tag t xs₀) e)

  pub row_has : {o : Option ℕ} {known : Bool} → o ≡ row_found t xs₀ → known ≡ is_some o → has_tag t xs₀ ≡ known
  unfolding row_found
  row_has e k = sym (k ∙ ap is_some e ∙ found_known (has_tag t xs₀) (row_of_tag t xs₀))

  -- What questions 5 and 6 come to: 5 where its row is one of the n, else 6 where no row is left, and else 0.
  pub row_asked : (rows : ℕ) (P : ℕ → Type 0) → (row_of_tag t xs₀ < n → P 5) → (n ≤ row_of_tag t xs₀ → rows ≤ n → P 6)
      → (n ≤ row_of_tag t xs₀ → n < rows → P 0) → P (first_no (row_questions t xs₀ rows))
  unfolding row_questions first_no
  row_asked rows P known full left =
      rw (in_rows, samples_length ws n 0) (go (ltb (row_of_tag t xs₀) n) (leb rows n) refl refl)
    where
      go : (k f : Bool) → ltb (row_of_tag t xs₀) n ≡ k → leb rows n ≡ f → P (first_no (asks 5 (not k) ∷ asks 6 (not f) ∷ []))
      go true f ek ef = known (ltb-true (row_of_tag t xs₀) n ek)
      go false true ek ef = full (ltb-false (row_of_tag t xs₀) n ek) (leb-true rows n ef)
      go false false ek ef = left (ltb-false (row_of_tag t xs₀) n ek) (leb-false rows n ef)

module _ (t : ℕ) where
  -- Whether a sample stays when the tag's is removed.
  abbrev pub stays : Sample → Bool
  stays s = not (eqb s.tag t)

  -- Without the tag all stay.
  all_stay : (xs : List Sample) → has_tag t xs ≡ false → keep stays xs ≡ xs
  unfolding keep
  all_stay [] h = refl
  all_stay (s ∷ xs) h =
      let first = first_tag t s xs h in
      rw (first.0, keep) (ap (λ (l : List Sample). s ∷ l) (all_stay xs first.1))

  -- Of samples with distinct tags, those that stay are those at the other places.
  pub stay_others : (xs : List Sample) → Distinct xs → row_of_tag t xs < length xs → keep stays xs ≡ without_row (row_of_tag t xs) xs
  unfolding keep row_of_tag without_row Distinct
  stay_others [] d h = absurd (omega arith)
  stay_others (s ∷ xs) d h = go (eqb s.tag t) refl (stay_others xs d.1)
    where
      go : (r : Bool) → eqb s.tag t ≡ r → (row_of_tag t xs < length xs → keep stays xs ≡ without_row (row_of_tag t xs) xs)
          → keep stays (s ∷ xs) ≡ without_row (row_of_tag t (s ∷ xs)) (s ∷ xs)
      go true e ih = rw (e, keep, row_of_tag) (all_stay xs (ap (λ (k : ℕ). has_tag k xs) (sym (eqb-true _ _ e)) ∙ d.0))
      go false e ih = rw (e, keep, row_of_tag) (ap (λ (l : List Sample). s ∷ l) (ih (omega (arith, (rw (e, row_of_tag) at h)))))

-- The first i of n rows were passed: the place of a tag is counted from there.
pub record Passed (ws : List ℕ) (n t i : ℕ) : Type 0 where
  pub most : i ≤ n
  pub place : row_of_tag t (samples_from current ws 0 n) ≡ i + row_of_tag t (samples_from current ws i (n - i))

module _ {ws : List ℕ} {n t i : ℕ} (p : Passed ws n t i) where
  -- The row that is met is the first of those that are left.
  met : i < n → row_of_tag t (samples_from current ws i (n - i)) ≡ row_of_tag t (sample_in current ws i ∷ samples_from current ws (i + 1) (n - (i + 1)))
  unfolding samples_from
  met h =
      let left : n - i ≡ suc (n - (i + 1)) = omega arith in
      ap (λ (k : ℕ). row_of_tag t (samples_from current ws i k)) left
      ∙ ap (λ (k : ℕ). row_of_tag t (sample_in current ws i ∷ samples_from current ws k (n - (i + 1)))) (omega arith)

  module _ (s : Sample) (h : i < n) (e : s ≡ sample_in current ws i) where
    -- It has the tag, or is passed too.
    pub passed_to : s.tag ≡ t → i ≡ row_of_tag t (samples_from current ws 0 n)
    unfolding row_of_tag
    passed_to same =
        let here : eqb (sample_in current ws i).tag t ≡ true = eq-eqb _ _ (ap (λ (x : Sample). x.tag) (sym e) ∙ same) in
        sym (p.place ∙ ap (λ (k : ℕ). i + k) (met h ∙ rw (here, row_of_tag)) ∙ add-zero i)

    pub passed_more : (s.tag ≡ t → ⊥) → Passed ws n t (i + 1)
    unfolding row_of_tag
    passed_more other =
        let there : eqb (sample_in current ws i).tag t ≡ false = ne_eqb _ _ (λ f. other (ap (λ (x : Sample). x.tag) e ∙ f)) in
        let farther : row_of_tag t (samples_from current ws i (n - i)) ≡ suc (row_of_tag t (samples_from current ws (i + 1) (n - (i + 1)))) =
        met h ∙ rw (there, row_of_tag) in
        record { most = omega arith; place = omega (arith, p.place, farther) }

  -- No row is left: the tag has no place.
  pub passed_all : n ≤ i → n ≡ row_of_tag t (samples_from current ws 0 n)
  unfolding samples_from row_of_tag
  passed_all h =
      let none : n - i ≡ 0 = omega (arith, p.most) in
      sym
      (p.place ∙ ap (λ (k : ℕ). i + row_of_tag t (samples_from current ws i k)) none ∙ omega (arith, p.most))

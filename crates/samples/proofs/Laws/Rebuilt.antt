-- Both tables from the first rows, question by question.
use Prim.Native.Nat.{ℕ, ◌≤◌, ◌<◌}
use mathlib.Core.Bool.{Bool, true, false, not, true≢false, and-eq-true_iff}
use mathlib.Core.List.{List, [], ◌∷◌}
use mathlib.Core.Path.{◌≡◌, refl, sym, ap, ◌∙◌, subst, subst⁻¹}
use native.Mathlib.Omega.{arith}
use borrow.Author.Tests.{le-leb, leb-true, leb-false, not-true}
use lib.Dec.{leb}
use lib.ListN.{length}
use Rattle.colour.specs.declared.Sample.{Sample}
use Rattle.colour.specs.declared.Settings.{Settings}
use Rattle.colour.specs.Octant.{depths}
use Rattle.colour.specs.Colour.{codes_fit}
use Rattle.colour.specs.Question.{Question, asks, first_no}
use Rattle.colour.proofs.Laws.Questions.{asked, first_yes, first_no_lem, alone_yes, refusal_numbered}
use Rattle.colour.proofs.Laws.Refused.{refused_numbered}
use Rattle.model.specs.SampleSet.{order_of, octants_of, octants}
use Rattle.model.specs.Layout.{current, sample_rows, octant_rows}
use Rattle.model.specs.Tables.{Tables, pair, tables_for}
use Rattle.model.specs.Sound.{CodesInRange}
use Rattle.words.specs.Rows.{samples_from, set_of}
use Rattle.order.specs.Entries.{entries_of, view}
use Rattle.octree.specs.Steps.{fits_rows, Judged, Writable}
use Rattle.std.specs.Prelude.{Result, Ok, Err}
use Rattle.colour.specs.declared.refusal.Refusal.{Refusal}
use Rattle.colour.specs.Refusal.{refusal_number, answer_number}
use Rattle.octree.proofs.Laws.Tables.Judged.{fits_room, room_fits}
use Rattle.samples.specs.Rebuilding.{all_fit, room_asked, codes_asked, Rebuilt, Entered}
use Rattle.samples.specs.Steps.{Acceptable}

-- The number by an equation.
pub at_number : {qs : List Question} {x : Settings} {n : ℕ} {t t' : Tables} {r k : ℕ} → r ≡ k → Rebuilt qs x n t k t' → Rebuilt qs x n t r t'
at_number {qs} {x} {n} {t} {t'} e told = subst⁻¹ (λ (k : ℕ). Rebuilt qs x n t k t') e told

-- A question answered with no gives its number, and nothing is written.
pub no_to : (k : ℕ) (a : Bool) (qs : List Question) (x : Settings) (n : ℕ) (t : Tables) → (k ≡ 0 → ⊥) → a ≡ false → Rebuilt (asks k a ∷ qs) x n t k t
unfolding first_no
no_to k false qs x n t z e = record { number = refl; refused = λ _. refl; accepted = λ o. absurd (z o) }
no_to k true qs x n t z e = absurd (true≢false e)

-- One answered with yes leaves it to those after it.
pub yes_to : (k : ℕ) (a : Bool) (qs : List Question) (x : Settings) (n : ℕ) (t : Tables) (r : ℕ) (t' : Tables) → a ≡ true → Rebuilt qs x n t r t'
    → Rebuilt (asks k a ∷ qs) x n t r t'
unfolding first_no
yes_to k true qs x n t r t' e told = record { number = told.number; refused = told.refused; accepted = told.accepted }
yes_to k false qs x n t r t' e told = absurd (true≢false (sym e))

-- Codes in range, as a test.
fit_in_range : (xs : List Sample) → all_fit xs ≡ true → CodesInRange xs
unfolding all_fit CodesInRange
fit_in_range [] e = tt
fit_in_range (s ∷ xs) e =
    let both = (and-eq-true_iff (codes_fit s.colour) (all_fit xs)).0 e in
    (both.0, fit_in_range xs both.1)

in_range_fit : (xs : List Sample) → CodesInRange xs → all_fit xs ≡ true
unfolding all_fit CodesInRange
in_range_fit [] h = refl
in_range_fit (s ∷ xs) h = (and-eq-true_iff (codes_fit s.colour) (all_fit xs)).1 (h.0, in_range_fit xs h.1)

-- Samples without codes are found.
unfit_found : (xs : List Sample) (r : Bool) → r ≡ false → (CodesInRange xs → r ≡ true) → all_fit xs ≡ false
unfit_found xs r e told = go (all_fit xs) refl
  where
    go : (a : Bool) → all_fit xs ≡ a → all_fit xs ≡ false
    go true f = absurd (true≢false (sym (told (fit_in_range xs f)) ∙ e))
    go false f = f

module _ (x : Settings) (ws os es : List ℕ) (scratch : ℕ) (h : Entered ws os es scratch) where
  abbrev t₀ : Tables
  t₀ = pair ws os

  module _ (after : List ℕ) (r : Result ℕ Refusal) (told : Judged x.bucket es after (length ws) (length os) r) where
    abbrev room : Bool
    room = leb (octants (set_of current ws x (length es))) (octant_rows current (length os))

    -- A list that does not fit gives 7.
    pub no_room : (answer_number r ≡ 0 → ⊥) → Rebuilt (room_asked x (length es) t₀) x (length es) t₀ 7 t₀
    unfolding room_asked
    no_room ne = no_to 7 room [] x (length es) t₀ (λ e. omega (arith, e)) (go room refl)
      where
        go : (a : Bool) → room ≡ a → room ≡ false
        go true e = absurd (ne (room_fits x ws es h.spaced.few h.entries after (length os) r told (leb-true _ _ e)))
        go false e = e

    -- That is its refusal's number, since there are rows.
    abbrev room₂ : Bool
    room₂ = leb (octants_of x.bucket depths (view es)) (octant_rows current (length os))

    judged_seven : (e : Refusal) → r ≡ Err e → refusal_number e ≡ 7
    unfolding fits_rows
    judged_seven e er = go room₂ refl
      where
        numbered : refusal_number e ≡ first_no (asks 7 room₂ ∷ [])
        numbered = sym (ap answer_number er) ∙ told.number ∙ first_yes 6 _ _ (le-leb (length es) (sample_rows current (length ws)) h.spaced.few)

        go : (b : Bool) → room₂ ≡ b → refusal_number e ≡ 7
        go true k = absurd (refusal_numbered e (numbered ∙ alone_yes 7 room₂ k))
        go false k = numbered ∙ first_no_lem 7 room₂ [] k

    pub refused_room : (e : Refusal) → r ≡ Err e → (q : Result (Unit {0}) Refusal) → q ≡ Err e
        → Rebuilt (room_asked x (length es) t₀) x (length es) t₀ (answer_number q) t₀
    refused_room e er q eq = at_number (ap answer_number eq ∙ judged_seven e er) (no_room (refused_numbered r e er))

    module _ (n : ℕ) (fits : r ≡ Ok n) (as_long : length after ≡ length es) where
      there_is_room : octants (set_of current ws x (length es)) ≤ octant_rows current (length os)
      there_is_room = fits_room x ws es h.spaced.few h.entries after (length os) r told (ap answer_number fits)

      -- One that fits is written.
      pub fit_to_write : Writable x ws (length os) after
      fit_to_write =
          record {
            sample_words_is = h.spaced.sample_words_is;
            octant_words_is = h.spaced.octant_words_is;
            few = omega (arith, as_long, h.spaced.few);
            order =
                told.order n fits
                ∙ ap (λ (l : List ℕ). order_of x.bucket depths (view l)) (h.entries ∙ ap (λ (m : ℕ). entries_of (samples_from current ws 0 m)) (sym as_long));
            room = subst (λ (m : ℕ). octants (set_of current ws x m) ≤ octant_rows current (length os)) (sym as_long) there_is_room;
          }

      pub with_room : (t' : Tables) → t' ≡ tables_for current (set_of current ws x (length after)) (length ws) (length os)
          → Rebuilt (room_asked x (length es) t₀) x (length es) t₀ 0 t'
      unfolding room_asked
      with_room t' e =
          record {
            number = sym (alone_yes 7 room (le-leb _ _ there_is_room));
            refused = λ z. absurd (z refl);
            accepted = λ _. e ∙ ap (λ (m : ℕ). tables_for current (set_of current ws x m) (length ws) (length os)) as_long;
          }

module _ (x : Settings) (n : ℕ) (ws os : List ℕ) where
  abbrev t₁ : Tables
  t₁ = pair ws os

  abbrev xs : List Sample
  xs = samples_from current ws 0 n

  -- Question 4.
  pub no_codes : (r : Bool) → not r ≡ true → (CodesInRange xs → r ≡ true) → Rebuilt (codes_asked x n t₁) x n t₁ 4 t₁
  unfolding codes_asked
  no_codes r off told = no_to 4 (all_fit xs) (room_asked x n t₁) x n t₁ (λ e. omega (arith, e)) (unfit_found xs r (not-true r off) told)

  -- Entries that were filled in are those of the rows.
  module _ (es : List ℕ) (as_long : length es ≡ n) (good : CodesInRange xs) where
    pub with_codes : (r : ℕ) (t' : Tables) → Rebuilt (room_asked x (length es) t₁) x (length es) t₁ r t' → Rebuilt (codes_asked x n t₁) x n t₁ r t'
    unfolding codes_asked
    with_codes r t' told =
        yes_to 4 (all_fit xs) (room_asked x n t₁) x n t₁ r t' (in_range_fit xs good) (subst (λ (m : ℕ). Rebuilt (room_asked x m t₁) x m t₁ r t') as_long told)

-- The same for words that are given by an equation.
pub rebuilt_as : (x : Settings) (n : ℕ) (us ws os : List ℕ) (r : ℕ) (t' : Tables) → us ≡ ws → Rebuilt (codes_asked x n (pair us os)) x n (pair us os) r t'
    → Rebuilt (codes_asked x n (pair ws os)) x n (pair ws os) r t'
rebuilt_as x n us ws os r t' e told = subst (λ (l : List ℕ). Rebuilt (codes_asked x n (pair l os)) x n (pair l os) r t') e told

-- What a rebuild of rows with codes comes to: their tables where their tree fits, and else 7 with nothing written.
module _ (x : Settings) (n : ℕ) (ws os : List ℕ) (r : ℕ) (t' : Tables) (in_range : CodesInRange (samples_from current ws 0 n))
    (told : Rebuilt (codes_asked x n (pair ws os)) x n (pair ws os) r t') where
  room_asked_lem : r ≡ first_no (asks 7 (leb (octants (set_of current ws x n)) (octant_rows current (length os))) ∷ [])
  unfolding codes_asked room_asked
  room_asked_lem = told.number ∙ first_yes 4 _ _ (in_range_fit (samples_from current ws 0 n) in_range)

  pub rebuilt_fits : octants (set_of current ws x n) ≤ octant_rows current (length os) → r ≡ 0
  rebuilt_fits h = room_asked_lem ∙ alone_yes 7 _ (le-leb _ _ h)

  pub rebuilt_room : r ≡ 0 → octants (set_of current ws x n) ≤ octant_rows current (length os)
  rebuilt_room e = leb-true _ _ (asked 7 _ [] (λ z. omega (arith, z)) (sym room_asked_lem ∙ e)).0

  pub rebuilt_over : (r ≡ 0 → ⊥) → octant_rows current (length os) < octants (set_of current ws x n)
  rebuilt_over ne = go (leb (octants (set_of current ws x n)) (octant_rows current (length os))) refl
    where
      go : (a : Bool) → leb (octants (set_of current ws x n)) (octant_rows current (length os)) ≡ a → octant_rows current (length os) < octants (set_of current ws x n)
      go true e = absurd (ne (rebuilt_fits (leb-true _ _ e)))
      go false e = leb-false _ _ e

-- Rows that are acceptable are rebuilt.
pub rebuilt_acceptable : (x : Settings) (n : ℕ) (ws os : List ℕ) (r : ℕ) (t' : Tables) → Acceptable x ws (length os) n
    → Rebuilt (codes_asked x n (pair ws os)) x n (pair ws os) r t'
    → (r ≡ 0) × (t' ≡ tables_for current (set_of current ws x n) (length ws) (length os))
rebuilt_acceptable x n ws os r t' a told =
    let done = rebuilt_fits x n ws os r t' a.in_range told a.octants_fit in
    (done, told.accepted done)

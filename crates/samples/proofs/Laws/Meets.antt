-- What a call that changes a set meets: question by question, and on sound tables the machine's.
use Prim.Native.Nat.{ℕ}
use mathlib.Core.List.{[], ◌∷◌}
use mathlib.Core.Bool.{Bool, true, false, true≢false, false≢true}
use mathlib.Core.Path.{◌≡◌, refl, sym, ap, ◌∙◌}
use Rattle.colour.specs.declared.refusal.Refusal.{Refusal}
use Rattle.colour.specs.Question.{asks, first_no}
use Rattle.colour.proofs.Laws.Questions.{first_yes, first_no_lem, refusal_numbered}
use Rattle.model.specs.Layout.{current}
use Rattle.model.specs.Tables.{Tables}
use Rattle.model.specs.SampleSet.{SampleSet}
use Rattle.model.specs.Machine.{Machine, Changing, Change, lent, Answer, Outcome, plain, tables_of, with_set, questions, accepted, refusal, next_state}
use Rattle.model.specs.Sound.{Sound, long_enough}
use Rattle.model.specs.Meets.{Refused, TableMeets, CheckMeets, Follows}
use Rattle.model.proofs.Machine.Step.{step_accepted, step_refused}
use Rattle.octree.proofs.Laws.Tables.Check.{too_short}
use Rattle.std.specs.Prelude.{Result, Err}
use Rattle.colour.specs.Refusal.{answer_number}
use Rattle.samples.specs.Steps.{FollowsAll}

-- Tables that show a machine are long enough.
pub shown_long : (t : Tables) → Sound current t → long_enough current t ≡ true
shown_long t s = go (long_enough current t) refl
  where
    go : (r : Bool) → long_enough current t ≡ r → long_enough current t ≡ true
    go true e = e
    go false e = absurd (false≢true ((too_short t.samples t.octants e).complete s))

module _ (c : Changing) (t : Tables) (a : Answer) where
  -- Question 1.
  pub short_refused : long_enough current t ≡ false → a ≡ plain 1 (lent (Change c)) → TableMeets (Refused 2 (Change c) t a t) (Change c) t a t
  short_refused short e =
      record {
        short = λ _. record { answer = e; tables = refl };
        unsound = λ long _. absurd (true≢false (sym long ∙ short));
        sound = λ m s. absurd (true≢false (sym (shown_long t (record { machine = m; shows = s })) ∙ short));
      }

  -- Question 2.
  pub unsound_refused : long_enough current t ≡ true → (Sound current t → ⊥) → a ≡ plain 2 (lent (Change c)) → TableMeets (Refused 2 (Change c) t a t) (Change c) t a t
  unsound_refused long never e =
      record {
        short = λ short. absurd (true≢false (sym long ∙ short));
        unsound = λ _ _. record { answer = e; tables = refl };
        sound = λ m s. absurd (never (record { machine = m; shows = s }));
      }

  -- The first no of the two, where the tables are those of no set.
  pub first_refused : (k : ℕ) → CheckMeets t false → k ≡ first_no (asks 1 (long_enough current t) ∷ asks 2 false ∷ []) → a ≡ plain k (lent (Change c))
      → TableMeets (Refused 2 (Change c) t a t) (Change c) t a t
  first_refused k never number told = go (long_enough current t) refl
    where
      numbered : (n : ℕ) → first_no (asks 1 (long_enough current t) ∷ asks 2 false ∷ []) ≡ n → a ≡ plain n (lent (Change c))
      numbered n e = told ∙ ap (λ (i : ℕ). plain i (lent (Change c))) (number ∙ e)

      go : (long : Bool) → long_enough current t ≡ long → TableMeets (Refused 2 (Change c) t a t) (Change c) t a t
      go true long = unsound_refused long (λ s. true≢false (sym (never.complete s))) (numbered 2 (first_yes 1 _ _ long ∙ first_no_lem 2 false [] refl))
      go false short = short_refused short (numbered 1 (first_no_lem 1 _ _ short))

  -- On sound tables the answer and the tables are the machine's.
  pub sound_follows : (t' : Tables) → Sound current t → FollowsAll c t a t' → TableMeets (Refused 2 (Change c) t a t') (Change c) t a t'
  sound_follows t' s f =
      record {
        short = λ short. absurd (true≢false (sym (shown_long t s) ∙ short));
        unsound = λ _ never. absurd (never s);
        sound = f;
      }

-- A refusal has a number.
pub changed_refused : (r : Result (Unit {0}) Refusal) (q : Refusal) → r ≡ Err q → answer_number r ≡ 0 → ⊥
changed_refused r q e z = refusal_numbered q (sym (ap answer_number e) ∙ z)

-- A call that answers a number alone. By the first no of its questions nothing changes; without one the set is the one that acceptance gives.
module _ (m : Machine) (c : Changing) (t' : Tables) where
  pub refused_follows : (k : ℕ) → first_no (questions m (Change c)) ≡ k → (k ≡ 0 → ⊥) → t' ≡ tables_of current m → Follows m (Change c) (plain k []) t'
  unfolding refusal lent next_state with_set
  refused_follows k asked ne told =
      let e = step_refused m (Change c) (λ z. ne (sym asked ∙ z)) in
      record {
        answer = ap (λ (n : ℕ). plain n []) (sym asked) ∙ ap (λ (o : Outcome). o.answer) (sym e);
        tables = told ∙ ap (λ (o : Outcome). tables_of current (with_set m o.set)) (sym e);
      }

  pub accepted_follows : (set : SampleSet) → first_no (questions m (Change c)) ≡ 0 → accepted m (Change c) ≡ record { answer = plain 0 []; set = set }
      → t' ≡ tables_of current (with_set m set) → Follows m (Change c) (plain 0 []) t'
  unfolding next_state
  accepted_follows set asked does told =
      let e = step_accepted m (Change c) asked ∙ does in
      record {
        answer = ap (λ (o : Outcome). o.answer) (sym e);
        tables = told ∙ ap (λ (o : Outcome). tables_of current (with_set m o.set)) (sym e);
      }

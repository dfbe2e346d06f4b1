-- What is answered by a pass or a search is what document 01 says of the query: on sound tables the machine's answer, on any others what question 2 leaves.
use Prim.Native.Nat.{ℕ, ◌≤◌}
use mathlib.Core.Bool.{Bool, true, false}
use mathlib.Core.List.{List, [], ◌++◌}
use mathlib.Core.Path.{◌≡◌, refl, sym, ap, ◌∙◌, subst}
use native.Mathlib.Omega.{arith}
use borrow.Author.Tests.{leb-true, leb-false}
use lib.Dec.{leb}
use lib.ListN.{length, drop, length-append, length-drop}
use lib.Seq.{drop-append_seam}
use Rattle.std.specs.Prelude.{Option, Some, None}
use Rattle.colour.specs.declared.Query.{Query}
use Rattle.colour.specs.declared.Query.TheVariants as Q
use Rattle.colour.specs.declared.Region.{Region}
use Rattle.colour.specs.declared.panel.Wanted.{Wanted}
use Rattle.colour.specs.declared.panel.Wanted.TheVariants as W
use Rattle.colour.specs.Query.{query_good, query_questions, in_codes}
use Rattle.colour.specs.Question.{first_no}
use Rattle.colour.proofs.Laws.Questions.{first_no_lem}
use Rattle.model.specs.Layout.{current}
use Rattle.model.specs.Tables.{Tables}
use Rattle.model.specs.Queries.{Counts}
use Rattle.model.specs.Machine.{Machine, tables_of, Ask, lent, Answer, plain, nearest_answer, list_answer, unless_refused, wanted_questions, wanted_answer, step}
use Rattle.model.specs.Sound.{Shows, long_enough}
use Rattle.model.specs.Meets.{lists, may_give, own_reports, Free, Meets}
use Rattle.model.proofs.Machine.Day.{sound_long}
use Rattle.model.proofs.Machine.Possible.{nothing_reported, refusing_free}
use Rattle.words.specs.Rows.{octant_limit, sample_budget}
use Rattle.listing.specs.Pass.{Visit, pass_of}
use Rattle.listing.specs.Answers.{counts_of, pass_answer}
use Rattle.listing.proofs.Laws.Pass.Bounds.{pass_bounded}
use Rattle.listing.proofs.Laws.Answers.Answered.{pass_listing, pass_fits, pass_short, tags_budget}
use Rattle.nearest.specs.declared.best.Best.{Best}
use Rattle.nearest.specs.Best.{best_found, answer_of}
use Rattle.nearest.proofs.Laws.Found.{search_nearest, search_best_within}
use Rattle.query.specs.Answers.{raw_wanted, raw_answer, Bounds, AskMeets}
use Rattle.query.proofs.Laws.Machine.{query_same, query_refused, query_wanted}

-- The bounds.
module _ (t : Tables) (l : List ℕ) where
  abbrev budget : ℕ
  budget = sample_budget current t.samples

  -- Whatever is answered, where it counts no more and room enough is enough.
  bounded : (a : Answer) → a.entered ≤ octant_limit current t.octants → a.listed ≤ budget → a.measured ≤ budget → (budget ≤ length l → a.number ≡ 13 → ⊥)
      → Bounds l t a
  bounded a e n m r =
      record {
        entered = e;
        listed = n;
        measured = m;
        visited = λ R. (pass_bounded t.samples t.octants R).limits.visited;
        searched = λ p r. (search_best_within t.samples t.octants p r).visited;
        reached = λ p r. (search_best_within t.samples t.octants p r).entered;
        room = r;
      }

  refusal_bounds : (n : ℕ) → (budget ≤ length l → n ≡ 13 → ⊥) → Bounds l t (plain n l)
  unfolding plain nearest_answer
  refusal_bounds n r = bounded (plain n l) (omega arith) (omega arith) (omega arith) r

  pass_bounds : (R : Region) → Bounds l t (pass_answer (pass_of t.samples t.octants R) l)
  unfolding counts_of list_answer
  pass_bounds R = go (leb (length v.tags) (length l)) refl
    where
      v : Visit
      v = pass_of t.samples t.octants R

      go : (r : Bool) → leb (length v.tags) (length l) ≡ r → Bounds l t (pass_answer v l)
      go true e =
          let b = pass_bounded t.samples t.octants R in
          rw (pass_fits v l (leb-true (length v.tags) (length l) e))
          (bounded _ (omega (arith, b.limits.entered, b.limits.next)) (tags_budget t.samples t.octants R) (omega (arith, b.limits.measured, b.limits.visited)) (λ _ z. omega arith))
      go false e =
          rw (pass_short v l (leb-false (length v.tags) (length l) e))
          (refusal_bounds 13 (λ h _. omega (arith, h, leb-false (length v.tags) (length l) e, tags_budget t.samples t.octants R)))

  best_bounds : (found : Option Best) → Bounds l t (answer_of found l)
  unfolding answer_of nearest_answer
  best_bounds (Some best) = bounded _ (omega arith) (omega arith) (omega arith) (λ _ z. omega arith)
  best_bounds None = bounded _ (omega arith) (omega arith) (omega arith) (λ _ z. omega arith)

  -- Of whatever is wanted.
  wanted_bounds : (w : Wanted) → Bounds l t (raw_wanted t w l)
  unfolding raw_wanted
  wanted_bounds (W.Listed R) = pass_bounds R
  wanted_bounds (W.Nearest p r) = best_bounds (best_found t.samples t.octants p r)

  -- On sound tables whatever is wanted is answered as the machine answers.
  wanted_follows : (m : Machine) → Shows current m t → (w : Wanted)
      → raw_wanted t w l ≡ unless_refused (wanted_questions m.set w l) l (wanted_answer m.set w l)
  unfolding raw_wanted wanted_questions wanted_answer unless_refused first_no
  wanted_follows m shows (W.Listed R) = pass_listing t m shows R l
  wanted_follows m shows (W.Nearest p r) = search_nearest t.samples t.octants m shows p r l

-- What question 2 leaves of a query that question 9 accepts.
module _ (q : Query) (l : List ℕ) (t : Tables) (good : query_good q ≡ true) where
  may_zero : may_give q 0 ≡ true
  unfolding may_give query_questions first_no
  may_zero = rw good

  -- One that lists writes its tags and leaves the rest, or gives 13.
  module _ (is-list : lists q ≡ true) where
    listed_free : (tags : List ℕ) (c : Counts) → length tags ≤ length l
        → Free q l t (list_answer 0 (length tags) c (tags ++ drop (length tags) l)) t
    unfolding list_answer own_reports
    listed_free tags c h =
        record {
          tables = refl;
          number = may_zero;
          same_length = length-append tags (drop (length tags) l) ∙ omega (arith, length-drop (length tags) l);
          room = h;
          past = drop-append_seam tags (drop (length tags) l);
          refused = λ z. absurd (z refl);
          reports = rw is-list;
        }

    may_thirteen : may_give q 13 ≡ true
    unfolding may_give query_questions first_no
    may_thirteen = rw (good, is-list)

    pass_free : (v : Visit) → Free q l t (pass_answer v l) t
    pass_free v = go (leb (length v.tags) (length l)) refl
      where
        go : (r : Bool) → leb (length v.tags) (length l) ≡ r → Free q l t (pass_answer v l) t
        go true e = let h = leb-true (length v.tags) (length l) e in rw (pass_fits v l h) (listed_free v.tags (counts_of v) h)
        go false e = rw (pass_short v l (leb-false (length v.tags) (length l) e)) (refusing_free q l t 13 may_thirteen)

  -- Nearest leaves the listing, and reports what it found.
  module _ (is-nearest : lists q ≡ false) where
    near_free : (found : Bool) (tag distance : ℕ) → Free q l t (nearest_answer 0 found tag distance l) t
    unfolding nearest_answer own_reports
    near_free found tag distance =
        record {
          tables = refl;
          number = may_zero;
          same_length = refl;
          room = omega arith;
          past = refl;
          refused = λ z. absurd (z refl);
          reports = rw is-nearest;
        }

    best_free : (found : Option Best) → Free q l t (answer_of found l) t
    unfolding answer_of
    best_free (Some best) = near_free true best.tag best.distance
    best_free None = near_free false 0 0

wanted_free : (q : Query) (l : List ℕ) (t : Tables) → query_good q ≡ true → Free q l t (raw_wanted t (in_codes q) l) t
unfolding raw_wanted in_codes lists
wanted_free (Q.Ball c r) l t g = pass_free (Q.Ball c r) l t g refl _
wanted_free (Q.Box lo hi) l t g = pass_free (Q.Box lo hi) l t g refl _
wanted_free (Q.Nearest c r) l t g = best_free (Q.Nearest c r) l t g refl _

-- Question 9, answered with no.
nine_no : (q : Query) → query_good q ≡ false → first_no (query_questions q) ≡ 9
unfolding query_questions
nine_no q g = first_no_lem 9 (query_good q) [] g

module _ (q : Query) (l : List ℕ) (t : Tables) where
  -- By what the questions say.
  pub raw_short : long_enough current t ≡ false → raw_answer t q l ≡ plain 1 l
  unfolding raw_answer unless_refused first_no
  raw_short e = rw (e, raw_answer)

  pub raw_refused : long_enough current t ≡ true → query_good q ≡ false → raw_answer t q l ≡ plain 9 l
  unfolding raw_answer unless_refused query_questions first_no
  raw_refused e g = rw (e, g, raw_answer)

  pub raw_wanted_lem : long_enough current t ≡ true → query_good q ≡ true → raw_answer t q l ≡ raw_wanted t (in_codes q) l
  unfolding raw_answer unless_refused query_questions first_no
  raw_wanted_lem e g = rw (e, g, raw_answer)

  raw_bounds : Bounds l t (raw_answer t q l)
  raw_bounds = go (long_enough current t) (query_good q) refl refl
    where
      go : (e g : Bool) → long_enough current t ≡ e → query_good q ≡ g → Bounds l t (raw_answer t q l)
      go false g d f = rw (raw_short d) (refusal_bounds t l 1 (λ _ z. omega arith))
      go true false d f = rw (raw_refused d f) (refusal_bounds t l 9 (λ _ z. omega arith))
      go true true d f = rw (raw_wanted_lem d f) (wanted_bounds t l (in_codes q))

  may_nine : query_good q ≡ false → may_give q 9 ≡ true
  unfolding may_give
  may_nine g = rw (nine_no q g)

  -- On unsound ones it keeps within what question 2 leaves.
  raw_free : long_enough current t ≡ true → Free q l t (raw_answer t q l) t
  raw_free e = go (query_good q) refl
    where
      go : (g : Bool) → query_good q ≡ g → Free q l t (raw_answer t q l) t
      go true g = rw (raw_wanted_lem e g) (wanted_free q l t g)
      go false g = rw (raw_refused e g) (refusing_free q l t 9 (may_nine g))

  -- On sound tables it is the machine's answer.
  raw_follows : (m : Machine) → Shows current m t → raw_answer t q l ≡ (step m (Ask q l)).answer
  raw_follows m s = go (query_good q) refl
    where
      go : (g : Bool) → query_good q ≡ g → raw_answer t q l ≡ (step m (Ask q l)).answer
      go true g = raw_wanted_lem (sound_long m t s) g ∙ wanted_follows t l m s (in_codes q) ∙ sym (query_wanted m q l g)
      go false g = raw_refused (sound_long m t s) g ∙ sym (query_refused m q l g)

  -- It reports what its kind of query reports, and nothing else.
  raw_own : raw_answer t q l ≡ own_reports (lists q) l (raw_answer t q l)
  raw_own = go (long_enough current t) refl
    where
      go : (e : Bool) → long_enough current t ≡ e → raw_answer t q l ≡ own_reports (lists q) l (raw_answer t q l)
      go false d = rw (raw_short d) (nothing_reported q l 1)
      go true d = (raw_free d).reports

  pub own_reports_lem : (a : Answer) → AskMeets q l t a → a ≡ own_reports (lists q) l a
  own_reports_lem a m = m.named ∙ raw_own ∙ ap (own_reports (lists q) l) (sym m.named)

  -- The contract, by the named answer alone; and the bounds.
  pub ask_meets : (a : Answer) → a ≡ raw_answer t q l → AskMeets q l t a
  unfolding Meets lent
  ask_meets a e =
      record {
        meets =
            record {
              short = λ s. record { answer = e ∙ raw_short s; tables = refl };
              unsound = λ s u. subst (λ (x : Answer). Free q l t x t) (sym e) (raw_free s);
              sound = λ m s. record { answer = e ∙ raw_follows m s; tables = s.words ∙ ap (tables_of current) (sym (query_same m q l)) };
            };
        named = e;
      }

  pub ask_bounds : (a : Answer) → a ≡ raw_answer t q l → Bounds l t a
  ask_bounds a e = subst (Bounds l t) (sym e) raw_bounds

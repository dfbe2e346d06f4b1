-- What is answered by a pass: on sound tables what the machine lists and counts, and question 13 both ways.
use Prim.Native.Nat.{ℕ, ◌≤◌, ◌<◌}
use mathlib.Core.List.{List, [], ◌++◌}
use mathlib.Core.Path.{◌≡◌, ap, ap₂, ◌∙◌}
use native.Mathlib.Omega.{arith}
use borrow.Author.Tests.{le-leb, lt-leb}
use lib.Dec.{leb}
use lib.ListN.{length, drop}
use Rattle.colour.specs.declared.Region.{Region}
use Rattle.colour.specs.Question.{first_no}
use Rattle.colour.proofs.Laws.Questions.{alone_yes, first_no_lem}
use Rattle.model.specs.Layout.{current}
use Rattle.model.specs.Tables.{Tables}
use Rattle.model.specs.Queries.{Counts, listed, counts}
use Rattle.model.specs.Machine.{Machine, plain, unless_refused, room_questions, list_answer, listing_answer}
use Rattle.model.specs.Sound.{Shows}
use Rattle.model.proofs.Machine.Step.{answer_accepted, answer_refused}
use Rattle.words.specs.Rows.{sample_budget}
use Rattle.listing.specs.Pass.{Visit, no_tally, pass_of}
use Rattle.listing.specs.Answers.{counts_of, pass_answer}
use Rattle.listing.proofs.Laws.Pass.Bounds.{pass_bounded}
use Rattle.listing.proofs.Laws.Sound.Passed.{pass_agrees}

-- On sound tables the pass answers by what the machine lists and counts, and by question 13 for that.
pub pass_listing : (t : Tables) (m : Machine) → Shows current m t → (R : Region) (l : List ℕ)
    → pass_answer (pass_of t.samples t.octants R) l
    ≡ unless_refused (room_questions (listed R m.set) l) l (listing_answer (listed R m.set) (counts R m.set) l)
unfolding pass_answer counts_of
pass_listing t m shows R l =
    let p = pass_agrees t.samples t.octants m shows R in
    let same : counts_of (pass_of t.samples t.octants R) ≡ counts R m.set = λ i. record { entered = p.entered i; measured = p.measured i } in
    ap₂ (λ (tags : List ℕ) (c : Counts). unless_refused (room_questions tags l) l (listing_answer tags c l)) p.tags same

-- Question 13, both ways.
pub room_yes : (tags l : List ℕ) → length tags ≤ length l → first_no (room_questions tags l) ≡ 0
unfolding room_questions
room_yes tags l h = alone_yes 13 (leb (length tags) (length l)) (le-leb (length tags) (length l) h)

pub room_no : (tags l : List ℕ) → length l < length tags → first_no (room_questions tags l) ≡ 13
unfolding room_questions
room_no tags l h = first_no_lem 13 (leb (length tags) (length l)) [] (lt-leb (length tags) (length l) h)

module _ (v : Visit) (l : List ℕ) where
  pub pass_fits : length v.tags ≤ length l → pass_answer v l ≡ list_answer 0 (length v.tags) (counts_of v) (v.tags ++ drop (length v.tags) l)
  unfolding pass_answer listing_answer
  pass_fits h = answer_accepted (room_questions v.tags l) l _ (room_yes v.tags l h)

  pub pass_short : length l < length v.tags → pass_answer v l ≡ plain 13 l
  unfolding pass_answer
  pass_short h =
      let n = room_no v.tags l h in
      answer_refused (room_questions v.tags l) l _ (λ z. omega arith) ∙ ap (λ (k : ℕ). plain k l) n

-- A pass lists no more than it may visit.
pub tags_budget : (ws os : List ℕ) (R : Region) → length (pass_of ws os R).tags ≤ sample_budget current ws
unfolding no_tally
tags_budget ws os R = let b = pass_bounded ws os R in omega (arith, b.listed, b.limits.visited)

-- One step of a script: what its words say, and what its call's contract comes to.
use Prim.Native.Nat.{ℕ, ◌≤◌, min}
use mathlib.Core.List.{List, [], ◌++◌}
use mathlib.Core.Option.{Option, none, some}
use mathlib.Core.Path.{◌≡◌, refl, sym, ap, ◌∙◌}
use native.Mathlib.Omega.{arith}
use lib.Ieee.{Float}
use lib.ListN.{length, get_or, take, drop, length-take}
use Rattle.colour.specs.declared.Query.{Query}
use Rattle.model.specs.Tables.{Tables}
use Rattle.model.specs.Machine.{Answer, plain, list_answer, nearest_answer}
use Rattle.query.specs.declared.answers.Reply.TheVariants as R
use Rattle.query.specs.Answers.{reply_answer}
use Rattle.std.specs.Prelude.{Some, None, Ok, Err}
use Rattle.replay.specs.declared.calls.Call.{Call}
use Rattle.replay.specs.declared.calls.Call.TheVariants as C
use Rattle.replay.specs.declared.calls.Given.{Given}
use Rattle.replay.specs.declared.calls.Given.TheVariants as V
use Rattle.replay.specs.Calls.{meant, query_of, listing_of, answer_of, given_answer, Kept, Named, CallMeets}
use Rattle.replay.specs.Format.{lent_at}
use Rattle.replay.specs.Script.{call_in, sheet_in, wants, lent_of, step_call, answer_words, written_over}
use Rattle.replay.specs.Replayed.{NamedAnswer, Stepped}
use Rattle.std.proofs.lemmas.List.{take_min}

-- The words of an answer do not tell its listing, which is as it is left.
record Tells (r : Given) (listing : List ℕ) : Type 0 where
  words : answer_words (answer_of r listing) ≡ answer_words (answer_of r [])
  left : (answer_of r listing).listing ≡ listing

tells : (r : Given) (listing : List ℕ) → Tells r listing
unfolding answer_words answer_of reply_answer plain list_answer nearest_answer
tells (V.Changed a) listing = record { words = refl; left = refl }
tells (V.Loaded a) listing = record { words = refl; left = refl }
tells (V.Replied (Ok (R.Listed c))) listing = record { words = refl; left = refl }
tells (V.Replied (Ok (R.Nearest (Some n)))) listing = record { words = refl; left = refl }
tells (V.Replied (Ok (R.Nearest None))) listing = record { words = refl; left = refl }
tells (V.Replied (Err e)) listing = record { words = refl; left = refl }

-- All the words that a call is lent are its answer's listing: a call that is no query is lent none.
listing_whole : (q : Option Query) (most : ℕ) (l left : List ℕ) → Kept q (take (wants q most) l) left → listing_of q left ≡ left
unfolding listing_of Kept wants
listing_whole none most l left kept = sym kept
listing_whole (some q) most l left kept = refl

-- A query's answer is named.
answer_named : (c : Call) (sheet l : List ℕ) (t : Tables) (a : Answer) (t' : Tables) → Named (query_of c) l t a t' → NamedAnswer (meant c sheet l) t a
unfolding Named NamedAnswer meant query_of
answer_named (C.Clear s) sheet l t a t' h = tt
answer_named (C.Change c) sheet l t a t' h = tt
answer_named (C.Ask q) sheet l t a t' h = h.asked.named

-- A step, by what its call, its sheet and the words that it is lent are.
module _ (words : List ℕ) (floats : List Float) (sheets listings answers : List ℕ) (t : Tables) where
  pub stepped : (c : Call) (sheet : List ℕ) (n : ℕ) (r : Given) (left answers' : List ℕ) (t' : Tables) → c ≡ call_in words floats
      → sheet ≡ sheet_in words sheets → n ≡ min (wants (query_of c) (get_or words lent_at 0)) (length listings) → length left ≡ length (take n listings)
      → CallMeets c sheet (take n listings) t r left t' → answers' ≡ written_over (answer_words (answer_of r [])) answers
      → Stepped words floats sheets listings answers t n (left ++ drop n listings) answers' t'
  unfolding lent_of step_call given_answer written_over
  stepped c sheet n r left answers' t' call-is sheet-is n-is same_length meets put =
      let n-clipped : n ≡ min (wants (query_of (call_in words floats)) (get_or words lent_at 0)) (length listings) =
      n-is ∙ ap (λ (x : Call). min (wants (query_of x) (get_or words lent_at 0)) (length listings)) call-is in
      let part_is : take n listings ≡ lent_of words floats listings =
      ap (λ (k : ℕ). take k listings) n-clipped ∙ take_min (wants (query_of (call_in words floats)) (get_or words lent_at 0)) listings in
      let m : CallMeets (call_in words floats) (sheet_in words sheets) (lent_of words floats listings) t r left t' =
      rw (call-is, sheet-is, part_is) at meets in
      let told = tells r (listing_of (query_of (call_in words floats)) left) in
      let whole : (given_answer (call_in words floats) r left).listing ≡ left = told.left ∙ listing_whole _ (get_or words lent_at 0) listings left m.kept in
      let size : length left ≡ n = same_length ∙ length-take n listings ∙ omega arith in
      record {
        answer = given_answer (call_in words floats) r left;
        meets = m.meets;
        named = answer_named (call_in words floats) (sheet_in words sheets) (lent_of words floats listings) t _ t' m.named;
        listed = sym (rw (whole, size));
        answered = put ∙ ap (λ (w : List ℕ). written_over w answers) (sym told.words);
        filled = ap length whole ∙ same_length ∙ ap length part_is;
        lent_is = sym size ∙ same_length ∙ ap length part_is;
      }

  -- A step is lent no more than there is.
  pub lent_within : (n : ℕ) (listings' answers' : List ℕ) (t' : Tables) → Stepped words floats sheets listings answers t n listings' answers' t'
      → n ≤ length listings
  unfolding lent_of
  lent_within n listings' answers' t' st =
      omega (arith, st.lent_is ∙ length-take (wants (query_of (call_in words floats)) (get_or words lent_at 0)) listings)

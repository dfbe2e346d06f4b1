-- The contract of the entry, from that of each kind of call and from what is given for its answer.
use Prim.Native.Nat.{ℕ}
use mathlib.Core.List.{List, []}
use mathlib.Core.Path.{refl}
use Rattle.std.specs.Prelude.{Result}
use Rattle.colour.specs.declared.refusal.Refusal.{Refusal}
use Rattle.colour.specs.declared.Settings.{Settings}
use Rattle.colour.specs.declared.Query.{Query}
use Rattle.model.specs.Tables.{Tables}
use Rattle.model.specs.Machine.{Clear, Change}
use Rattle.model.specs.Meets.{Meets}
use Rattle.samples.specs.Answers.{changed_answer}
use Rattle.query.specs.declared.answers.Reply.{Reply}
use Rattle.query.specs.Answers.{reply_answer, AskMeets, Bounds}
use Rattle.replay.specs.declared.calls.Changing.{Changing}
use Rattle.replay.specs.declared.calls.Call.TheVariants as C
use Rattle.replay.specs.declared.calls.Given.{Given}
use Rattle.replay.specs.declared.calls.Given.TheVariants as V
use Rattle.replay.specs.Calls.{change_meant, meant, query_of, listing_of, answer_of, given_answer, Kept, Queried, Named, CallMeets}

module _ (sheet lent : List ℕ) (t : Tables) where
  -- A clear, and a call that changes the set: the words lent for a listing stay.
  pub clear_meets : (a : Result (Unit {0}) Refusal) (t' : Tables) → (s : Settings) → Meets (Clear s) t (changed_answer a) t'
      → CallMeets (C.Clear s) sheet lent t (V.Changed a) lent t'
  unfolding meant query_of listing_of answer_of given_answer changed_answer Kept Named
  clear_meets a t' s m = record { meets = m; kept = refl; named = tt }

  pub change_meets : (r : Given) (t' : Tables) (c : Changing) → Meets (Change (change_meant c sheet)) t (answer_of r []) t' → CallMeets (C.Change c) sheet lent t r lent t'
  unfolding meant query_of listing_of given_answer Kept Named
  change_meets r t' c m = record { meets = m; kept = refl; named = tt }

  -- A query, with the words as it leaves them.
  pub ask_meets : (left : List ℕ) (a : Result Reply Refusal) → (q : Query) → AskMeets q lent t (reply_answer a left) → Bounds lent t (reply_answer a left)
      → CallMeets (C.Ask q) sheet lent t (V.Replied a) left t
  unfolding meant query_of listing_of answer_of given_answer Kept Named
  ask_meets left a q m b =
      let x : Queried q lent t (reply_answer a left) t = record { tables = refl; asked = m; bounds = b } in
      record { meets = m.meets; kept = tt; named = x }

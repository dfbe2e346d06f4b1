-- What a ball or a box answers once its region is known (document 01, "Picks"), by the pass over any words at all.
use Rattle.std.specs.Prelude.{ℕ, List, Result, Ok, Err}
use Rattle.colour.specs.declared.refusal.Refusal.{Refusal}
use Rattle.colour.specs.Refusal.{refusal_number}
use Rattle.model.specs.Queries as Queries
use Rattle.model.specs.Machine.{Answer, plain, list_answer, unless_refused, room_questions, listing_answer}
use Rattle.listing.specs.declared.list.Counts.{Counts}
use Rattle.listing.specs.Pass.{Visit}

-- The paper's number and values for each case, with the listing as it is left.
unfoldable pub listed_answer : Result Counts Refusal → List ℕ → Answer
listed_answer (Ok c) left = list_answer 0 c.listed (record { entered = c.entered; measured = c.measured }) left
listed_answer (Err r) left = plain (refusal_number r) left

-- What a pass counted.
unfoldable pub counts_of : Visit → Queries.Counts
counts_of v = record { entered = v.after.entered; measured = v.after.measured }

-- What a pass answers, with a listing as lent. Question 13: listing holds all?
unfoldable pub pass_answer : Visit → List ℕ → Answer
pass_answer v listing = unless_refused (room_questions v.tags listing) listing (listing_answer v.tags (counts_of v) listing)

-- What the functions under the calls ask and promise. No call's own promise cites these.
use Rattle.std.specs.Prelude.{ℕ, ◌+◌, ◌≤◌, ◌<◌, Bool, List, ◌≡◌, length}
use Rattle.std.proofs.lemmas.List.Edits.{sets}
use Rattle.colour.specs.declared.Region.{Region}
use Rattle.model.specs.Layout.{current}
use Rattle.words.specs.Rows.{octant_limit, sample_budget}
use Rattle.listing.specs.declared.tally.Tally as Lent
use Rattle.listing.specs.declared.follow.Run.{Run}
use Rattle.traversal.specs.Own.{rows_from}
use Rattle.listing.specs.Pass.{Tally, Visit, tags_of}

-- The tally that a pass lends: how many are listed, and the counts.
abbrev pub tally_of : ℕ → Tally → Lent.Tally
tally_of n t = record { listed = n; entered = t.entered; measured = t.measured; next = t.next; visited = t.visited }

-- Its counts.
abbrev pub tally_in : Lent.Tally → Tally
tally_in lent = record { entered = lent.entered; measured = lent.measured; next = lent.next; visited = lent.visited }

-- A tally within a budget of samples and a limit of octants. Rows that are entered rise, so there are no more of them than rows passed.
pub record TallyWithin (budget limit : ℕ) (t : Tally) : Type 0 where
  pub entered : t.entered ≤ t.next
  pub next : t.next ≤ limit
  pub measured : t.measured ≤ t.visited
  pub visited : t.visited ≤ budget

-- What is known wherever a pass stands: the limit fits 32 bits, and the tally that is lent is within the tables' bounds.
pub record Counting (ws os : List ℕ) (lent : Lent.Tally) : Type 0 where
  pub small : octant_limit current os < 4294967296
  pub limits : TallyWithin (sample_budget current ws) (octant_limit current os) (tally_in lent)
  pub listed : lent.listed ≤ lent.visited

-- A run of samples was gone through: its tags stand in the listing from a start on, as far as it reaches.
pub record Followed (ws : List ℕ) (R : Region) (whole : Bool) (first count start : ℕ) (listing : List ℕ) (r : Run) (listing' : List ℕ) : Type 0 where
  pub end : r.end ≡ start + length (tags_of ws R whole (rows_from ws count first))
  pub seen : r.seen ≡ length (rows_from ws count first)
  pub tags : listing' ≡ sets listing start (tags_of ws R whole (rows_from ws count first))

-- A visit was made: its tags stand in the listing after those listed before, as far as it reaches, and the tally that is lent is its own.
pub record Visited (v : Visit) (lent : Lent.Tally) (listing : List ℕ) (lent' : Lent.Tally) (listing' : List ℕ) : Type 0 where
  pub tally : lent' ≡ tally_of (lent.listed + length v.tags) v.after
  pub tags : listing' ≡ sets listing lent.listed v.tags

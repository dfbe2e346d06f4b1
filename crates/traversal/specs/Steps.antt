-- What the functions of a search ask and promise. No call's own promise cites these.
use Rattle.std.specs.Prelude.{ℕ, ◌≤◌, ◌<◌, List}
use Rattle.model.specs.Layout.{current}
use Rattle.words.specs.Rows.{octant_limit, sample_budget}
use Rattle.traversal.specs.Search.{Searching}

-- A search within a budget of samples and a limit of octants.
pub record SearchWithin {S : Type 0} (budget limit : ℕ) (s : Searching S) : Type 0 where
  pub entered : s.entered ≤ limit
  pub visited : s.visited ≤ budget

-- What is known wherever a search stands: the limit fits 32 bits, and the search is within the tables' bounds.
pub record SearchReady {S : Type 0} (ws os : List ℕ) (s : Searching S) : Type 0 where
  pub small : octant_limit current os < 4294967296
  pub limits : SearchWithin (sample_budget current ws) (octant_limit current os) s

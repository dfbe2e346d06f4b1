-- What is printed, as it stands in a text that was lent.
use Rattle.std.specs.Prelude.{ℕ, ◌≤◌, List, ◌++◌, map, ◌≡◌, length, drop}
use Rattle.model.specs.SampleSet.{order}
use Rattle.model.specs.Layout.{current}
use Rattle.model.specs.Tables.{Tables}
use Rattle.model.specs.Queries.{tag_of}
use Rattle.model.specs.Machine.{Machine, Change, Load, tables_of, step, next_state}
use Rattle.model.specs.Sound.{Shows, Sound}
use Rattle.model.specs.Walklist.{walklist_start, tag_lines}

-- The first n bytes are those printed, and the rest are as they were.
pub record Printed (bytes before after : List ℕ) (n : ℕ) : Type 0 where
  pub count : n ≡ length bytes
  pub text : after ≡ bytes ++ drop n before

-- The tags of the set in the tables, in the order.
unfoldable pub OrderPrinted : Tables → List ℕ → List ℕ → ℕ → Type 0
OrderPrinted t before after n = (m : Machine) → Shows current m t → Printed (tag_lines (map tag_of (order m.set))) before after n

-- Sound tables of at most 512 sample rows.
unfoldable pub Fits : Tables → Type 0
Fits t = Sound current t × (length t.samples ≤ walklist_start.sample_length)

-- A sheet's load into an empty set gave a number and left tables.
pub record SheetLoaded (sheet : List ℕ) (number : ℕ) (t : Tables) : Type 0 where
  pub number_is : number ≡ (step walklist_start (Change (Load sheet))).answer.number
  pub tables_are : t ≡ tables_of current (next_state walklist_start (Change (Load sheet)))

-- Judging a list by its entries is asking questions 6 and 7 of the set (document 01, "Questions").
use Prim.Native.Nat.{ℕ, ◌≤◌}
use mathlib.Core.List.{[], ◌∷◌}
use mathlib.Core.Path.{◌≡◌, ap₂, ◌∙◌}
use lib.Dec.{leb}
use lib.ListN.{length, length-map}
use Rattle.colour.specs.Question.{asks}
use Rattle.model.specs.SampleSet.{SampleSet, placed_from}
use Rattle.model.specs.Layout.{current, sample_rows, octant_rows}
use Rattle.model.specs.Machine.{Machine, fit_questions}
use Rattle.model.proofs.Tree.Order.{placed_length}
use Rattle.order.specs.Entries.{entry_of, entries_of}
use Rattle.octree.specs.Steps.{fits_rows}
use Rattle.octree.proofs.Laws.Tables.Tagless.{entries_octants}

pub same_questions : (m : Machine) (set : SampleSet) → length set.samples ≤ 4096
    → fits_rows set.settings.bucket (entries_of set.samples) m.sample_length m.octant_length ≡ fit_questions m set
unfolding fits_rows fit_questions entries_of
same_questions m set h =
    ap₂
    (λ (n k : ℕ). asks 6 (leb n (sample_rows current m.sample_length)) ∷ asks 7 (leb k (octant_rows current m.octant_length)) ∷ [])
    (length-map (placed_from 0 set.samples) entry_of ∙ placed_length 0 set.samples) (entries_octants set.settings set.samples h)

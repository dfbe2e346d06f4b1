-- The search of the tables for what is closest to a probe, octant by octant, over any words and for any store: what it keeps may be one best, or several.
-- It goes to the closest child first, drops children that cannot hold anything that comes before what is kept, and trusts no word: it enters no more
-- octants than the octant count and visits no more samples than the sample count, both clipped to the rows. On sound tables it keeps what taking every
-- sample of the order would keep (`search_kept` of proofs/Laws/Kept/Searched.antt): neither bound ever stops it.
use Rattle.std.specs.Prelude.{ℕ, zero, suc, ◌+◌, ◌^◌, Bool, true, false, ◌&&◌, List, ltb, length}
use Rattle.std.specs.Int.Bits.{bit_xor}
use Rattle.colour.specs.Channels.{Colour}
use Rattle.colour.specs.declared.Probe.{Probe}
use Rattle.colour.specs.Colour.{black, distance}
use Rattle.colour.specs.Octant.{depths, children, child_low}
use Rattle.colour.specs.Region.{closest}
use Rattle.colour.specs.Nearby.{closest_child}
use Rattle.model.specs.Layout.{Count, current}
use Rattle.words.specs.Rows.{settings_in, octant_field, octant_limit}
use Rattle.traversal.specs.Own.{own_rows, ends_at}
use Rattle.traversal.specs.Children.{child_at}
use Rattle.traversal.specs.Turns.{in_turn}

-- A store: `closer` says whether a sample at d², in an octant row, comes before something that is kept; `own` is what is kept once the samples in some
-- sample rows, of the octant in a row, are measured.
pub record Store (S : Type 0) : Type 0 where
  pub closer : S → ℕ → ℕ → Bool
  pub own : S → ℕ → List ℕ → S

-- What a search has come to: what is kept, how many octants were entered, and how many samples visited.
pub record Searching (S : Type 0) : Type 0 where
  pub kept : S
  pub entered : ℕ
  pub visited : ℕ

-- The child that is taken at turn m: at turn 0 the closest one; then one that differs in the channels of the bits of m.
unfoldable pub turn_child : Colour → ℕ → Colour → ℕ → ℕ
turn_child c s low m = bit_xor (closest_child c s low) m

-- Before a search, and once one octant more is entered.
unfoldable pub no_search : {S : Type 0} → S → Searching S
no_search start = record { kept = start; entered = 0; visited = 0 }

unfoldable pub search_entering : {S : Type 0} → Searching S → Searching S
search_entering s = record { kept = s.kept; entered = suc s.entered; visited = s.visited }

-- The own samples of the octant in a row are measured.
unfoldable pub own_search : {S : Type 0} → Store S → List ℕ → List ℕ → ℕ → Searching S → Searching S
own_search K ws os row s =
    record {
      kept = K.own s.kept row (own_rows ws os row s.visited);
      entered = s.entered;
      visited = s.visited + length (own_rows ws os row s.visited);
    }

-- Whether the octant in a row, whose closest colour is d² away, is entered: its row is below the limit and not 0, which is no child's; fewer octants than
-- the limit were entered; and it can hold something that comes before what is kept.
unfoldable pub reaches : {S : Type 0} → Store S → ℕ → ℕ → ℕ → Searching S → Bool
reaches K limit row d s = (ltb 0 row && ltb row limit) && (ltb s.entered limit && K.closer s.kept d row)

-- Child k, of side s, of the octant in a row at low: it is searched if it is entered.
unfoldable pub child_search : {S : Type 0} → Store S → List ℕ → Probe → (ℕ → Colour → Searching S → Searching S) → ℕ → ℕ → Colour → ℕ
    → Searching S → Searching S
child_search K os p below s row low k u =
    elim (reaches K (octant_limit current os) (child_at os row k) (distance p (closest p.centre s (child_low s k low))) u) [
      | true ↦ below (child_at os row k) (child_low s k low) u
      | false ↦ u
    ]

-- The octant in a row, of side 2 ^ j at low, is entered: its own samples are measured, or its children are searched.
unfoldable pub search_of : {S : Type 0} → Store S → List ℕ → List ℕ → Probe → ℕ → ℕ → Colour → Searching S → Searching S
search_of K ws os p zero row low s = own_search K ws os row (search_entering s)
search_of K ws os p (suc j) row low s =
    elim (ends_at (suc j) false (octant_field current os row Count) (settings_in current ws).bucket) [
      | true ↦ own_search K ws os row (search_entering s)
      | false ↦
          in_turn (λ m. child_search K os p (search_of K ws os p j) (2 ^ j) row low (turn_child p.centre (2 ^ j) low m)) children (search_entering s)
    ]

-- The whole search, from what is kept before it: the root in row 0 is entered if it is there.
unfoldable pub search_from : {S : Type 0} → Store S → List ℕ → List ℕ → Probe → S → Searching S
search_from K ws os p start =
    elim (ltb 0 (octant_limit current os)) [ true ↦ search_of K ws os p depths 0 black (no_search start) | false ↦ no_search start ]

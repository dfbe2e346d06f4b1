-- On any words at all: what entering an octant and measuring its own samples keep, the search keeps. So it enters no more octants than the octant table
-- counts and has, and visits no more samples than the sample table counts and has: a hostile table costs no more than a full one. And what does not come
-- before what is kept never does later.
use Prim.Native.Nat.{ℕ, zero, suc, ◌^◌, ◌<◌}
use mathlib.Core.Bool.{Bool, true, false}
use mathlib.Core.List.{List}
use mathlib.Core.Path.{◌≡◌, refl}
use native.Mathlib.Omega.{arith}
use borrow.Author.Tests.{ltb-true}
use lib.Dec.{ltb}
use Rattle.colour.specs.Channels.{Colour}
use Rattle.colour.specs.declared.Probe.{Probe}
use Rattle.colour.specs.Colour.{black, distance}
use Rattle.colour.specs.Octant.{depths, children, child_low}
use Rattle.colour.specs.Region.{closest}
use Rattle.model.specs.Layout.{Count, current}
use Rattle.words.specs.Rows.{settings_in, octant_field, octant_limit, sample_budget}
use Rattle.traversal.specs.Own.{ends_at}
use Rattle.traversal.specs.Children.{child_at}
use Rattle.traversal.specs.Turns.{in_turn}
use Rattle.traversal.specs.Search.{Store, Searching, search_entering, own_search, reaches, child_search, turn_child, search_of, no_search, search_from}
use Rattle.traversal.specs.Steps.{SearchWithin, SearchReady}
use Rattle.traversal.proofs.Laws.Rows.{own_few}
use Rattle.traversal.proofs.Laws.Search.Entered.{reaches_room}

module _ {S : Type 0} (K : Store S) (ws os : List ℕ) (p : Probe) (I : Searching S → Type 0)
    (enters : (s : Searching S) → s.entered < octant_limit current os → I s → I (search_entering s))
    (owns : (row : ℕ) (s : Searching S) → I s → I (own_search K ws os row s)) where
  abbrev limit : ℕ
  limit = octant_limit current os

  -- Turns that each keep it keep it one after the other.
  turns_keep : (F : ℕ → Searching S → Searching S) → ((k : ℕ) (u : Searching S) → I u → I (F k u)) → (n : ℕ) (s : Searching S) → I s → I (in_turn F n s)
  unfolding in_turn
  turns_keep F h zero s i = i
  turns_keep F h (suc n) s i = h n (in_turn F n s) (turns_keep F h n s i)

  -- A child that is entered, or not, keeps it, if a search below does.
  child_keeps : (below : ℕ → Colour → Searching S → Searching S) (side row : ℕ) (low : Colour)
      → ((at : ℕ) (l : Colour) (u : Searching S) → u.entered < limit → I u → I (below at l u))
      → (k : ℕ) (u : Searching S) → I u → I (child_search K os p below side row low k u)
  unfolding child_search
  child_keeps below side row low h k u i = go (reaches K limit at d u) refl
    where
      at : ℕ
      at = child_at os row k

      d : ℕ
      d = distance p (closest p.centre side (child_low side k low))

      go : (r : Bool) → reaches K limit at d u ≡ r → I (child_search K os p below side row low k u)
      go true e = rw (e, child_search) (h at (child_low side k low) u (reaches_room K limit at d u e).1 i)
      go false e = rw (e, child_search) i

  -- An octant that may be entered is searched so.
  pub search_keeps : (j row : ℕ) (low : Colour) (s : Searching S) → s.entered < limit → I s → I (search_of K ws os p j row low s)
  unfolding search_of
  search_keeps zero row low s h i = owns row (search_entering s) (enters s h i)
  search_keeps (suc j) row low s h i = go (ends_at (suc j) false (octant_field current os row Count) (settings_in current ws).bucket) refl (search_keeps j)
    where
      go : (r : Bool) → ends_at (suc j) false (octant_field current os row Count) (settings_in current ws).bucket ≡ r
          → ((at : ℕ) (l : Colour) (u : Searching S) → u.entered < limit → I u → I (search_of K ws os p j at l u))
          → I (search_of K ws os p (suc j) row low s)
      go true e ih = rw (e, search_of) (owns row (search_entering s) (enters s h i))
      go false e ih =
          rw (e, search_of)
          (turns_keep _ (λ k. child_keeps (search_of K ws os p j) (2 ^ j) row low ih (turn_child p.centre (2 ^ j) low k)) children (search_entering s)
          (enters s h i))

  -- A turn keeps it.
  pub turn_keeps : (j row : ℕ) (low : Colour) (k : ℕ) (u : Searching S) → I u → I (child_search K os p (search_of K ws os p j) (2 ^ j) row low k u)
  turn_keeps j row low k u i = child_keeps (search_of K ws os p j) (2 ^ j) row low (search_keeps j) k u i

  -- The whole search keeps it.
  pub search_from_keeps : (start : S) → I (no_search start) → I (search_from K ws os p start)
  unfolding search_from no_search
  search_from_keeps start i = go (ltb 0 limit) refl
    where
      go : (t : Bool) → ltb 0 limit ≡ t → I (search_from K ws os p start)
      go true e = rw (e, search_from) (search_keeps depths 0 black (no_search start) (ltb-true _ _ e) i)
      go false e = rw (e, search_from) i

-- Within the bounds.
module _ {S : Type 0} (K : Store S) (ws os : List ℕ) (p : Probe) where
  abbrev Within : Searching S → Type 0
  Within = SearchWithin (sample_budget current ws) (octant_limit current os)

  pub entering_within : (s : Searching S) → s.entered < octant_limit current os → Within s → Within (search_entering s)
  unfolding search_entering
  entering_within s h k = record { entered = h; visited = k.visited }

  own_within : (row : ℕ) (s : Searching S) → Within s → Within (own_search K ws os row s)
  unfolding own_search
  own_within row s k = record { entered = k.entered; visited = omega (arith, own_few ws os row s.visited, k.visited) }

  pub search_within : (j row : ℕ) (low : Colour) (s : Searching S) → s.entered < octant_limit current os → Within s → Within (search_of K ws os p j row low s)
  search_within = search_keeps K ws os p Within entering_within own_within

  pub turn_within_lem : (j row : ℕ) (low : Colour) (k : ℕ) (u : Searching S) → Within u → Within (child_search K os p (search_of K ws os p j) (2 ^ j) row low k u)
  turn_within_lem = turn_keeps K ws os p Within entering_within own_within

  -- Before a search nothing is entered and nothing visited.
  pub start_within : (start : S) → Within (no_search start)
  unfolding no_search
  start_within start = record { entered = omega arith; visited = omega arith }

  -- The whole search stays within the bounds.
  pub search_from_within : (start : S) → Within (search_from K ws os p start)
  search_from_within start = search_from_keeps K ws os p Within entering_within own_within start (start_within start)

-- So what is known of one search is known of a later one.
pub still_ready : {S : Type 0} {ws os : List ℕ} {u s : Searching S} → SearchReady ws os u → SearchWithin (sample_budget current ws) (octant_limit current os) s
    → SearchReady ws os s
still_ready r h = record { small = r.small; limits = h }

-- A store in which what does not come before what is kept still does not once an octant's own samples are measured, whatever they are.
pub record Steady {S : Type 0} (K : Store S) : Type 0 where
  pub stays : (s : S) (at : ℕ) (rows : List ℕ) (d row : ℕ) → K.closer s d row ≡ false → K.closer (K.own s at rows) d row ≡ false

-- So it never does.
module _ {S : Type 0} (K : Store S) (steady : Steady K) (ws os : List ℕ) (p : Probe) (d row : ℕ) where
  abbrev Past : Searching S → Type 0
  Past s = K.closer s.kept d row ≡ false

  entering_past : (s : Searching S) → s.entered < octant_limit current os → Past s → Past (search_entering s)
  unfolding search_entering
  entering_past s h e = e

  own_past : (at : ℕ) (s : Searching S) → Past s → Past (own_search K ws os at s)
  unfolding own_search
  own_past at s e = steady.stays s.kept at _ d row e

  pub search_past : (j at : ℕ) (low : Colour) (s : Searching S) → s.entered < octant_limit current os → Past s → Past (search_of K ws os p j at low s)
  search_past = search_keeps K ws os p Past entering_past own_past

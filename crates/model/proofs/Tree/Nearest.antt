-- Nearest is the least d² below the limit, the earliest in the order among equals, or none (document 01, "Picks").
use Prim.Native.Nat.{ℕ, suc, ◌≤◌, ◌<◌}
use mathlib.Core.Bool.{Bool, true, false}
use mathlib.Core.List.{List, [], ◌∷◌, ◌++◌}
use mathlib.Core.Option.{Option, none, some}
use mathlib.Core.Path.{◌≡◌, refl, ap}
use lib.Dec.{ltb}
use native.Mathlib.Omega.{arith}
use borrow.Author.Tests.{ltb-true, ltb-false}
use Rattle.colour.specs.declared.Probe.{Probe}
use Rattle.colour.specs.Colour.{distance}
use Rattle.model.specs.SampleSet.{Placed}
use Rattle.model.specs.Queries.{or_else, nearest_in}

-- How far a sample is from a probe.
abbrev far : Probe → Placed → ℕ
far p x = distance p x.sample.colour

-- Every sample of a list is at n or farther.
unfoldable pub AtLeast : Probe → ℕ → List Placed → Type 0
AtLeast p n [] = Unit {0}
AtLeast p n (x ∷ rest) = (n ≤ distance p x.sample.colour) × AtLeast p n rest

-- x stands in xs below the limit: those before it are farther, those after it no closer.
pub record Least (p : Probe) (limit : ℕ) (xs : List Placed) (x : Placed) : Type 0 where
  pub before : List Placed
  pub after : List Placed
  pub stands : xs ≡ before ++ (x ∷ after)
  pub below : distance p x.sample.colour < limit
  pub earlier : AtLeast p (suc (distance p x.sample.colour)) before
  pub later : AtLeast p (distance p x.sample.colour) after

-- What an answer says: none where every sample is at the limit or farther.
unfoldable pub Says : Probe → ℕ → List Placed → Option Placed → Type 0
Says p limit xs none = AtLeast p limit xs
Says p limit xs (some x) = Least p limit xs x

-- One more before it: it is kept out by the limit, or the best so far.
further : (p : Probe) (limit : ℕ) (x : Placed) (rest : List Placed) (o : Option Placed) → limit ≤ far p x → Says p limit rest o → Says p limit (x ∷ rest) o
unfolding Says AtLeast
further p limit x rest none h a = (h, a)
further p limit x rest (some y) h a =
    record {
      before = x ∷ a.before;
      after = a.after;
      stands = ap (λ (l : List Placed). x ∷ l) a.stands;
      below = a.below;
      earlier = (omega (arith, a.below), a.earlier);
      later = a.later;
    }

closer : (p : Probe) (limit : ℕ) (x : Placed) (rest : List Placed) (o : Option Placed) → far p x < limit → Says p (far p x) rest o
    → Says p limit (x ∷ rest) (some (or_else o x))
unfolding Says AtLeast or_else
closer p limit x rest none h a = record { before = []; after = rest; stands = refl; below = h; earlier = tt; later = a }
closer p limit x rest (some y) h a =
    record {
      before = x ∷ a.before;
      after = a.after;
      stands = ap (λ (l : List Placed). x ∷ l) a.stands;
      below = omega (arith, a.below);
      earlier = (a.below, a.earlier);
      later = a.later;
    }

pub nearest_says : (p : Probe) (limit : ℕ) (xs : List Placed) → Says p limit xs (nearest_in p limit xs)
unfolding nearest_in Says AtLeast
nearest_says p limit [] = tt
nearest_says p limit (x ∷ rest) = go (ltb (far p x) limit) refl (nearest_says p limit rest) (nearest_says p (far p x) rest)
  where
    go : (r : Bool) → ltb (far p x) limit ≡ r → Says p limit rest (nearest_in p limit rest) → Says p (far p x) rest (nearest_in p (far p x) rest)
        → Says p limit (x ∷ rest) (nearest_in p limit (x ∷ rest))
    go true e h a = rw (e, nearest_in) (closer p limit x rest (nearest_in p (far p x) rest) (ltb-true (far p x) limit e) a)
    go false e h a = rw (e, nearest_in) (further p limit x rest (nearest_in p limit rest) (ltb-false (far p x) limit e) h)

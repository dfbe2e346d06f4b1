-- Ball, box and nearest on the tree (document 01, "Picks").
use Rattle.std.specs.Prelude.{ℕ, zero, suc, ◌*◌, ◌^◌, true, false, List, [], ◌∷◌, map, ltb, length}
use Rattle.std.proofs.Math.Option.{Option, none, some}
use Rattle.colour.specs.Channels.{Colour}
use Rattle.colour.specs.declared.Probe.{Probe}
use Rattle.colour.specs.declared.Region.{Region}
use Rattle.colour.specs.Colour.{black, distance}
use Rattle.colour.specs.Octant.{depths, children, child_low}
use Rattle.colour.specs.Region.{holds, overlaps, inside}
use Rattle.model.specs.Lists.{keep, total}
use Rattle.model.specs.SampleSet.{SampleSet, Placed, placed, part, splits, order}

-- A sample's tag.
abbrev pub tag_of : Placed → ℕ
tag_of x = x.sample.tag

-- The tags that a ball or a box lists, in the order.
unfoldable pub listed : Region → SampleSet → List ℕ
listed R set = map tag_of (keep (λ x. holds R x.sample.colour) (order set))

-- Entered counts octants, measured counts samples.
pub record Counts : Type 0 where
  pub entered : ℕ
  pub measured : ℕ

-- Nothing entered, nothing measured.
unfoldable pub no_counts : Counts
no_counts = record { entered = 0; measured = 0 }

-- The sum of f 0, .., f (n - 1).
unfoldable pub total_counts : (ℕ → Counts) → ℕ → Counts
total_counts f n = record { entered = total (λ k. (f k).entered) n; measured = total (λ k. (f k).measured) n }

-- Each sample of an unsplit octant is measured.
unfoldable pub measure_all : List Placed → Counts
measure_all xs = record { entered = 0; measured = length xs }

-- An octant, of side s at low, that holds xs: if it is in the tree and overlaps it is entered; then it is taken whole if it is inside,
-- and else what is below it counts.
unfoldable pub enter : Region → ℕ → Colour → List Placed → Counts → Counts
enter R s low [] below = no_counts
enter R s low (x ∷ xs) below =
    elim (overlaps R s low) [
      | false ↦ no_counts
      | true ↦
          elim (inside R s low) [
            | true ↦ record { entered = 1; measured = 0 }
            | false ↦ record { entered = suc below.entered; measured = below.measured }
          ]
    ]

-- What is entered and measured at and below the octant of side 2 ^ j at low that holds xs.
unfoldable pub visit : Region → ℕ → ℕ → Colour → List Placed → Counts
visit R b zero low xs = enter R (2 ^ zero) low xs (measure_all xs)
visit R b (suc j) low xs =
    let below : Counts =
    elim (splits b (suc j) xs) [
      | true ↦ total_counts (λ k. visit R b j (child_low (2 ^ j) k low) (part j k xs)) children
      | false ↦ measure_all xs
    ] in
    enter R (2 ^ suc j) low xs below

-- What a ball or a box enters and measures, from the root down.
unfoldable pub counts : Region → SampleSet → Counts
counts R set = visit R set.settings.bucket depths black (placed set)

-- A later sample, if one was found, and else x.
unfoldable pub or_else : Option Placed → Placed → Placed
or_else none x = x
or_else (some y) x = y

-- Of a list in order: the first is found if it is below the limit and no later one is closer.
unfoldable pub nearest_in : Probe → ℕ → List Placed → Option Placed
nearest_in p limit [] = none
nearest_in p limit (x ∷ rest) =
    elim (ltb (distance p x.sample.colour) limit) [
      | true ↦ some (or_else (nearest_in p (distance p x.sample.colour) rest) x)
      | false ↦ nearest_in p limit rest
    ]

-- Near: the least d² < r² in the order.
unfoldable pub nearest : Probe → ℕ → SampleSet → Option Placed
nearest p r set = nearest_in p (r * r) (order set)

-- One pass of a ball or a box over any words of the two tables: what the traversal lists and counts, octant by octant. It trusts no word: rows that
-- are entered rise and lie below the octant count, and no more samples are visited than the sample count, both clipped to the rows.
-- On sound tables it lists, enters and measures what document 01 says of a pick (`pass_agrees` of proofs/Laws/Sound/Passed.antt): neither bound
-- ever stops it.
use Rattle.std.specs.Prelude.{ℕ, zero, suc, ◌+◌, ◌^◌, Bool, true, false, ◌&&◌, ◌||◌, List, [], ◌++◌, map, leb, ltb, length}
use Rattle.colour.specs.Channels.{Colour}
use Rattle.colour.specs.declared.Region.{Region}
use Rattle.colour.specs.Colour.{black, wrapped}
use Rattle.colour.specs.Octant.{depths, children, child_low}
use Rattle.colour.specs.Region.{holds, overlaps, inside}
use Rattle.model.specs.Lists.{keep}
use Rattle.model.specs.Layout.{Bucket, Tag, Count, current}
use Rattle.words.specs.Rows.{setting_in, sample_field, sample_in, octant_field, octant_limit}
use Rattle.traversal.specs.Own.{own_rows, ends_at}
use Rattle.traversal.specs.Children.{child_at}

-- What a pass has counted: octants entered, samples measured, and all samples visited, measured or taken whole. `next` is the least octant row
-- that may still be entered.
pub record Tally : Type 0 where
  pub entered : ℕ
  pub measured : ℕ
  pub next : ℕ
  pub visited : ℕ

-- The tags that a part of a pass lists, and the tally after it.
pub record Visit : Type 0 where
  pub tags : List ℕ
  pub after : Tally

-- Whether the sample in a row is listed: always if its octant is taken whole, and otherwise if the region holds it. Words that are no codes are wrapped.
unfoldable pub takes : List ℕ → Region → Bool → ℕ → Bool
takes ws R whole row = whole || holds R (wrapped (sample_in current ws row).colour)

-- The tags that rows list.
unfoldable pub tags_of : List ℕ → Region → Bool → List ℕ → List ℕ
tags_of ws R whole rows = map (λ i. sample_field current ws i Tag) (keep (takes ws R whole) rows)

-- Samples that are visited are measured unless their octant is taken whole.
unfoldable pub measured_after : Bool → ℕ → ℕ → ℕ
measured_after true measured n = measured
measured_after false measured n = measured + n

-- The tally after samples were visited.
unfoldable pub visiting : Bool → ℕ → Tally → Tally
visiting whole n t =
    record { entered = t.entered; measured = measured_after whole t.measured n; next = t.next; visited = t.visited + n }

-- The tally once the octant in a row is entered.
unfoldable pub tally_entering : ℕ → Tally → Tally
tally_entering row t = record { entered = suc t.entered; measured = t.measured; next = suc row; visited = t.visited }

-- An octant's own samples: all are listed if the octant is taken whole; otherwise each is measured, and listed if the region holds it.
unfoldable pub own_samples : List ℕ → List ℕ → Region → Bool → ℕ → Tally → Visit
own_samples ws os R whole row t =
    record { tags = tags_of ws R whole (own_rows ws os row t.visited); after = visiting whole (length (own_rows ws os row t.visited)) t }

-- Whether the octant in a row, of side s at low, is entered: it overlaps, its row is past those entered before, and the table has it. (A child in
-- row 0, which says that there is none, is never entered: row 0 is passed with the root.)
unfoldable pub enters : List ℕ → Region → ℕ → Colour → ℕ → Tally → Bool
enters os R s low row t = overlaps R s low && (leb t.next row && ltb row (octant_limit current os))

-- Nothing is visited.
unfoldable pub nothing : Tally → Visit
nothing t = record { tags = []; after = t }

-- One visit after another.
unfoldable pub and_then : Visit → (Tally → Visit) → Visit
and_then v f = record { tags = v.tags ++ (f v.after).tags; after = (f v.after).after }

-- Visits f 0, .., f (n - 1), one after the other.
unfoldable pub visit_each : (ℕ → Tally → Visit) → ℕ → Tally → Visit
visit_each f zero t = nothing t
visit_each f (suc n) t = and_then (visit_each f n t) (f n)

-- Child k, of side s, of the octant in a row at low: it is visited if it is entered.
unfoldable pub child_visit : List ℕ → Region → (ℕ → Colour → Tally → Visit) → ℕ → ℕ → Colour → ℕ → Tally → Visit
child_visit os R below s row low k t =
    elim (enters os R s (child_low s k low) (child_at os row k) t) [
      | true ↦ below (child_at os row k) (child_low s k low) t
      | false ↦ nothing t
    ]

-- Whether the octant in a row, of side 2 ^ j at low, is gone through sample by sample.
unfoldable pub ends : List ℕ → List ℕ → Region → ℕ → ℕ → Colour → Bool
ends ws os R j row low = ends_at j (inside R (2 ^ j) low) (octant_field current os row Count) (setting_in current ws Bucket)

-- The octant in a row, of side 2 ^ j at low, is entered: its own samples are visited, or its children in turn.
unfoldable pub visit_of : List ℕ → List ℕ → Region → ℕ → ℕ → Colour → Tally → Visit
visit_of ws os R zero row low t = own_samples ws os R (inside R (2 ^ zero) low) row (tally_entering row t)
visit_of ws os R (suc j) row low t =
    elim (ends ws os R (suc j) row low) [
      | true ↦ own_samples ws os R (inside R (2 ^ suc j) low) row (tally_entering row t)
      | false ↦ visit_each (child_visit os R (visit_of ws os R j) (2 ^ j) row low) children (tally_entering row t)
    ]

-- Before a pass.
unfoldable pub no_tally : Tally
no_tally = record { entered = 0; measured = 0; next = 0; visited = 0 }

-- The whole pass: the root in row 0 is entered if it overlaps and is there.
unfoldable pub pass_of : List ℕ → List ℕ → Region → Visit
pass_of ws os R =
    elim (enters os R (2 ^ depths) black 0 no_tally) [ true ↦ visit_of ws os R depths 0 black no_tally | false ↦ nothing no_tally ]

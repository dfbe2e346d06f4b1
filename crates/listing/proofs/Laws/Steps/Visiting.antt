-- The visit of an octant, by its cube: the octant is entered, and then its own samples are gone through, or its children.
use Prim.Native.Nat.{ℕ, zero, suc, ◌+◌, ◌-◌, ◌^◌, ◌≤◌, ◌<◌}
use mathlib.Core.Bool.{Bool, true, false, ◌&&◌, true≢false, and-eq-true_iff}
use mathlib.Core.List.{List}
use mathlib.Core.Path.{◌≡◌, refl, sym, ap, ap₂, ◌∙◌, subst}
use native.Mathlib.Numerals.{sub-one}
use native.Mathlib.Omega.{arith}
use borrow.Author.Tests.{leb-true, ltb-true}
use lib.Dec.{leb, ltb}
use lib.ListN.{length}
use lib.Seq.{sets}
use Rattle.colour.specs.Channels.{Colour}
use Rattle.colour.specs.declared.Cube.{Cube}
use Rattle.colour.specs.declared.Region.{Region}
use Rattle.colour.specs.Octant.{depths, side_at, children, child_low, child_cube, Within}
use Rattle.colour.specs.Mask.{overlap_mask}
use Rattle.colour.specs.Region.{inside}
use Rattle.model.specs.Layout.{First, Count, current}
use Rattle.words.specs.Rows.{settings_in, octant_field, octant_limit, sample_budget}
use Rattle.listing.specs.declared.follow.Run.{Run}
use Rattle.listing.specs.Pass.{Tally, Visit, tags_of, visiting, tally_entering, own_samples, visit_each, ends, visit_of}
use Rattle.listing.specs.declared.tally.Tally as Lent
use Rattle.listing.specs.Steps.{TallyWithin, tally_of, tally_in, Counting, Followed, Visited}
use Rattle.traversal.specs.Own.{rows_from, own_most, own_rows, ends_at}
use Rattle.traversal.proofs.Laws.Rows.{budget_most, own_few}
use Rattle.traversal.proofs.Laws.Cubes.{half_is, child_depth}
use Rattle.listing.proofs.Laws.Pass.Bounds.{entering_within}
use Rattle.listing.proofs.Laws.Steps.Turning.{turn}

-- A row that may be entered.
pub allowed_row : (r : Bool) (n row limit limit' : ℕ) → r ≡ (leb n row && ltb row limit) → r ≡ true → limit ≡ limit' → (n ≤ row) × (row < limit')
allowed_row r n row limit limit' told e same =
    let both = (and-eq-true_iff (leb n row) (ltb row limit)).0 (sym told ∙ e) in
    (leb-true _ _ both.0, omega (arith, ltb-true row limit both.1, same))

-- What is visited, by whether the octant is gone through sample by sample.
module _ (ws os : List ℕ) (R : Region) (row : ℕ) (low : Colour) (t : Tally) where
  visit_own : (left : ℕ) → ends ws os R left row low ≡ true
      → visit_of ws os R left row low t ≡ own_samples ws os R (inside R (2 ^ left) low) row (tally_entering row t)
  unfolding visit_of
  visit_own zero e = refl
  visit_own (suc j) e = rw (e, visit_of)

  ends_deep : (left : ℕ) → ends ws os R left row low ≡ false → 1 ≤ left
  unfolding ends ends_at
  ends_deep zero e = absurd (true≢false e)
  ends_deep (suc j) e = omega arith

  visit_turns : (left : ℕ) → ends ws os R left row low ≡ false
      → visit_of ws os R left row low t ≡ visit_each (turn ws os R (left - 1) row low) children (tally_entering row t)
  unfolding visit_of
  visit_turns zero e = absurd (omega (arith, ends_deep zero e))
  visit_turns (suc j) e = rw (sub-one, e, visit_of)

-- An octant's own samples, gone through by their next words and counted.
module _ (ws os : List ℕ) (R : Region) (whole : Bool) (row : ℕ) (lent : Lent.Tally) where
  abbrev most : ℕ
  most = own_most ws os row (tally_in lent).visited

  -- They are within the budget.
  pub own_room : (first most' seen : ℕ) → first ≡ octant_field current os row First → most' ≡ most → seen ≡ length (rows_from ws most' first)
      → (tally_in lent).visited ≤ sample_budget current ws → (tally_in lent).visited + seen ≤ sample_budget current ws
  unfolding own_rows
  own_room first most' seen a m e v =
      omega (arith, e ∙ ap length (ap₂ (rows_from ws) m a), own_few ws os row (tally_in lent).visited, v)

  -- The listing has room to count them in.
  pub own_start : (most' start : ℕ) → start ≡ lent.listed → most' ≡ most → Counting ws os lent → start + most' ≤ 8192
  unfolding own_most
  own_start most' start e m c = omega (arith, c.listed, c.limits.visited, budget_most ws)

  pub own_counted : (first most' start : ℕ) (run : Run) {lent' : Lent.Tally} {listing listing' : List ℕ} → first ≡ octant_field current os row First → most' ≡ most
      → start ≡ lent.listed → Followed ws R whole first most' start listing run listing'
      → lent' ≡ tally_of run.end (visiting whole run.seen (tally_in lent))
      → Visited (own_samples ws os R whole row (tally_in lent)) lent listing lent' listing'
  unfolding own_samples own_rows
  own_counted first most' start run {lent'} {listing} {listing'} a m b f e =
      let rows : rows_from ws most' first ≡ rows_from ws most (octant_field current os row First) = ap₂ (rows_from ws) m a in
      let tags = ap (tags_of ws R whole) rows in
      record {
        tally =
            e
            ∙ ap₂ (λ (n k : ℕ). tally_of n (visiting whole k (tally_in lent)))
            (f.end ∙ ap₂ (λ (n : ℕ) (l : List ℕ). n + length l) b tags) (f.seen ∙ ap length rows);
        tags = f.tags ∙ ap₂ (λ (n : ℕ) (l : List ℕ). sets listing n l) b tags;
      }

-- In an octant given by its cube, that was entered.
module _ (ws os : List ℕ) (R : Region) (row : ℕ) (cube : Cube) (lent lent₁ : Lent.Tally) (within : Within cube) (c : Counting ws os lent)
    (past : (tally_in lent).next ≤ row) (lim : row < octant_limit current os)
    (into : lent₁ ≡ tally_of (lent.listed) (tally_entering row (tally_in lent))) where
  abbrev left : ℕ
  left = 16 - cube.depth

  side_is : cube.side ≡ 2 ^ left
  unfolding side_at depths
  side_is = within.sized

  said : tally_in lent₁ ≡ tally_entering row (tally_in lent)
  said = ap tally_in into

  many : lent₁.listed ≡ lent.listed
  many = ap (λ (t : Lent.Tally). t.listed) into

  pub entered_counting : Counting ws os lent₁
  unfolding tally_entering
  entered_counting =
      record {
        small = c.small;
        limits =
            subst (TallyWithin (sample_budget current ws) (octant_limit current os)) (sym said)
            (entering_within (sample_budget current ws) (octant_limit current os) row (tally_in lent) past lim c.limits);
        listed = omega (arith, many, ap (λ (t : Tally). t.visited) said, c.listed);
      }

  -- From the tally before the octant was entered.
  from_before : {v : Visit} {lent' : Lent.Tally} {listing listing' : List ℕ} → Visited v lent₁ listing lent' listing' → Visited v lent listing lent' listing'
  from_before {v} {lent'} {listing} d =
      record {
        tally = d.tally ∙ ap (λ (n : ℕ). tally_of (n + length v.tags) v.after) many;
        tags = d.tags ∙ ap (λ (n : ℕ). sets listing n v.tags) many;
      }

  -- Whether it is gone through sample by sample, as the function says.
  module _ (whole e : Bool) (told : whole ≡ inside R cube.side cube.low)
      (tells : e ≡ ends_at left whole (octant_field current os row Count) (settings_in current ws).bucket) where
    whole_is : whole ≡ inside R (2 ^ left) cube.low
    whole_is = told ∙ ap (λ (s : ℕ). inside R s cube.low) side_is

    ends_is : ends ws os R left row cube.low ≡ e
    unfolding ends
    ends_is =
        sym (tells ∙ ap (λ (w : Bool). ends_at left w (octant_field current os row Count) (settings_in current ws).bucket) whole_is)

    pub own_visited : e ≡ true → {lent' : Lent.Tally} {listing listing' : List ℕ} → Visited (own_samples ws os R whole row (tally_in lent₁)) lent₁ listing lent' listing'
        → Visited (visit_of ws os R left row cube.low (tally_in lent)) lent listing lent' listing'
    own_visited y {lent'} {listing} {listing'} d =
        let same : own_samples ws os R whole row (tally_in lent₁) ≡ visit_of ws os R left row cube.low (tally_in lent) =
        ap₂ (λ (w : Bool) (t : Tally). own_samples ws os R w row t) whole_is said
        ∙ sym (visit_own ws os R row cube.low (tally_in lent) left (ends_is ∙ y)) in
        from_before (subst (λ (v : Visit). Visited v lent₁ listing lent' listing') same d)

    pub deep : e ≡ false → cube.depth < 16
    deep n = omega (arith, ends_deep ws os R row cube.low (tally_in lent) left (ends_is ∙ n))

    pub turns_visited : e ≡ false → {lent' : Lent.Tally} {listing listing' : List ℕ}
        → Visited (visit_each (turn ws os R (left - 1) row cube.low) children (tally_in lent₁)) lent₁ listing lent' listing'
        → Visited (visit_of ws os R left row cube.low (tally_in lent)) lent listing lent' listing'
    turns_visited n {lent'} {listing} {listing'} d =
        let same : visit_each (turn ws os R (left - 1) row cube.low) children (tally_in lent₁) ≡ visit_of ws os R left row cube.low (tally_in lent) =
        ap (visit_each (turn ws os R (left - 1) row cube.low) children) said
        ∙ sym (visit_turns ws os R row cube.low (tally_in lent) left (ends_is ∙ n)) in
        from_before (subst (λ (v : Visit). Visited v lent₁ listing lent' listing') same d)

-- The children's side, and a child's visit, by its cube.
module _ (cube : Cube) (half : ℕ) (told : half ≡ side_at (suc cube.depth)) where
  pub mask_is : (R : Region) (mask : ℕ) → mask ≡ overlap_mask R half cube.low → mask ≡ overlap_mask R (2 ^ (16 - cube.depth - 1)) cube.low
  mask_is R mask e = e ∙ ap (λ (s : ℕ). overlap_mask R s cube.low) (half_is cube half told)

  child_visit_lem : (ws os : List ℕ) (R : Region) (row k : ℕ) (t : Tally) (child : Cube) → child ≡ child_cube cube k
      → visit_of ws os R (16 - child.depth) row child.low t
      ≡ visit_of ws os R (16 - cube.depth - 1) row (child_low (2 ^ (16 - cube.depth - 1)) k cube.low) t
  unfolding child_cube
  child_visit_lem ws os R row k t child e =
      let depth : child.depth ≡ suc cube.depth = child_depth cube k child e in
      let low : child.low ≡ child_low (2 ^ (16 - cube.depth - 1)) k cube.low =
      ap (λ (x : Cube). x.low) e ∙ ap (λ (s : ℕ). child_low s k cube.low) (sym told ∙ half_is cube half told) in
      let left : 16 - child.depth ≡ 16 - cube.depth - 1 = omega arith in
      ap₂ (λ (n : ℕ) (l : Colour). visit_of ws os R n row l t) left low

  pub child_visited : (ws os : List ℕ) (R : Region) (k row row' : ℕ) (child : Cube) → child ≡ child_cube cube k → row' ≡ row
      → {lent lent' : Lent.Tally} {listing listing' : List ℕ}
      → Visited (visit_of ws os R (16 - child.depth) row' child.low (tally_in lent)) lent listing lent' listing'
      → Visited (visit_of ws os R (16 - cube.depth - 1) row (child_low (2 ^ (16 - cube.depth - 1)) k cube.low) (tally_in lent)) lent listing lent' listing'
  child_visited ws os R k row row' child e f {lent} {lent'} {listing} {listing'} d =
      subst (λ (w : Visit). Visited w lent listing lent' listing') (child_visit_lem ws os R row k (tally_in lent) child e)
      (subst (λ (r : ℕ). Visited (visit_of ws os R (16 - child.depth) r child.low (tally_in lent)) lent listing lent' listing') f d)

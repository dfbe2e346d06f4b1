-- Going through samples by their next words.
use Prim.Native.Nat.{ℕ, ◌+◌, ◌≤◌, ◌<◌}
use mathlib.Core.Bool.{Bool, true, false}
use mathlib.Core.List.{List, [], ◌∷◌}
use mathlib.Core.Path.{◌≡◌, ap, ◌∙◌}
use native.Mathlib.Numerals.{add-one}
use native.Mathlib.Omega.{arith}
use lib.ListN.{length, set}
use lib.Seq.{sets}
use Rattle.colour.specs.declared.Region.{Region}
use Rattle.model.specs.Layout.{Tag, current}
use Rattle.words.specs.Rows.{sample_field}
use Rattle.traversal.specs.Own.{rows_from}
use Rattle.traversal.proofs.Laws.Rows.{rows_few}
use Rattle.listing.specs.Pass.{takes, tags_of}
use Rattle.listing.specs.Steps.{Followed}
use Rattle.listing.proofs.Laws.Pass.Tags.{tags_hit, tags_miss, tags_none}

module _ (ws : List ℕ) (R : Region) (whole : Bool) (first count start : ℕ) (before : List ℕ) where
  -- What was listed and seen, and the rows that are still to come, is the whole run.
  pub record Following (listing ahead : List ℕ) (seen end : ℕ) : Type 0 where
    pub tags : sets listing end (tags_of ws R whole ahead) ≡ sets before start (tags_of ws R whole (rows_from ws count first))
    pub place : end + length (tags_of ws R whole ahead) ≡ start + length (tags_of ws R whole (rows_from ws count first))
    pub passed : seen + length ahead ≡ length (rows_from ws count first)
    pub most : end ≤ start + seen

  module _ {listing ahead : List ℕ} {seen end : ℕ} (g : Following listing ahead seen end) where
    -- Nothing is left.
    pub following_ends : ahead ≡ [] → Followed ws R whole first count start before (record { end = end; seen = seen }) listing
    following_ends e =
        let none : tags_of ws R whole ahead ≡ [] = ap (tags_of ws R whole) e ∙ tags_none ws R whole in
        record {
          end = omega (arith, rw none at g.place);
          seen = omega (arith, rw e at g.passed);
          tags = rw none at g.tags;
        }

    -- One sample more, listed or not.
    module _ {row : ℕ} {ahead' : List ℕ} (step : ahead ≡ row ∷ ahead') where
      -- It is within the count.
      pub more : seen < count
      more = omega (arith, g.passed, ap length step, rows_few ws count first)

      pub not_listed : takes ws R whole row ≡ false → Following listing ahead' (seen + 1) end
      not_listed t =
          let e : tags_of ws R whole ahead ≡ tags_of ws R whole ahead' = ap (tags_of ws R whole) step ∙ tags_miss ws R whole row ahead' t in
          record {
            tags = rw e at g.tags;
            place = rw e at g.place;
            passed = omega (arith, g.passed, ap length step);
            most = omega (arith, g.most);
          }

      pub is_listed : {listing' : List ℕ} → takes ws R whole row ≡ true → listing' ≡ set listing end (sample_field current ws row Tag)
          → Following listing' ahead' (seen + 1) (end + 1)
      is_listed {listing'} t put =
          let e : tags_of ws R whole ahead ≡ sample_field current ws row Tag ∷ tags_of ws R whole ahead' =
          ap (tags_of ws R whole) step ∙ tags_hit ws R whole row ahead' t in
          record {
            tags = rw (put, add-one) (rw e at g.tags);
            place = omega (arith, rw e at g.place);
            passed = omega (arith, g.passed, ap length step);
            most = omega (arith, g.most);
          }

-- The tags that rows list.
use Prim.Native.Nat.{ℕ, ◌≤◌}
use mathlib.Core.Bool.{Bool, true, false}
use mathlib.Core.List.{List, [], ◌∷◌}
use mathlib.Core.Path.{◌≡◌, refl}
use native.Mathlib.Omega.{arith}
use lib.ListN.{length, length-map}
use Rattle.colour.specs.declared.Region.{Region}
use Rattle.model.specs.Lists.{keep}
use Rattle.model.specs.Layout.{Tag, current}
use Rattle.model.proofs.Lists.{keep_length}
use Rattle.words.specs.Rows.{sample_field}
use Rattle.listing.specs.Pass.{takes, tags_of}

module _ (ws : List ℕ) where
  -- A row's tag, where it is listed.
  pub tags_hit : (R : Region) (whole : Bool) (row : ℕ) (rows : List ℕ) → takes ws R whole row ≡ true
      → tags_of ws R whole (row ∷ rows) ≡ sample_field current ws row Tag ∷ tags_of ws R whole rows
  unfolding tags_of keep
  tags_hit R whole row rows e = rw (e, keep)

  pub tags_miss : (R : Region) (whole : Bool) (row : ℕ) (rows : List ℕ) → takes ws R whole row ≡ false → tags_of ws R whole (row ∷ rows) ≡ tags_of ws R whole rows
  unfolding tags_of keep
  tags_miss R whole row rows e = rw (e, keep)

  pub tags_none : (R : Region) (whole : Bool) → tags_of ws R whole [] ≡ []
  unfolding tags_of keep
  tags_none R whole = refl

  -- No more tags than rows.
  pub tags_few : (R : Region) (whole : Bool) (rows : List ℕ) → length (tags_of ws R whole rows) ≤ length rows
  unfolding tags_of
  tags_few R whole rows =
      omega (arith, length-map (keep (takes ws R whole) rows) (λ i. sample_field current ws i Tag), keep_length (takes ws R whole) rows)

-- On sound tables the rows of samples list the tags of those samples that are in the region.
use Prim.Native.Nat.{ℕ}
use mathlib.Core.Bool.{Bool, true, false}
use mathlib.Core.List.{List, [], ◌∷◌, map}
use mathlib.Core.Path.{◌≡◌, refl, ap, ap₂, ◌∙◌}
use Rattle.colour.specs.declared.Region.{Region}
use Rattle.colour.specs.declared.Sample.{Sample}
use Rattle.colour.specs.Colour.{wrapped}
use Rattle.colour.specs.Region.{holds}
use Rattle.colour.proofs.Laws.Channels.{wrapped_same}
use Rattle.model.specs.Lists.{keep}
use Rattle.model.specs.SampleSet.{Placed}
use Rattle.model.specs.Layout.{Tag, current}
use Rattle.model.specs.Queries.{tag_of}
use Rattle.words.specs.Rows.{sample_field, sample_in}
use Rattle.traversal.proofs.Laws.Sound.Each.{All}
use Rattle.traversal.proofs.Laws.Sound.Shown.{Said}
use Rattle.traversal.proofs.Laws.Sound.Followed.{row_of}
use Rattle.listing.specs.Pass.{takes, tags_of}
use Rattle.listing.proofs.Laws.Pass.Tags.{tags_hit, tags_miss}

module _ (ws : List ℕ) (n : ℕ) (R : Region) where
  tag_said : (x : Placed) → Said ws n x → sample_field current ws x.row Tag ≡ tag_of x
  unfolding sample_in
  tag_said x s = ap (λ (y : Sample). y.tag) s.sample

  -- A sample that a row says is listed where its colour is in the region.
  pub takes_said : (x : Placed) → Said ws n x → takes ws R false x.row ≡ holds R x.sample.colour
  unfolding takes
  takes_said x s =
      ap (λ (y : Sample). holds R (wrapped y.colour)) s.sample ∙ ap (holds R) (wrapped_same x.sample.colour s.codes)

  -- The tags that the rows of samples list, where each sample is listed exactly if it is in the region.
  pub tags_said : (whole : Bool) (ys : List Placed) → All (Said ws n) ys → All (λ x. takes ws R whole x.row ≡ holds R x.sample.colour) ys
      → tags_of ws R whole (map row_of ys) ≡ map tag_of (keep (λ x. holds R x.sample.colour) ys)
  unfolding All tags_of keep
  tags_said whole [] said h = refl
  tags_said whole (x ∷ ys) said h = go (holds R x.sample.colour) refl (tags_said whole ys said.1 h.1)
    where
      go : (r : Bool) → holds R x.sample.colour ≡ r → tags_of ws R whole (map row_of ys) ≡ map tag_of (keep (λ x. holds R x.sample.colour) ys)
          → tags_of ws R whole (map row_of (x ∷ ys)) ≡ map tag_of (keep (λ x. holds R x.sample.colour) (x ∷ ys))
      go true e ih =
          tags_hit ws R whole x.row (map row_of ys) (h.0 ∙ e)
          ∙ ap₂ (λ (t : ℕ) (l : List ℕ). t ∷ l) (tag_said x said.0) ih
          ∙ rw (e, keep)
      go false e ih = tags_miss ws R whole x.row (map row_of ys) (h.0 ∙ e) ∙ ih ∙ rw (e, keep)

-- A whole pass: the root is entered, or nothing is.
use Prim.Native.Nat.{ℕ, ◌-◌, ◌^◌, ◌<◌}
use mathlib.Core.Bool.{Bool, true, false, ◌&&◌}
use mathlib.Core.List.{List}
use mathlib.Core.Path.{◌≡◌, sym, ap, ap₂, ◌∙◌, subst}
use native.Mathlib.Omega.{arith}
use lib.Dec.{leb, ltb}
use Rattle.colour.specs.declared.Cube.{Cube}
use Rattle.colour.specs.declared.Region.{Region}
use Rattle.colour.specs.Colour.{black}
use Rattle.colour.specs.Octant.{depths, side_at, root_cube}
use Rattle.colour.specs.Region.{overlaps}
use Rattle.model.specs.Layout.{current}
use Rattle.words.specs.Rows.{octant_limit, sample_budget}
use Rattle.listing.specs.Pass.{Tally, Visit, enters, nothing, visit_of, no_tally, pass_of}
use Rattle.listing.specs.declared.tally.Tally as Lent
use Rattle.listing.specs.Steps.{TallyWithin, tally_of, tally_in, Counting, Visited}
use Rattle.listing.proofs.Laws.Pass.Bounds.{no_tally_within, pass_bounded}
use Rattle.listing.proofs.Laws.Pass.Turns.{barred, apart_from, let_in}
use Rattle.listing.proofs.Laws.Steps.Turning.{visited_nothing}

-- What a pass leaves of the tally is within the bounds.
pub pass_within : (ws os : List ℕ) (R : Region) {lent lent' : Lent.Tally} {listing listing' : List ℕ} → Visited (pass_of ws os R) lent listing lent' listing'
    → Visited (pass_of ws os R) lent listing lent' listing' × TallyWithin (sample_budget current ws) (octant_limit current os) (tally_in lent')
pass_within ws os R d =
    (d, subst (TallyWithin (sample_budget current ws) (octant_limit current os)) (sym (ap tally_in d.tally)) (pass_bounded ws os R).limits)

module _ (ws os : List ℕ) (R : Region) (lent : Lent.Tally) (fresh : lent ≡ tally_of 0 no_tally) where
  said : tally_in lent ≡ no_tally
  said = ap tally_in fresh

  pub fresh_counting : octant_limit current os < 4294967296 → Counting ws os lent
  fresh_counting s =
      record {
        small = s;
        limits = subst (TallyWithin (sample_budget current ws) (octant_limit current os)) (sym said) (no_tally_within ws os R);
        listed = omega (arith, ap (λ (t : Lent.Tally). t.listed) fresh);
      }

  -- Whether the root is entered, as the functions say.
  module _ (root : Cube) (is-root : root ≡ root_cube) (limit : ℕ) (r : Bool) (same : limit ≡ octant_limit current os)
      (told : r ≡ (leb (tally_in lent).next 0 && ltb 0 limit)) where
    allowed_is : (leb no_tally.next 0 && ltb 0 (octant_limit current os)) ≡ r
    allowed_is = sym (told ∙ ap₂ (λ (t : Tally) (n : ℕ). leb t.next 0 && ltb 0 n) said same)

    pass_off : enters os R (2 ^ depths) black 0 no_tally ≡ false → {listing : List ℕ} → Visited (pass_of ws os R) lent listing lent listing
    unfolding pass_of
    pass_off e {listing} = rw (e, pass_of) (subst (λ (t : Tally). Visited (nothing t) lent listing lent listing) said (visited_nothing lent listing))

    pub root_barred : r ≡ false → {listing : List ℕ} → Visited (pass_of ws os R) lent listing lent listing
    root_barred e = pass_off (barred os R (2 ^ depths) black 0 no_tally (allowed_is ∙ e))

    module _ (o : Bool) (tells : o ≡ overlaps R root.side root.low) where
      root_overlaps : overlaps R (2 ^ depths) black ≡ o
      unfolding root_cube side_at depths
      root_overlaps = sym (tells ∙ ap (λ (c : Cube). overlaps R c.side c.low) is-root)

      pub root_apart : o ≡ false → {listing : List ℕ} → Visited (pass_of ws os R) lent listing lent listing
      root_apart e = pass_off (apart_from os R (2 ^ depths) black 0 no_tally (root_overlaps ∙ e))

      pub root_visited : r ≡ true → o ≡ true → {lent' : Lent.Tally} {listing listing' : List ℕ}
          → Visited (visit_of ws os R (16 - root.depth) 0 root.low (tally_in lent)) lent listing lent' listing'
          → Visited (pass_of ws os R) lent listing lent' listing'
      unfolding pass_of root_cube depths
      root_visited e f {lent'} {listing} {listing'} d =
          rw (let_in os R (2 ^ depths) black 0 no_tally (root_overlaps ∙ f) (allowed_is ∙ e), pass_of)
          (subst (λ (v : Visit). Visited v lent listing lent' listing')
          (ap₂ (λ (c : Cube) (t : Tally). visit_of ws os R (16 - c.depth) 0 c.low t) is-root said) d)

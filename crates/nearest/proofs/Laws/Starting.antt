-- What is lent as a search begins, as it goes on and as it ends.
use Prim.Native.Nat.{ℕ, ◌*◌, ◌≤◌, ◌<◌}
use mathlib.Core.List.{List}
use mathlib.Core.Path.{◌≡◌, sym, ap, ◌∙◌, subst}
use Rattle.colour.specs.declared.Probe.{Probe}
use Rattle.colour.specs.Octant.{root_cube}
use Rattle.model.specs.Layout.{current}
use Rattle.words.specs.Rows.{octant_limit, sample_budget}
use Rattle.traversal.specs.declared.spot.Spot.{Spot}
use Rattle.traversal.specs.Search.{Searching, no_search}
use Rattle.traversal.specs.Steps.{SearchWithin, SearchReady}
use Rattle.traversal.specs.Spot.{spot_at, search_at}
use Rattle.traversal.proofs.Laws.Search.Keeps.{start_within, still_ready}
use Rattle.traversal.proofs.Laws.Search.Spots.{search_nothing, search_root}
use Rattle.nearest.specs.Best.{Kept, unfound, bests, search_best}
use Rattle.nearest.specs.declared.best.Search.{Search}
use Rattle.nearest.specs.Steps.{search_as, search_in, search_after}

-- What was known stays known while the search is within the bounds.
pub lent_ready : {ws os : List ℕ} {lent lent' : Search} → SearchReady ws os (search_in lent) → (s : Searching Kept) → lent' ≡ search_as s
    → SearchWithin (sample_budget current ws) (octant_limit current os) s → SearchReady ws os (search_in lent')
lent_ready {ws} {os} r s e within = subst (SearchReady ws os) (sym (ap search_in e)) (still_ready r within)

module _ (ws os : List ℕ) (p : Probe) (r : ℕ) {limit : ℕ} (squared : limit ≡ r * r) {lent : Search} (started : lent ≡ search_as (no_search (unfound limit))) where
  begun : search_in lent ≡ no_search (unfound (r * r))
  begun = ap search_in started ∙ ap (λ (n : ℕ). no_search (unfound n)) squared

  pub begin_ready : octant_limit current os < 4294967296 → SearchReady ws os (search_in lent)
  begin_ready l =
      subst (SearchReady ws os) (sym begun)
      (record { small = l; limits = start_within (bests ws p) ws os p (unfound (r * r)) })

  pub begin_room : 0 < octant_limit current os → (search_in lent).entered < octant_limit current os
  unfolding no_search
  begin_room h = subst (λ (s : Searching Kept). s.entered < octant_limit current os) (sym begun) h

  -- Without a root, and with one.
  pub no_root : octant_limit current os ≤ 0 → search_in lent ≡ search_best ws os p r
  unfolding search_best
  no_root h = begun ∙ sym (search_nothing (bests ws p) ws os p (unfound (r * r)) h)

  pub from_root : 0 < octant_limit current os → {spot : Spot} → spot ≡ spot_at p root_cube → {lent' : Search}
      → lent' ≡ search_after (search_at (bests ws p) ws os p 0 spot) lent → search_in lent' ≡ search_best ws os p r
  unfolding search_best
  from_root h is e =
      ap search_in e
      ∙ ap (λ (x : Spot). search_at (bests ws p) ws os p 0 x (search_in lent)) is
      ∙ ap (search_at (bests ws p) ws os p 0 (spot_at p root_cube)) begun
      ∙ sym (search_root (bests ws p) ws os p (unfound (r * r)) h)

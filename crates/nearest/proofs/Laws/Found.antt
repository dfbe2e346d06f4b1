-- On sound tables a search finds what document 01 says of near ("Picks"), with its row.
use Prim.Native.Nat.{ℕ, ◌*◌, ◌≤◌, ◌<◌}
use mathlib.Core.Bool.{Bool, true, false}
use mathlib.Core.List.{List, [], ◌∷◌, map}
use mathlib.Core.Option as M
use mathlib.Core.Path.{◌≡◌, refl, sym, ap, ap₂, ◌∙◌}
use native.Mathlib.Omega.{arith}
use borrow.Author.Tests.{lt-ltb, ltb-true, ltb-false}
use lib.Dec.{ltb}
use lib.ListN.{length}
use Rattle.std.specs.Prelude.{Option, Some, None}
use Rattle.colour.specs.declared.Probe.{Probe}
use Rattle.colour.specs.declared.Sample.{Sample}
use Rattle.colour.specs.Colour.{distance}
use Rattle.colour.specs.Octant.{depths}
use Rattle.model.specs.SampleSet.{Placed, placed, order, octants}
use Rattle.model.specs.Layout.{current, sample_rows}
use Rattle.model.specs.Tables.{pair}
use Rattle.model.specs.Queries.{tag_of, or_else, nearest_in, nearest}
use Rattle.model.specs.Machine.{Machine, found_answer}
use Rattle.model.specs.Sound.{Shows}
use Rattle.words.specs.Rows.{octant_limit, sample_budget}
use Rattle.words.proofs.Laws.Layout.Places.{rows_few}
use Rattle.traversal.specs.Steps.{SearchWithin}
use Rattle.traversal.proofs.Laws.Search.Keeps.{search_from_within}
use Rattle.traversal.proofs.Laws.Sound.Each.{All}
use Rattle.traversal.proofs.Laws.Sound.Shown.{Said, said_all, budget_shown}
use Rattle.traversal.proofs.Laws.Kept.Labels.{Label, Rising, rising_lower, labelled, labelled_order, labelled_rising, labelled_all}
use Rattle.traversal.proofs.Laws.Kept.Folds.{measured}
use Rattle.traversal.proofs.Laws.Kept.Searched.{search_kept}
use Rattle.nearest.specs.declared.best.Best.{Best}
use Rattle.nearest.specs.Best.{Kept, closer, bests, unfound, search_best, best_of, found_of, best_found, answer_of}
use Rattle.nearest.proofs.Laws.Closer.{new_best, closer_yes, closer_no, taken_yes, taken_no, best_takes}
use Rattle.nearest.proofs.Laws.Least.{best_owns}
use Rattle.nearest.proofs.Laws.Limits.{found_near, found_none}

-- A sample that is found.
unfoldable pub best_at : Probe → Placed → Best
best_at p x = record { distance = distance p x.sample.colour; row = x.row; tag = tag_of x }

-- What is found later, and else what was found before.
unfoldable later_or : Probe → M.Option Placed → Option Best → Option Best
later_or p M.none found = found
later_or p (M.some x) found = Some (best_at p x)

-- What is found later takes the place of a sample that was found.
later_or_lem : (p : Probe) (o : M.Option Placed) (x : Placed) → later_or p o (Some (best_at p x)) ≡ Some (best_at p (or_else o x))
unfolding later_or or_else
later_or_lem p M.none x = refl
later_or_lem p (M.some y) x = refl

-- Over rows that do not fall, only what is closer comes before the best.
closer_rising : (k : Kept) (d octant : ℕ) → k.octant ≤ octant → closer k d octant ≡ ltb d k.distance
closer_rising k d octant h = go (ltb d k.distance) refl
  where
    go : (r : Bool) → ltb d k.distance ≡ r → closer k d octant ≡ r
    go true e =
        let l : d < k.distance = ltb-true d k.distance e in
        closer_yes k d octant (omega arith) (λ q. absurd (omega arith))
    go false e = closer_no k d octant (ltb-false d k.distance e) (λ q. h)

module _ (ws : List ℕ) (top n : ℕ) (few : n ≤ sample_rows current (length ws)) (p : Probe) where
  abbrev far : Label → ℕ
  far l = distance p l.sample.sample.colour

  abbrev new : Label → Kept
  new l = new_best (distance p l.sample.sample.colour) l.octant l.sample.row

  -- A sample that is taken is found.
  new_best_lem : (l : Label) → Said ws n l.sample → best_of ws (new l) ≡ best_at p l.sample
  unfolding best_of best_at
  new_best_lem l s =
      rw (lt-ltb l.sample.row (sample_rows current (length ws)) (omega (arith, s.within)), best_of)
      (ap (λ (x : Sample). record { distance = far l; row = l.sample.row; tag = x.tag }) s.sample)

  new_found : (limit : ℕ) (l : Label) → far l < limit → Said ws n l.sample → found_of ws limit (new l) ≡ Some (best_at p l.sample)
  new_found limit l h s = sym (found_near ws limit (new l) h (sym (new_best_lem l s)))

  abbrev all : Kept → List Label → Kept
  all = measured (bests ws p) (best_takes ws p top) p

  -- Rows that do not fall come to what is nearest in their sequence, and else to what was found before them.
  measured_finds : (limit : ℕ) (k : Kept) (ls : List Label) → k.distance ≤ limit → Rising k.octant ls → All (λ l. Said ws n l.sample) ls
      → found_of ws limit (all k ls) ≡ later_or p (nearest_in p k.distance (map (λ l. l.sample) ls)) (found_of ws limit k)
  unfolding measured nearest_in Rising later_or All
  measured_finds limit k [] w h a = refl
  measured_finds limit k (l ∷ ls) w h a =
      go (ltb (far l) k.distance) refl (λ g. measured_finds limit (new l) ls g h.1 a.1)
      (measured_finds limit k ls w (rising_lower k.octant l.octant ls h.0 h.1) a.1)
    where
      rest : List Placed
      rest = map (λ x. x.sample) ls

      go : (r : Bool) → ltb (far l) k.distance ≡ r
          → (far l ≤ limit → found_of ws limit (all (new l) ls) ≡ later_or p (nearest_in p (far l) rest) (found_of ws limit (new l)))
          → found_of ws limit (all k ls) ≡ later_or p (nearest_in p k.distance rest) (found_of ws limit k)
          → found_of ws limit (all k (l ∷ ls)) ≡ later_or p (nearest_in p k.distance (l.sample ∷ rest)) (found_of ws limit k)
      go true e ih ih' =
          let less : far l < limit = omega (arith, ltb-true (far l) k.distance e) in
          rw (taken_yes k (far l) l.octant l.sample.row (closer_rising k (far l) l.octant h.0 ∙ e), e, nearest_in)
          (ih (omega arith) ∙ ap (later_or p (nearest_in p (far l) rest)) (new_found limit l less a.0) ∙ later_or_lem p (nearest_in p (far l) rest) l.sample)
      go false e ih ih' = rw (taken_no k (far l) l.octant l.sample.row (closer_rising k (far l) l.octant h.0 ∙ e), e, nearest_in) ih'

module _ (ws os : List ℕ) (m : Machine) (shows : Shows current m (pair ws os)) (p : Probe) (r : ℕ) where
  abbrev b : ℕ
  b = m.set.settings.bucket

  abbrev n : ℕ
  n = length m.set.samples

  abbrev xs : List Placed
  xs = placed m.set

  in_table : n ≤ sample_rows current (length ws)
  unfolding sample_budget
  in_table = omega (arith, budget_shown ws os m shows)

  -- The search comes to the best of all samples in the order.
  search_best_lem : (search_best ws os p r).kept ≡ measured (bests ws p) (best_takes ws p (octants m.set)) p (unfound (r * r)) (labelled b depths 0 xs)
  unfolding search_best
  search_best_lem =
      search_kept (bests ws p) (best_takes ws p (octants m.set)) ws os m shows p
      (best_owns ws p (octants m.set) n (omega (arith, in_table, rows_few (length ws)))) (omega arith) (unfound (r * r))

  -- So it finds the nearest in the order, or nothing.
  found_is : best_found ws os p r ≡ later_or p (nearest p r m.set) None
  unfolding nearest order best_found unfound
  found_is =
      ap (found_of ws (r * r)) search_best_lem
      ∙ measured_finds ws (octants m.set) n in_table p (r * r) (unfound (r * r)) (labelled b depths 0 xs) (omega arith) (labelled_rising b depths 0 xs)
      (labelled_all (Said ws n) b depths 0 xs (said_all ws os m shows))
      ∙ ap₂ (λ (ys : List Placed) (o : Option Best). later_or p (nearest_in p (r * r) ys) o) (labelled_order b depths 0 xs)
      (sym (found_none ws (r * r) (unfound (r * r)) (omega arith)))

  pub search_finds : (x : Placed) → nearest p r m.set ≡ M.some x → best_found ws os p r ≡ Some (best_at p x)
  unfolding later_or
  search_finds x e = found_is ∙ ap (λ (o : M.Option Placed). later_or p o None) e

  answered : (o : M.Option Placed) (left : List ℕ) → answer_of (later_or p o None) left ≡ found_answer p o left
  unfolding later_or best_at answer_of found_answer
  answered M.none left = refl
  answered (M.some x) left = refl

  -- The answer is that of document 01.
  pub search_nearest : (left : List ℕ) → answer_of (best_found ws os p r) left ≡ found_answer p (nearest p r m.set) left
  search_nearest left = ap (λ (o : Option Best). answer_of o left) found_is ∙ answered (nearest p r m.set) left

-- On any words at all it enters no more octants and visits no more samples than the tables count and have.
pub search_best_within : (ws os : List ℕ) (p : Probe) (r : ℕ) → SearchWithin (sample_budget current ws) (octant_limit current os) (search_best ws os p r)
unfolding search_best
search_best_within ws os p r = search_from_within (bests ws p) ws os p (unfound (r * r))

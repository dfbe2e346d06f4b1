-- By rising rows the least rank of an octant's samples is that of the one that taking them one by one would keep.
use Prim.Native.Nat.{ℕ, suc, ◌+◌, ◌*◌, ◌/◌, ◌%◌, ◌≤◌, ◌<◌, min}
use mathlib.Core.Bool.{Bool, true, false}
use mathlib.Core.List.{List, [], ◌∷◌, map}
use mathlib.Core.Path.{◌≡◌, refl, sym, ap, ap₂, ◌∙◌}
use native.Mathlib.Omega.{arith}
use borrow.Author.Tests.{ltb-true, ltb-false}
use lib.Dec.{ltb}
use lib.ListN.{length}
use Rattle.colour.specs.Channels.{Colour}
use Rattle.colour.specs.declared.Probe.{Probe}
use Rattle.colour.specs.declared.Sample.{Sample}
use Rattle.colour.specs.Colour.{distance, wrapped}
use Rattle.colour.proofs.Laws.Channels.{wrapped_same}
use Rattle.model.specs.SampleSet.{Placed}
use Rattle.traversal.proofs.Laws.Sound.Each.{All}
use Rattle.traversal.proofs.Laws.Sound.Shown.{Said}
use Rattle.traversal.proofs.Laws.Sound.Followed.{row_of}
use Rattle.nearest.specs.Best.{Kept, closer, taken, taken_rank, rank_of, least_from, least_rank, own_best, bests}
use Rattle.traversal.proofs.Laws.Kept.Labels.{Label, label}
use Rattle.traversal.proofs.Laws.Kept.Folds.{measured}
use Rattle.traversal.proofs.Laws.Kept.Sorted.{Sorted, sorted_lower}
use Rattle.nearest.proofs.Laws.Closer.{new_best, closer_yes, closer_no, closer_true, closer_farther, taken_yes, taken_no, best_takes}

-- In the same octant: a closer one takes the place of another; one that is no closer does not.
module _ (best : Kept) (at d i d' i' : ℕ) where
  taken_nearer : d' < d → taken (taken best d at i) d' at i' ≡ taken best d' at i'
  taken_nearer h = go (closer best d at) refl
    where
      go : (r : Bool) → closer best d at ≡ r → taken (taken best d at i) d' at i' ≡ taken best d' at i'
      go false e = ap (λ (b : Kept). taken b d' at i') (taken_no best d at i e)
      go true e =
          let y = closer_true best d at e in
          let less : d' < best.distance = omega (arith, y.0) in
          ap (λ (b : Kept). taken b d' at i') (taken_yes best d at i e)
          ∙ taken_yes (new_best d at i) d' at i' (closer_yes (new_best d at i) d' at (omega arith) (λ q. absurd (omega arith)))
          ∙ sym (taken_yes best d' at i' (closer_yes best d' at (omega arith) (λ q. absurd (omega arith))))

  taken_farther : d ≤ d' → taken (taken best d at i) d' at i' ≡ taken best d at i
  taken_farther h = taken_no (taken best d at i) d' at i' (go (closer best d at) refl)
    where
      go : (r : Bool) → closer best d at ≡ r → closer (taken best d at i) d' at ≡ false
      go false e = ap (λ (b : Kept). closer b d' at) (taken_no best d at i e) ∙ closer_farther best d at d' at e h (omega arith)
      go true e =
          ap (λ (b : Kept). closer b d' at) (taken_yes best d at i e)
          ∙ closer_no (new_best d at i) d' at (omega arith) (λ q. omega arith)

module _ (ws : List ℕ) (p : Probe) (top n : ℕ) (few : n ≤ 4096) where
  -- What is kept once labelled samples are taken one by one.
  abbrev taking : Kept → List Label → Kept
  taking = measured (bests ws p) (best_takes ws p top) p

  -- The rank of a sample that its row says.
  rank_said : (x : Placed) → Said ws n x → rank_of ws p x.row ≡ distance p x.sample.colour * 4096 + x.row
  unfolding rank_of
  rank_said x s =
      ap (λ (y : Sample). distance p (wrapped y.colour) * 4096 + x.row) s.sample
      ∙ ap (λ (k : Colour). distance p k * 4096 + x.row) (wrapped_same x.sample.colour s.codes)

  rank_taken : (best : Kept) (at d i : ℕ) → i < 4096 → taken_rank best at (d * 4096 + i) ≡ taken best d at i
  unfolding taken_rank
  rank_taken best at d i h =
      let high : (d * 4096 + i) / 4096 ≡ d = omega arith in
      let low : (d * 4096 + i) % 4096 ≡ i = omega arith in
      ap₂ (λ (x y : ℕ). taken best x at y) high low

  -- After a first one, of d and i, by rising rows.
  least_measured : (best : Kept) (at d i : ℕ) (ys : List Placed) → i < 4096 → Sorted (suc i) ys → All (Said ws n) ys
      → taken_rank best at (least_from ws p (d * 4096 + i) (map row_of ys)) ≡ taking (taken best d at i) (map (label at) ys)
  unfolding least_from measured Sorted All
  least_measured best at d i [] h s a = rank_taken best at d i h
  least_measured best at d i (y ∷ ys) h s a =
      go (ltb e d) refl (λ x k. least_measured best at x k ys)
    where
      e : ℕ
      e = distance p y.sample.colour

      k : ℕ
      k = y.row

      small : k < 4096
      small = omega (arith, a.0.within, few)

      go : (r : Bool) → ltb e d ≡ r
          → ((x k : ℕ) → k < 4096 → Sorted (suc k) ys → All (Said ws n) ys
          → taken_rank best at (least_from ws p (x * 4096 + k) (map row_of ys)) ≡ taking (taken best x at k) (map (label at) ys))
          → taken_rank best at (least_from ws p (d * 4096 + i) (map row_of (y ∷ ys))) ≡ taking (taken best d at i) (map (label at) (y ∷ ys))
      go true l ih =
          let less : e < d = ltb-true e d l in
          let least : min (d * 4096 + i) (rank_of ws p k) ≡ e * 4096 + k = omega (arith, rank_said y a.0, small) in
          ap (λ (x : ℕ). taken_rank best at (least_from ws p x (map row_of ys))) least
          ∙ ih e k small s.1 a.1
          ∙ ap (λ (b : Kept). taking b (map (label at) ys)) (sym (taken_nearer best at d i e k less))
      go false l ih =
          let more : d ≤ e = ltb-false e d l in
          let later : i < k = s.0 in
          let least : min (d * 4096 + i) (rank_of ws p k) ≡ d * 4096 + i = omega (arith, rank_said y a.0, small) in
          ap (λ (x : ℕ). taken_rank best at (least_from ws p x (map row_of ys))) least
          ∙ ih d i h (sorted_lower (suc i) (suc k) ys (omega arith) s.1) a.1
          ∙ ap (λ (b : Kept). taking b (map (label at) ys)) (sym (taken_farther best at d i e k more))

  -- Measuring an octant's own samples is taking them one by one.
  pub best_owns : (best : Kept) (at : ℕ) (ys : List Placed) → 1 ≤ length ys → Sorted 0 ys → All (Said ws n) ys
      → own_best ws p best at (map row_of ys) ≡ taking best (map (label at) ys)
  unfolding own_best least_rank measured Sorted All
  best_owns best at [] g s a = absurd (omega arith)
  best_owns best at (y ∷ ys) g s a =
      ap (λ (x : ℕ). taken_rank best at (least_from ws p x (map row_of ys))) (rank_said y a.0)
      ∙ least_measured best at (distance p y.sample.colour) y.row ys (omega (arith, a.0.within, few)) s.1 a.1

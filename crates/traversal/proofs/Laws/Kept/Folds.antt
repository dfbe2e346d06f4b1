-- What is kept of labelled samples that are taken one after the other, for any store that takes them so.
use Prim.Native.Nat.{ℕ, ◌≤◌, ◌<◌}
use mathlib.Core.Bool.{false}
use mathlib.Core.List.{List, [], ◌∷◌, ◌++◌}
use mathlib.Core.Path.{◌≡◌, refl, ap, ◌∙◌}
use native.Mathlib.Omega.{arith}
use Rattle.colour.specs.declared.Probe.{Probe}
use Rattle.colour.specs.Colour.{distance}
use Rattle.traversal.proofs.Laws.Sound.Each.{All, all_then}
use Rattle.traversal.specs.Search.{Store}
use Rattle.traversal.proofs.Laws.Kept.Labels.{Label}

-- A store that takes samples one by one: what is d² away in an octant's row, in a sample row. Three facts: what does not come before what is kept changes
-- nothing; what is no closer and in no lower octant row than that does not come before it either; two of unlike octant rows, both below the top, may be
-- taken in either sequence.
pub record Takes {S : Type 0} (K : Store S) : Type 0 where
  pub top : ℕ
  pub take : S → ℕ → ℕ → ℕ → S
  pub no : (s : S) (d row i : ℕ) → K.closer s d row ≡ false → take s d row i ≡ s
  pub farther : (s : S) (d row d' row' : ℕ) → K.closer s d row ≡ false → d ≤ d' → row ≤ row' → K.closer s d' row' ≡ false
  pub swap : (s : S) (d row i d' row' i' : ℕ) → row < top → row' < top → (row ≡ row' → ⊥)
      → take (take s d row i) d' row' i' ≡ take (take s d' row' i') d row i

module _ {S : Type 0} (K : Store S) (T : Takes K) (p : Probe) where
  -- How far a label's sample is.
  abbrev far : Label → ℕ
  far l = distance p l.sample.sample.colour

  -- Once a label's sample is taken, and a list of them.
  abbrev taken_by : S → Label → S
  taken_by s l = T.take s (distance p l.sample.sample.colour) l.octant l.sample.row

  unfoldable pub measured : S → List Label → S
  measured s [] = s
  measured s (l ∷ rest) = measured (taken_by s l) rest

  -- Two lists one after the other.
  pub measured_append : (s : S) (A B : List Label) → measured s (A ++ B) ≡ measured (measured s A) B
  unfolding measured
  measured_append s [] B = refl
  measured_append s (l ∷ A) B = measured_append (taken_by s l) A B

  -- Samples of which none comes before what is kept leave it.
  pub measured_skips : (s : S) (A : List Label) → All (λ l. K.closer s (distance p l.sample.sample.colour) l.octant ≡ false) A → measured s A ≡ s
  unfolding measured All
  measured_skips s [] h = refl
  measured_skips s (l ∷ A) h = rw (T.no s (far l) l.octant l.sample.row h.0) (measured_skips s A h.1)

  -- A sample may be taken before or after others, in rows other than its own.
  measured_past : (s : S) (l : Label) (B : List Label) → l.octant < T.top → All (λ k. (k.octant < T.top) × (l.octant ≡ k.octant → ⊥)) B
      → measured (taken_by s l) B ≡ taken_by (measured s B) l
  unfolding measured All
  measured_past s l [] g h = refl
  measured_past s l (k ∷ B) g h =
      ap (λ (x : S). measured x B)
      (T.swap s (far l) l.octant l.sample.row (far k) k.octant k.sample.row g h.0.0 h.0.1)
      ∙ measured_past (taken_by s k) l B g h.1

  -- Samples in rows below m and samples in rows from m on may be measured in either sequence.
  pub measured_swap : (s : S) (m : ℕ) (A B : List Label) → m ≤ T.top → All (λ l. l.octant < m) A → All (λ l. (m ≤ l.octant) × (l.octant < T.top)) B
      → measured (measured s A) B ≡ measured (measured s B) A
  unfolding measured All
  measured_swap s m [] B t h k = refl
  measured_swap s m (l ∷ A) B t h k =
      measured_swap (taken_by s l) m A B t h.1 k
      ∙ ap (λ (x : S). measured x A) (measured_past s l B (omega (arith, h.0)) (all_then _ _ (λ y g. (g.1, λ q. omega (arith, h.0, g.0))) B k))

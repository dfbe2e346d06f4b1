-- A rebuild, question by question.
use Prim.Native.Nat.{ℕ, ◌≤◌, ◌<◌}
use mathlib.Core.Bool.{Bool, true, false}
use mathlib.Core.List.{List, ◌∷◌}
use mathlib.Core.Path.{◌≡◌}
use native.Mathlib.Omega.{arith}
use borrow.Author.Tests.{le-leb, lt-leb}
use lib.Dec.{leb}
use lib.ListN.{length}
use Rattle.colour.specs.declared.Settings.{Settings}
use Rattle.colour.specs.Question.{asks}
use Rattle.model.specs.SampleSet.{settings_good}
use Rattle.model.specs.Layout.{current, sample_rows}
use Rattle.model.specs.Tables.{Tables, pair}
use Rattle.model.specs.Sound.{long_enough}
use Rattle.samples.specs.Rebuilding.{codes_asked, Rebuilt}
use Rattle.samples.proofs.Laws.Rebuilt.{no_to, yes_to}
use Rattle.rebuild.specs.Questions.{rebuild_questions, RebuildMeets}

module _ (x : Settings) (n : ℕ) (ws os : List ℕ) where
  abbrev t : Tables
  t = pair ws os

  -- Question 6.
  abbrev rowed : Bool
  rowed = leb n (sample_rows current (length ws))

  pub says_1 : long_enough current t ≡ false → RebuildMeets x n t 1 t
  unfolding rebuild_questions
  says_1 short = no_to 1 (long_enough current t) _ x n t (λ e. omega (arith, e)) short

  module _ (long : long_enough current t ≡ true) where
    pub says_3 : settings_good x ≡ false → RebuildMeets x n t 3 t
    unfolding rebuild_questions
    says_3 out = yes_to 1 (long_enough current t) _ x n t 3 t long (no_to 3 (settings_good x) _ x n t (λ e. omega (arith, e)) out)

    module _ (good : settings_good x ≡ true) where
      after_3 : (r : ℕ) (t' : Tables) → Rebuilt (asks 6 rowed ∷ codes_asked x n t) x n t r t' → RebuildMeets x n t r t'
      unfolding rebuild_questions
      after_3 r t' told = yes_to 1 (long_enough current t) _ x n t r t' long (yes_to 3 (settings_good x) _ x n t r t' good told)

      pub says_6 : sample_rows current (length ws) < n → RebuildMeets x n t 6 t
      says_6 over = after_3 6 t (no_to 6 rowed (codes_asked x n t) x n t (λ e. omega (arith, e)) (lt-leb n (sample_rows current (length ws)) over))

      module _ (few : n ≤ sample_rows current (length ws)) where
        pub then_told : (r : ℕ) (t' : Tables) → Rebuilt (codes_asked x n t) x n t r t' → RebuildMeets x n t r t'
        then_told r t' told = after_3 r t' (yes_to 6 rowed (codes_asked x n t) x n t r t' (le-leb n (sample_rows current (length ws)) few) told)

-- The questions before both tables are rebuilt from the samples in the first n rows. No call of document 01 does this: it is there to be measured
-- and compared.
use Rattle.std.specs.Prelude.{ℕ, List, ◌∷◌, leb, length}
use Rattle.colour.specs.declared.Settings.{Settings}
use Rattle.colour.specs.Question.{Question, asks}
use Rattle.model.specs.SampleSet.{settings_good}
use Rattle.model.specs.Layout.{current, sample_rows}
use Rattle.model.specs.Tables.{Tables}
use Rattle.model.specs.Sound.{long_enough}
use Rattle.samples.specs.Rebuilding.{codes_asked, Rebuilt}

-- 1: at least 2 and 1 words? 3: b in 1..256? 6: are there n rows? Then 4 and 7.
unfoldable pub rebuild_questions : Settings → ℕ → Tables → List Question
rebuild_questions s n t =
    asks 1 (long_enough current t)
    ∷ asks 3 (settings_good s)
    ∷ asks 6 (leb n (sample_rows current (length t.samples)))
    ∷ codes_asked s n t

-- What a rebuild that is asked these comes to.
abbrev pub RebuildMeets : Settings → ℕ → Tables → ℕ → Tables → Type 0
RebuildMeets s n t r t' = Rebuilt (rebuild_questions s n t) s n t r t'

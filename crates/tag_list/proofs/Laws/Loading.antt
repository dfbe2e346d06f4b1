-- A clear and a load: the machine's number and the machine's tables.
use Prim.Native.Nat.{ℕ}
use mathlib.Core.Bool.{true}
use mathlib.Core.List.{List}
use mathlib.Core.Path.{◌≡◌, refl, ap, ap₂, ◌∙◌}
use native.Mathlib.Omega.{arith}
use lib.ListN.{length}
use Rattle.colour.specs.declared.Settings.{Settings}
use Rattle.model.specs.Layout.{current}
use Rattle.model.specs.Tables.{Tables, pair}
use Rattle.model.specs.Machine.{Machine, Answer, Clear, Change, Load, tables_of, next_state, start_on}
use Rattle.model.specs.Sound.{Valid, Shows, long_enough}
use Rattle.model.specs.Meets.{Meets}
use Rattle.model.specs.Walklist.{walklist_start}
use Rattle.model.specs.Computes.{computes}
use Rattle.model.proofs.Machine.Valid.{started_valid, step_valid, step_lengths}
use Rattle.model.proofs.Machine.Day.{follows}
use Rattle.model.proofs.Tables.Unique.{samples_length, current_complete}
use Rattle.tag_list.specs.Printed.{Fits, SheetLoaded}

-- The bucket size.
abbrev pub two : Settings
two = record { bucket = 2 }

start_valid : Valid current walklist_start
unfolding computes
start_valid = started_valid two 2562 16380 (omega arith) (omega arith) refl

-- The clear starts the machine.
module _ (s o : List ℕ) (sample_words_is : length s ≡ 2562) (octant_words_is : length o ≡ 16380) where
  cleared : (a : Answer) (t : Tables) → Meets (Clear two) (pair s o) a t → Shows current walklist_start t
  unfolding Meets computes
  cleared a t h =
      let long : long_enough current (pair s o) ≡ true = rw (sample_words_is, octant_words_is) in
      record { valid = start_valid; words = (h.accepted long refl).1 ∙ ap₂ (λ (n k : ℕ). tables_of current (start_on two n k)) sample_words_is octant_words_is }

  pub sheet_loaded : (sheet : List ℕ) (a₁ a₂ : Answer) (t₁ t₂ : Tables) (n : ℕ) → Meets (Clear two) (pair s o) a₁ t₁ → Meets (Change (Load sheet)) t₁ a₂ t₂ → n ≡ a₂.number
      → SheetLoaded sheet n t₂
  sheet_loaded sheet a₁ a₂ t₁ t₂ n c l e =
      let f = follows (Change (Load sheet)) walklist_start t₁ a₂ t₂ (cleared a₁ t₁ c) l in
      record { number_is = e ∙ ap (λ (a : Answer). a.number) f.answer; tables_are = f.tables }

-- The tables of the set that was loaded.
module _ (sheet : List ℕ) (n : ℕ) (t : Tables) (loaded : SheetLoaded sheet n t) where
  abbrev after : Machine
  after = next_state walklist_start (Change (Load sheet))

  pub loaded_shows : Shows current after t
  loaded_shows = record { valid = step_valid walklist_start (Change (Load sheet)) start_valid; words = loaded.tables_are }

  pub loaded_fits : Fits t
  unfolding Fits
  loaded_fits = (
    record { machine = after; shows = loaded_shows },
    omega (arith, samples_length current current_complete after t loaded_shows, (step_lengths walklist_start (Change (Load sheet))).samples),
  )

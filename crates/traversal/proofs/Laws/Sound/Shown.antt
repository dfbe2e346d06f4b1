-- Sound tables: what their words say of the samples of the machine that they show.
use Prim.Native.Nat.{ℕ, zero, suc, ◌+◌, ◌≤◌, ◌<◌}
use mathlib.Core.Bool.{true}
use mathlib.Core.List.{List}
use mathlib.Core.Path.{◌≡◌, refl, sym, ap, ap₂, ◌∙◌, subst}
use native.Mathlib.Omega.{arith}
use lib.ListN.{length}
use Rattle.colour.specs.Colour.{codes_fit}
use Rattle.colour.specs.declared.Sample.{Sample}
use Rattle.colour.specs.declared.Settings.{Settings}
use Rattle.model.specs.Layout.{Next, current, sample_header, sample_rows, octant_rows}
use Rattle.model.specs.Lists.{padded}
use Rattle.model.specs.Machine.{Machine, tables_of}
use Rattle.model.specs.SampleSet.{Placed, placed_from, placed, order, octants}
use Rattle.model.specs.Sound.{Shows, CodesInRange}
use Rattle.model.specs.Tables.{Tables, pair, tables_for, next_row, sample_words, octant_words}
use Rattle.words.specs.Rows.{sample_field, settings_in, count_in, octant_limit, sample_budget, sample_in, samples_from}
use Rattle.words.proofs.Laws.Layout.Places.{samples_room}
use Rattle.octree.specs.Steps.{sample_table_by}
use Rattle.octree.proofs.Laws.Tables.Check.{sample_length_lem, octant_length_lem, count_shown, settings_shown, said_samples}
use Rattle.octree.proofs.Laws.Tables.Samples.{held_samples}
use Rattle.traversal.proofs.Laws.Sound.Each.{All}

-- A sample is the one in its row, which is among the first n, and its codes are in range.
pub record Said (ws : List ℕ) (n : ℕ) (x : Placed) : Type 0 where
  pub within : x.row < n
  pub sample : sample_in current ws x.row ≡ x.sample
  pub codes : codes_fit x.sample.colour ≡ true

-- Those of rows i, .., i + k - 1.
said_from : (ws : List ℕ) (n k i : ℕ) → i + k ≤ n → CodesInRange (samples_from current ws i k) → All (Said ws n) (placed_from i (samples_from current ws i k))
unfolding All placed_from samples_from CodesInRange
said_from ws n zero i h r = tt
said_from ws n (suc k) i h r = (
  record { within = omega arith; sample = refl; codes = r.0 },
  said_from ws n k (suc i) (omega arith) r.1,
)

module _ (ws os : List ℕ) (m : Machine) (shows : Shows current m (pair ws os)) where
  -- The number of its samples.
  abbrev n : ℕ
  n = length m.set.samples

  in_rows : samples_from current ws 0 n ≡ m.set.samples
  in_rows = said_samples ws os m shows (settings_in current ws) n refl (count_shown ws os m shows)

  pub said_all : All (Said ws n) (placed m.set)
  unfolding placed
  said_all =
      subst (λ (xs : List Sample). All (Said ws n) (placed_from 0 xs)) in_rows
      (said_from ws n n 0 (omega arith) (subst CodesInRange (sym in_rows) shows.valid.in_range))

  -- The octants and the samples that they say are there.
  octants_counted : count_in os ≡ octants m.set
  unfolding count_in tables_of tables_for padded octant_words
  octants_counted = ap (λ (t : Tables). count_in t.octants) shows.words

  pub limit_shown : octant_limit current os ≡ octants m.set
  unfolding octant_limit
  limit_shown = omega (arith, octants_counted, ap (octant_rows current) (octant_length_lem ws os m shows), shows.valid.octants_fit)

  samples_there : n ≤ sample_rows current (length ws)
  samples_there = omega (arith, ap (sample_rows current) (sample_length_lem ws os m shows), shows.valid.rows_fit)

  pub budget_shown : sample_budget current ws ≡ n
  unfolding sample_budget
  budget_shown = omega (arith, count_shown ws os m shows, samples_there)

  -- Each next word is that of the order.
  table_shown : ws ≡ sample_table_by (length ws) (settings_in current ws) (order m.set) (samples_from current ws 0 n)
  unfolding tables_of tables_for padded sample_words sample_table_by placed
  table_shown =
      ap (λ (t : Tables). t.samples) shows.words
      ∙ sym
      (ap₂ (λ (len : ℕ) (s : Settings). sample_table_by len s (order m.set) (samples_from current ws 0 n)) (sample_length_lem ws os m shows) (settings_shown ws os m shows)
      ∙ ap (sample_table_by m.sample_length m.set.settings (order m.set)) in_rows)

  pub next_shown : (i : ℕ) → i < n → sample_field current ws i Next ≡ next_row n i (order m.set)
  next_shown =
      let headed : sample_header current ≤ length ws = omega (arith, sample_length_lem ws os m shows, shows.valid.sample_words_is) in
      (held_samples ws (order m.set) n (samples_room (length ws) n headed samples_there) (count_shown ws os m shows) table_shown).0

-- Sound tables: what their words say of the machine that they show, and the tables of a machine with other samples.
use Prim.Native.Nat.{ℕ, ◌≤◌}
use mathlib.Core.List.{List}
use mathlib.Core.Path.{◌≡◌, refl, sym, ap, ap₂, ◌∙◌, subst}
use native.Mathlib.Omega.{arith}
use lib.Dec.{ltb}
use lib.ListN.{length}
use Rattle.colour.specs.declared.Sample.{Sample}
use Rattle.colour.specs.declared.Settings.{Settings}
use Rattle.model.specs.SampleSet.{SampleSet, octants}
use Rattle.model.specs.Layout.{current, sample_header, octant_header, sample_rows, octant_rows}
use Rattle.model.specs.Tables.{pair, tables_for}
use Rattle.model.specs.Machine.{Machine, tables_of, has_tag, with_set, with_samples}
use Rattle.model.specs.Sound.{Shows, Sound, Distinct, CodesInRange}
use Rattle.words.specs.Rows.{count_in, settings_in, samples_from, set_of}
use Rattle.words.proofs.Laws.Layout.Places.{rows_few}
use Rattle.octree.proofs.Laws.Tables.Check.{sample_length_lem, octant_length_lem, count_shown, settings_shown, said_samples, both_long}
use Rattle.samples.specs.Rebuilding.{Space}
use Rattle.samples.specs.Steps.{holding, Acceptable, row_of_tag}
use Rattle.samples.proofs.Laws.Meets.{shown_long}
use Rattle.samples.proofs.Laws.Tags.{tag_in_rows}

module _ (ws os : List ℕ) (m : Machine) (shows : Shows current m (pair ws os)) where
  -- The settings that they say, and their samples.
  abbrev x : Settings
  x = settings_in current ws

  samples_said : samples_from current ws 0 (count_in ws) ≡ m.set.samples
  samples_said = said_samples ws os m shows x (count_in ws) refl refl

  -- Their rows are there, and both headers.
  pub count_few : count_in ws ≤ sample_rows current (length ws)
  count_few = omega (arith, count_shown ws os m shows, ap (sample_rows current) (sample_length_lem ws os m shows), shows.valid.rows_fit)

  pub both_headed : (sample_header current ≤ length ws) × (octant_header current ≤ length os)
  both_headed = both_long ws os (shown_long (pair ws os) (record { machine = m; shows = shows }))

  -- A set read off rows, with those settings: the machine's with other samples.
  set_with : (ws' : List ℕ) (k : ℕ) (xs : List Sample) → samples_from current ws' 0 k ≡ xs → set_of current ws' x k ≡ with_samples m.set xs
  unfolding set_of with_samples
  set_with ws' k xs e = λ i. record { settings = settings_shown ws os m shows i; samples = e i }

  tables_with : (ws' : List ℕ) (k : ℕ) (xs : List Sample) → samples_from current ws' 0 k ≡ xs
      → tables_for current (set_of current ws' x k) (length ws) (length os) ≡ tables_of current (holding m xs)
  unfolding tables_of with_set
  tables_with ws' k xs e =
      ap₂ (λ (set : SampleSet) (n : ℕ). tables_for current set n (length os)) (set_with ws' k xs e) (sample_length_lem ws os m shows)
      ∙ ap (tables_for current (with_samples m.set xs) m.sample_length) (octant_length_lem ws os m shows)

  -- Rows that say samples, in a table of that length, with those settings.
  module _ (y : Settings) (said : y ≡ x) (ws' : List ℕ) (k : ℕ) (xs : List Sample) (e : samples_from current ws' 0 k ≡ xs) where
    rows_set : set_of current ws' y k ≡ with_samples m.set xs
    rows_set = ap (λ (c : Settings). set_of current ws' c k) said ∙ set_with ws' k xs e

    pub rows_tables : length ws' ≡ length ws → tables_for current (set_of current ws' y k) (length ws') (length os) ≡ tables_of current (holding m xs)
    rows_tables long =
        ap₂ (λ (c : Settings) (l : ℕ). tables_for current (set_of current ws' c k) l (length os)) said long ∙ tables_with ws' k xs e

    pub rows_octants : octants (set_of current ws' y k) ≡ octants (with_samples m.set xs)
    rows_octants = ap octants rows_set

    -- They are acceptable where their samples are a set which fits the machine, and only there.
    pub rows_acceptable : Distinct xs → CodesInRange xs → octants (with_samples m.set xs) ≤ octant_rows current m.octant_length
        → Acceptable y ws' (length os) k
    rows_acceptable d r o =
        record {
          tags_distinct = subst Distinct (sym e) d;
          in_range = subst CodesInRange (sym e) r;
          octants_fit = omega (arith, rows_octants, ap (octant_rows current) (octant_length_lem ws os m shows), o);
        }

    pub acceptable_octants : Acceptable y ws' (length os) k → octants (with_samples m.set xs) ≤ octant_rows current m.octant_length
    acceptable_octants a = omega (arith, rows_octants, ap (octant_rows current) (octant_length_lem ws os m shows), a.octants_fit)

-- The words and the rows that the inner calls work on are there; n is the count.
module _ (ws os : List ℕ) (sound : Sound current (pair ws os)) where
  pub headers_there : (sample_header current ≤ length ws) × (octant_header current ≤ length os)
  headers_there = both_headed ws os sound.machine sound.shows

  pub rows_there : (n : ℕ) → n ≡ count_in ws → n ≤ sample_rows current (length ws)
  rows_there n counted = omega (arith, counted, count_few ws os sound.machine sound.shows)

  -- Rows, as many as a table of that length has, can be rebuilt.
  pub space_for : (n : ℕ) (ws' : List ℕ) → length ws' ≡ length ws → n ≤ sample_rows current (length ws) → Space ws' os n 4096
  space_for n ws' long few =
      record {
        sample_words_is = omega (arith, long, headers_there.0);
        octant_words_is = headers_there.1;
        few = omega (arith, ap (sample_rows current) long, few);
        space = omega (arith, few, rows_few (length ws));
      }

-- What the tables say, by their count n, of a machine that they show.
module _ (ws os : List ℕ) (n : ℕ) (counted : n ≡ count_in ws) (m : Machine) (shows : Shows current m (pair ws os)) where
  pub said : samples_from current ws 0 n ≡ m.set.samples
  said = ap (samples_from current ws 0) counted ∙ samples_said ws os m shows

  -- A tag is known where its place is a row.
  pub known_below : (t row : ℕ) → row ≡ row_of_tag t (samples_from current ws 0 n) → has_tag t m.set.samples ≡ ltb row n
  known_below t row placed = ap (has_tag t) (sym said) ∙ tag_in_rows t n ws row placed

-- The checking call: what sound tables are, and that tables which hold the set that they say are sound.
use Prim.Native.Nat.{ℕ, zero, suc, ◌+◌, ◌-◌, ◌≤◌, ◌<◌}
use mathlib.Core.Bool.{Bool, true, false, false≢true, ◌&&◌, and-eq-true_iff}
use mathlib.Core.List.{List}
use mathlib.Core.Logic.{◌↔◌}
use mathlib.Core.Path.{◌≡◌, refl, sym, ap, ap₂, ◌∙◌, subst}
use native.Mathlib.Omega.{arith}
use borrow.Author.Tests.{le-leb, leb-true}
use lib.Dec.{leb}
use lib.ListN.{length, get_or, take, replicate, length-replicate}
use lib.Seq.{length-take-le, get_or-append-add}
use Rattle.colour.specs.declared.Settings.{Settings}
use Rattle.model.specs.Layout.{current, sample_header, octant_header, sample_rows, octant_rows}
use Rattle.model.specs.Lists.{padded}
use Rattle.model.specs.Machine.{Machine, tables_of}
use Rattle.model.specs.Meets.{CheckMeets}
use Rattle.model.specs.SampleSet.{SampleSet, settings_good, octants}
use Rattle.model.specs.Sound.{CodesInRange, Distinct, Shows, Sound, long_enough}
use Rattle.model.specs.Tables.{sample_words, pair, tables_for, Tables}
use Rattle.model.proofs.Tables.Numbers.{current_numbers}
use Rattle.model.proofs.Tables.Size.{sample_words_length}
use Rattle.model.proofs.Tables.Unique as unique
use Rattle.words.specs.Rows.{sample_start, settings_in, count_in, samples_from, set_of}
use Rattle.words.proofs.Laws.Layout.Samples.{samples_length}
use Rattle.octree.specs.Steps.{Holds}
use Rattle.octree.proofs.Laws.Tables.Reading.{count_read, settings_read, samples_read}

-- A word among zeros, or after them.
get_d_zeros : (n i : ℕ) → get_or {A = ℕ} (replicate n 0) i 0 ≡ 0
get_d_zeros zero i = refl
get_d_zeros (suc n) zero = refl
get_d_zeros (suc n) (suc i) = get_d_zeros n i

-- Sound tables: what their words say of the machine that they show.
module _ (ws os : List ℕ) (m : Machine) (shows : Shows current m (pair ws os)) where
  sample_words_is : ws ≡ padded m.sample_length (sample_words current m.set)
  unfolding tables_of tables_for
  sample_words_is = ap (λ (t : Tables). t.samples) shows.words

  pub sample_length_lem : length ws ≡ m.sample_length
  sample_length_lem = unique.samples_length current unique.current_complete m (pair ws os) shows

  pub octant_length_lem : length os ≡ m.octant_length
  octant_length_lem = unique.octants_length current unique.current_complete m (pair ws os) shows

  -- The zeros after its named words.
  abbrev zeros : List ℕ
  zeros = replicate (m.sample_length - length (sample_words current m.set)) 0

  pub count_shown : count_in ws ≡ length m.set.samples
  unfolding padded
  count_shown = ap count_in sample_words_is ∙ count_read m.set zeros

  pub settings_shown : settings_in current ws ≡ m.set.settings
  unfolding padded
  settings_shown = ap (settings_in current) sample_words_is ∙ settings_read m.set zeros

  samples_shown : samples_from current ws 0 (length m.set.samples) ≡ m.set.samples
  unfolding padded
  samples_shown =
      ap (λ (l : List ℕ). samples_from current l 0 (length m.set.samples)) sample_words_is ∙ samples_read m.set zeros

  -- The words after the rows of its samples are 0.
  pub rest_zero : (p : ℕ) → sample_start current (count_in ws) ≤ p → get_or ws p 0 ≡ 0
  unfolding padded sample_start
  rest_zero p h =
      let named : List ℕ = sample_words current m.set in
      let many : length named ≡ sample_start current (count_in ws) =
      sample_words_length current m.set ∙ ap (sample_start current) (sym count_shown) in
      let place : p ≡ length named + (p - length named) = omega (arith, many) in
      ap₂ (λ (l : List ℕ) (k : ℕ). get_or l k 0) sample_words_is place
      ∙ get_or-append-add named zeros (p - length named) 0
      ∙ get_d_zeros (m.sample_length - length named) (p - length named)

  -- The set that they say is the machine's.
  module _ (s : Settings) (c : ℕ) (are-settings : settings_in current ws ≡ s) (is-count : count_in ws ≡ c) where
    pub said_samples : samples_from current ws 0 c ≡ m.set.samples
    said_samples = ap (samples_from current ws 0) (sym is-count ∙ count_shown) ∙ samples_shown

    set_said : set_of current ws s c ≡ m.set
    unfolding set_of
    set_said = λ i. record { settings = (sym are-settings ∙ settings_shown) i; samples = said_samples i }

    pub sound_holds : Holds s c ws os
    unfolding tables_of
    sound_holds =
        record {
          tags_distinct = subst Distinct (sym said_samples) shows.valid.tags_distinct;
          in_range = subst CodesInRange (sym said_samples) shows.valid.in_range;
          tables =
              record {
                octants_fit =
                    subst (λ (k : ℕ). k ≤ octant_rows current (length os)) (sym (ap octants set_said))
                    (subst (λ (k : ℕ). octants m.set ≤ octant_rows current k) (sym octant_length_lem) shows.valid.octants_fit);
                words =
                    shows.words
                    ∙ sym
                    (ap₂ (λ (set : SampleSet) (k : ℕ). tables_for current set k (length os)) set_said sample_length_lem
                    ∙ ap (tables_for current m.set m.sample_length) octant_length_lem);
              };
        }

-- Where one test says no, no machine has the tables.
module _ (ws os : List ℕ) where
  no_machine : ((m : Machine) → Shows current m (pair ws os) → ⊥) → CheckMeets (pair ws os) false
  no_machine ne = record { sound = λ e. absurd (false≢true e); complete = λ s. absurd (ne s.machine s.shows) }

  pub too_short : long_enough current (pair ws os) ≡ false → CheckMeets (pair ws os) false
  unfolding long_enough
  too_short e =
      no_machine
      (λ m s.
      let headed-samples : sample_header current ≤ length ws = omega (arith, sample_length_lem ws os m s, s.valid.sample_words_is) in
      let headed-octants : octant_header current ≤ length os = omega (arith, octant_length_lem ws os m s, s.valid.octant_words_is) in
      false≢true
      (sym e ∙ ap₂ (λ (x y : Bool). x && y) (le-leb (sample_header current) (length ws) headed-samples)
      (le-leb (octant_header current) (length os) headed-octants)))

  pub settings_out : settings_good (settings_in current ws) ≡ false → CheckMeets (pair ws os) false
  settings_out e = no_machine (λ m s. false≢true (sym e ∙ ap settings_good (settings_shown ws os m s) ∙ s.valid.settings_good_is))

  pub rows_over : sample_rows current (length ws) < count_in ws → CheckMeets (pair ws os) false
  rows_over h =
      no_machine
      (λ m s. omega (arith, count_shown ws os m s, ap (sample_rows current) (sample_length_lem ws os m s), s.valid.rows_fit))

-- What the header's tests leave: long is what was said of the lengths, k the count, and n the places lent for it.
pub both_long : (ws os : List ℕ) → long_enough current (pair ws os) ≡ true → (sample_header current ≤ length ws) × (octant_header current ≤ length os)
unfolding long_enough
both_long ws os long =
    let h = (and-eq-true_iff (leb (sample_header current) (length ws)) (leb (octant_header current) (length os))).0 long in (
      leb-true (sample_header current) (length ws) h.0,
      omega (arith, current_numbers.octant_header_is, leb-true (octant_header current) (length os) h.1),
    )

module _ (ws os : List ℕ) (s : Settings) (k n : ℕ) (long : long_enough current (pair ws os) ≡ true) (counted : k ≡ count_in ws)
    (settings : s ≡ settings_in current ws) (few : k ≤ sample_rows current (length ws)) (lent : k ≡ n) where
  shown_by : settings_good s ≡ true → Holds s n ws os → Sound current (pair ws os)
  unfolding tables_of set_of
  shown_by good h =
      record {
        machine = record { set = set_of current ws s n; sample_length = length ws; octant_length = length os };
        shows =
            record {
              valid =
                  record {
                    sample_words_is = (both_long ws os long).0;
                    octant_words_is = omega (arith, current_numbers.octant_header_is, (both_long ws os long).1);
                    settings_good_is = good;
                    tags_distinct = h.tags_distinct;
                    in_range = h.in_range;
                    rows_fit = omega (arith, samples_length ws n 0, few, lent);
                    octants_fit = h.tables.octants_fit;
                  };
              words = h.tables.words;
            };
      }

  pub checked : settings_good s ≡ true → (r : Bool) → (r ≡ true) ↔ Holds s n ws os → CheckMeets (pair ws os) r
  checked good r t =
      record {
        sound = λ e. shown_by good (t.0 e);
        complete = λ x. t.1 (sound_holds ws os x.machine x.shows s n (sym settings) (sym counted ∙ lent));
      }

-- The first n places of 4,096.
abbrev pub places : List ℕ
places = replicate 4096 0

pub places_first : (n : ℕ) → n ≤ 4096 → n ≡ length (take n places)
places_first n h = sym (length-take-le n places (omega (arith, length-replicate {A = ℕ} 4096 0)))

-- Soundness (document 01, "The tables"): the tables are the ones that are given for some sample set.
use Rattle.std.specs.Prelude.{◌≤◌, Bool, true, false, ◌&&◌, List, [], ◌∷◌, ◌≡◌, leb, length}
use Rattle.colour.specs.declared.Sample.{Sample}
use Rattle.colour.specs.Colour.{codes_fit}
use Rattle.model.specs.SampleSet.{settings_good, octants}
use Rattle.model.specs.Layout.{Layout, sample_header, octant_header, sample_rows, octant_rows}
use Rattle.model.specs.Tables.{Tables}
use Rattle.model.specs.Machine.{Machine, tables_of, has_tag}

-- No tag twice.
unfoldable pub Distinct : List Sample → Type 0
Distinct [] = Unit {0}
Distinct (s ∷ rest) = (has_tag s.tag rest ≡ false) × Distinct rest

-- Every code in range. (A tag is a 32-bit number because the words are: `tag_fits` of proofs/.)
unfoldable pub CodesInRange : List Sample → Type 0
CodesInRange [] = Unit {0}
CodesInRange (s ∷ rest) = (codes_fit s.colour ≡ true) × CodesInRange rest

-- A machine within its tables: a set, settings and two lengths that document 01 allows and that hold the set.
pub record Valid (L : Layout) (m : Machine) : Type 0 where
  pub sample_words_is : sample_header L ≤ m.sample_length
  pub octant_words_is : octant_header L ≤ m.octant_length
  pub settings_good_is : settings_good m.set.settings ≡ true
  pub tags_distinct : Distinct m.set.samples
  pub in_range : CodesInRange m.set.samples
  pub rows_fit : length m.set.samples ≤ sample_rows L m.sample_length
  pub octants_fit : octants m.set ≤ octant_rows L m.octant_length

-- The tables are those of the machine.
pub record Shows (L : Layout) (m : Machine) (t : Tables) : Type 0 where
  pub valid : Valid L m
  pub words : t ≡ tables_of L m

-- Sound: the tables of some set.
pub record Sound (L : Layout) (t : Tables) : Type 0 where
  pub machine : Machine
  pub shows : Shows L machine t

-- Question 1: at least 2 and 1 words?
unfoldable pub long_enough : Layout → Tables → Bool
long_enough L t = leb (sample_header L) (length t.samples) && leb (octant_header L) (length t.octants)

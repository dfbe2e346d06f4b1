-- What the functions under the calls ask and promise. No call's own promise cites these.
use Rattle.std.specs.Prelude.{ℕ, ◌+◌, ◌*◌, ◌%◌, ◌≤◌, ◌<◌, ◌^◌, true, false, List, [], ◌∷◌, ◌++◌, ◌≡◌, eqb, leb, length, get_or, take, Option, Some, Result, Ok}
use Rattle.colour.specs.declared.Sample.{Sample}
use Rattle.colour.specs.declared.Settings.{Settings}
use Rattle.colour.specs.Octant.{depths}
use Rattle.colour.specs.Question.{Question, asks, first_no}
use Rattle.colour.specs.declared.refusal.Refusal.{Refusal}
use Rattle.colour.specs.Refusal.{answer_number}
use Rattle.model.specs.Lists.{keep, padded}
use Rattle.model.specs.SampleSet.{Placed, placed_from, order_of, octants_of, octants}
use Rattle.model.specs.Layout.{Next, current, sample_header, octant_header, octant_width, sample_rows, octant_rows}
use Rattle.model.specs.Tables.{first_row, last_row, next_row, header_words, sample_rows_of, octant_rows_of, pair, tables_for}
use Rattle.model.specs.Sound.{Distinct, CodesInRange}
use Rattle.words.specs.Rows.{sample_field, settings_in, count_in, first_samples, set_of}
use Rattle.order.specs.Entries.{view, entries_of}

-- A whole list is ordered for a bucket size and a depth left.
abbrev pub Ordered : ℕ → ℕ → List ℕ → Type 0
Ordered b j es = order_of b j (view es) ≡ view es

-- What the recursion over an ordered part asks: at most 4,096 entries, a depth of the tree, octant numbers in 32 bits, and rows enough.
pub record Rooted (b j number : ℕ) (es : List ℕ) (words : ℕ) : Type 0 where
  pub few : length es ≤ 4096
  pub deep : j ≤ 16
  pub ordered : Ordered b j es
  pub numbers : number + octants_of b j (view es) < 2 ^ 32
  pub room : octant_width current * octants_of b j (view es) ≤ words

-- The rows of an octant and of those below it, as the definition has them.
abbrev pub rows_of : ℕ → ℕ → ℕ → List ℕ → List ℕ
rows_of b j number es = octant_rows_of current b j number (view es)

-- An octant's row says the first and the last sample row and the number of its entries, and there is one at least.
pub record Says (first last count : ℕ) (es : List ℕ) : Type 0 where
  pub held : 1 ≤ length es
  pub first_is : first ≡ first_row 0 (view es)
  pub last_is : last ≡ last_row 0 (view es)
  pub count_is : count ≡ length es

-- The word for a child of so many samples whose row would be `number`.
unfoldable pub child_word_of : ℕ → ℕ → ℕ
child_word_of size number = elim (eqb size 0) [ true ↦ 0 | false ↦ number ]

-- Comparing says the octant count exactly where the rows are the definition's.
pub record RowsTold (b j number : ℕ) (es ws : List ℕ) (r : Option ℕ) : Type 0 where
  pub same : (n : ℕ) → r ≡ Some n
      → (n ≡ octants_of b j (view es)) × (take (octant_width current * n) ws ≡ rows_of b j number es)
  pub complete : take (octant_width current * octants_of b j (view es)) ws ≡ rows_of b j number es → r ≡ Some (octants_of b j (view es))

-- How often a row stands in a list.
unfoldable pub times_row : ℕ → List Placed → ℕ
times_row i xs = length (keep (λ x. eqb x.row i) xs)

-- The entries' rows are those of n samples, each once.
pub record RowsOnce (n : ℕ) (es : List ℕ) : Type 0 where
  pub many : length es ≡ n
  pub below : (i : ℕ) → i < n → get_or es i 0 % 4096 < n
  pub most : (row : ℕ) → times_row row (view es) ≤ 1
  pub found : (row : ℕ) → row < n → 1 ≤ times_row row (view es)

-- Entries whose rows are the first ones of a table, each once, in any sequence.
pub record RowsGiven (ws es : List ℕ) : Type 0 where
  pub few : length es ≤ sample_rows current (length ws)
  pub once : RowsOnce (length es) es

-- The next words of n rows are those of the order in which the entries stand.
abbrev pub NextsAre : ℕ → List ℕ → List ℕ → Type 0
NextsAre n es ws = (i : ℕ) → i < n → sample_field current ws i Next ≡ next_row n i (view es)

-- Questions 6 and 7 for a list of samples, given by its entries: does each find a row, and would the tree fit the octant rows?
unfoldable pub fits_rows : ℕ → List ℕ → ℕ → ℕ → List Question
fits_rows b es sample_length octant_length =
    asks 6 (leb (length es) (sample_rows current sample_length))
    ∷ asks 7 (leb (octants_of b depths (view es)) (octant_rows current octant_length))
    ∷ []

-- What a judged list comes to: the number, the octant count where it is 0, and then the entries in their order.
pub record Judged (b : ℕ) (before after : List ℕ) (sample_length octant_length : ℕ) (r : Result ℕ Refusal) : Type 0 where
  pub number : answer_number r ≡ first_no (fits_rows b before sample_length octant_length)
  pub octants : (n : ℕ) → r ≡ Ok n → n ≡ octants_of b depths (view before)
  pub order : (n : ℕ) → r ≡ Ok n → view after ≡ order_of b depths (view before)

-- The sample table of a list of samples with settings and an order; the octant table of ordered entries.
unfoldable pub sample_table_by : ℕ → Settings → List Placed → List Sample → List ℕ
sample_table_by len s ordered xs =
    padded len (header_words current (length xs) s ++ sample_rows_of current (length xs) ordered (placed_from 0 xs))

unfoldable pub octant_table_by : ℕ → ℕ → List ℕ → List ℕ
octant_table_by len b es = padded len (octants_of b depths (view es) ∷ rows_of b depths 0 es)

-- What writing the tables of the samples in the first rows asks: they fit, and the entries are theirs in their order.
pub record Writable (s : Settings) (ws : List ℕ) (octant_length : ℕ) (ordered : List ℕ) : Type 0 where
  pub sample_words_is : sample_header current ≤ length ws
  pub octant_words_is : octant_header current ≤ octant_length
  pub few : length ordered ≤ sample_rows current (length ws)
  pub order : view ordered ≡ order_of s.bucket depths (view (entries_of (first_samples current ws (length ordered))))
  pub room : octants (set_of current ws s (length ordered)) ≤ octant_rows current octant_length

-- What is known where a table's header is right: the count is n, the settings are s, and n rows are there.
pub record Headed (s : Settings) (ws os : List ℕ) (n scratch : ℕ) : Type 0 where
  pub few : n ≤ sample_rows current (length ws)
  pub space : n ≤ scratch
  pub counted : count_in ws ≡ n
  pub settings : settings_in current ws ≡ s

-- And where the entries of its samples are listed by arrival.
pub record Listed (s : Settings) (ws os es : List ℕ) (scratch : ℕ) : Type 0 where
  pub headed : Headed s ws os (length es) scratch
  pub entries : es ≡ entries_of (first_samples current ws (length es))

-- The tables are those of the samples in the first n rows.
pub record SameTables (s : Settings) (n : ℕ) (ws os : List ℕ) : Type 0 where
  pub octants_fit : octants (set_of current ws s n) ≤ octant_rows current (length os)
  pub words : pair ws os ≡ tables_for current (set_of current ws s n) (length ws) (length os)

-- And these samples are a set's: what is left to check where the header is right.
pub record Holds (s : Settings) (n : ℕ) (ws os : List ℕ) : Type 0 where
  pub tags_distinct : Distinct (first_samples current ws n)
  pub in_range : CodesInRange (first_samples current ws n)
  pub tables : SameTables s n ws os

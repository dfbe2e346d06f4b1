-- Tables are those of at most one set (document 01, "The tables"): the set can be read off every layout that names tag, codes and settings.
use Prim.Native.Nat.{ℕ, suc, ◌<◌}
use mathlib.Core.List.{List, [], ◌∷◌, ◌++◌, map, append_assoc}
use mathlib.Core.Path.{◌≡◌, refl, sym, ap, ◌∙◌, subst}
use lib.ListN.{length, length-map}
use lib.Seq.{take_at, drop_at}
use native.Mathlib.Omega.{arith}
use Rattle.colour.specs.declared.Sample.{Sample}
use Rattle.colour.specs.Colour.{Channel, Red, Green, Blue, code_in}
use Rattle.colour.proofs.Laws.Channels.{same_codes}
use Rattle.model.specs.Lists.{padded}
use Rattle.model.specs.SampleSet.{SampleSet, Placed, placed_from, placed, order}
use Rattle.model.specs.Layout.{Layout, Bucket, Tag, Code, current}
use Rattle.model.specs.Tables.{Tables, setting_word, sample_word, sample_rows_of, sample_words, octant_words, tables_for}
use Rattle.model.specs.Machine.{Machine, tables_of}
use Rattle.model.specs.Sound.{Shows}
use Rattle.model.proofs.Tables.Size.{padded_length, sample_words_fit, octant_words_fit}

-- x is in a list.
pub data Has {A : Type 0} (x : A) : List A → Type 0 where
  here : {xs : List A} → Has x (x ∷ xs)
  there : {y : A} {xs : List A} → Has x xs → Has x (y ∷ xs)

-- A layout that names every part of a sample and every setting.
pub record Complete (L : Layout) : Type 0 where
  pub bucket : Has Bucket L.settings
  pub tag : Has Tag L.sample
  pub code : (h : Channel) → Has (Code h) L.sample

pub current_complete : Complete current
unfolding current
current_complete =
    record {
      bucket = here;
      tag = here;
      code = elim [ Red ↦ there here | Green ↦ there (there here) | Blue ↦ there (there (there here)) ];
    }

-- Lists that agree word by word agree at each of their fields.
pub map_has : {A : Type 0} {x : A} {xs : List A} (f g : A → ℕ) → map f xs ≡ map g xs → Has x xs → f x ≡ g x
map_has f g e here = cc
map_has f g e (there h) = map_has f g (cc) h

-- Two lists with fronts of one length.
module _ {A : Type 0} where
  pub front_same : (a b c d : List A) → length a ≡ length c → a ++ b ≡ c ++ d → a ≡ c
  front_same a b c d n e = sym (take_at a b (length a) refl) ∙ ap (lib.ListN.take (length a)) e ∙ take_at c d (length a) (sym n)

  pub back_same : (a b c d : List A) → length a ≡ length c → a ++ b ≡ c ++ d → b ≡ d
  back_same a b c d n e = sym (drop_at a b (length a) refl) ∙ ap (lib.ListN.drop (length a)) e ∙ drop_at c d (length a) (sym n)

sample_same : (s t : Sample) → s.tag ≡ t.tag → ((h : Channel) → code_in h s.colour ≡ code_in h t.colour) → s ≡ t
sample_same s t e c = λ i. record { tag = e i; colour = same_codes s.colour t.colour c i }

-- Every word is below n; every tag is.
unfoldable pub AllBelow : ℕ → List ℕ → Type 0
AllBelow n [] = Unit {0}
AllBelow n (x ∷ rest) = (x < n) × AllBelow n rest

unfoldable pub TagsBelow : ℕ → List Sample → Type 0
TagsBelow n [] = Unit {0}
TagsBelow n (s ∷ rest) = (s.tag < n) × TagsBelow n rest

below_front : (n : ℕ) (xs ys : List ℕ) → AllBelow n (xs ++ ys) → AllBelow n xs
unfolding AllBelow
below_front n [] ys h = tt
below_front n (x ∷ xs) ys h = (h.0, below_front n xs ys h.1)

below_back : (n : ℕ) (xs ys : List ℕ) → AllBelow n (xs ++ ys) → AllBelow n ys
unfolding AllBelow
below_back n [] ys h = h
below_back n (x ∷ xs) ys h = below_back n xs ys h.1

below_has : {A : Type 0} {x : A} {xs : List A} (n : ℕ) (f : A → ℕ) → AllBelow n (map f xs) → Has x xs → f x < n
unfolding AllBelow
below_has n f h here = h.0
below_has n f h (there i) = below_has n f h.1 i

module _ (L : Layout) (complete : Complete L) where
  row_same : (n n' : ℕ) (w w' : List Placed) (x x' : Placed) → map (sample_word n w x) L.sample ≡ map (sample_word n' w' x') L.sample
      → x.sample ≡ x'.sample
  unfolding sample_word
  row_same n n' w w' x x' e =
      sample_same x.sample x'.sample (map_has (sample_word n w x) (sample_word n' w' x') e complete.tag)
      (λ h. map_has (sample_word n w x) (sample_word n' w' x') e (complete.code h))

  rows_same : (n n' i i' : ℕ) (w w' : List Placed) (xs xs' : List Sample) (z z' : List ℕ) → length xs ≡ length xs'
      → sample_rows_of L n w (placed_from i xs) ++ z ≡ sample_rows_of L n' w' (placed_from i' xs') ++ z' → xs ≡ xs'
  unfolding sample_rows_of placed_from
  rows_same n n' i i' w w' [] [] z z' l e = refl
  rows_same n n' i i' w w' [] (y ∷ ys) z z' l e = absurd (omega arith)
  rows_same n n' i i' w w' (x ∷ xs) [] z z' l e = absurd (omega arith)
  rows_same n n' i i' w w' (x ∷ xs) (y ∷ ys) z z' l e =
      let a : Placed = record { row = i; sample = x } in
      let b : Placed = record { row = i'; sample = y } in
      let ra : List ℕ = map (sample_word n w a) L.sample in
      let rb : List ℕ = map (sample_word n' w' b) L.sample in
      let ea : List ℕ = sample_rows_of L n w (placed_from (suc i) xs) in
      let eb : List ℕ = sample_rows_of L n' w' (placed_from (suc i') ys) in
      let m : length ra ≡ length rb = length-map L.sample (sample_word n w a) ∙ sym (length-map L.sample (sample_word n' w' b)) in
      let q : ra ++ (ea ++ z) ≡ rb ++ (eb ++ z') = sym (append_assoc ra ea z) ∙ e ∙ append_assoc rb eb z' in
      let first : x ≡ y = row_same n n' w w' a b (front_same ra (ea ++ z) rb (eb ++ z') m q) in
      let rest : xs ≡ ys = rows_same n n' (suc i) (suc i') w w' xs ys z z' (omega arith) (back_same ra (ea ++ z) rb (eb ++ z') m q) in
      λ k. first k ∷ rest k

  -- The set is the same where the sample tables are.
  pub sets_same : (set set' : SampleSet) (z z' : List ℕ) → sample_words L set ++ z ≡ sample_words L set' ++ z' → set ≡ set'
  unfolding sample_words placed setting_word
  sets_same set set' z z' e =
      let n : ℕ = length set.samples in
      let n' : ℕ = length set'.samples in
      let b : List ℕ = map (setting_word set.settings) L.settings in
      let b' : List ℕ = map (setting_word set'.settings) L.settings in
      let r : List ℕ = sample_rows_of L n (order set) (placed set) in
      let r' : List ℕ = sample_rows_of L n' (order set') (placed set') in
      let l : n ≡ n' = cc in
      let m : length b ≡ length b' =
      length-map L.settings (setting_word set.settings) ∙ sym (length-map L.settings (setting_word set'.settings)) in
      let words : (b ++ r) ++ z ≡ (b' ++ r') ++ z' = cc in
      let q : b ++ (r ++ z) ≡ b' ++ (r' ++ z') = sym (append_assoc b r z) ∙ words ∙ append_assoc b' r' z' in
      let s : set.settings.bucket ≡ set'.settings.bucket =
      map_has (setting_word set.settings) (setting_word set'.settings) (front_same b (r ++ z) b' (r' ++ z') m q) complete.bucket in
      let xs : set.samples ≡ set'.samples =
      rows_same n n' 0 0 (order set) (order set') set.samples set'.samples z z' l (back_same b (r ++ z) b' (r' ++ z') m q) in
      λ i. record { settings = record { bucket = s i }; samples = xs i }

  -- A machine's tables have its lengths.
  pub samples_length : (m : Machine) (t : Tables) → Shows L m t → length t.samples ≡ m.sample_length
  unfolding tables_of tables_for
  samples_length m t s =
      ap (λ (x : Tables). length x.samples) s.words
      ∙ padded_length m.sample_length (sample_words L m.set)
      (sample_words_fit L m.set m.sample_length s.valid.sample_words_is s.valid.rows_fit)

  pub octants_length : (m : Machine) (t : Tables) → Shows L m t → length t.octants ≡ m.octant_length
  unfolding tables_of tables_for
  octants_length m t s =
      ap (λ (x : Tables). length x.octants) s.words
      ∙ padded_length m.octant_length (octant_words L m.set)
      (octant_words_fit L m.set m.octant_length s.valid.octant_words_is s.valid.octants_fit)

  -- Tables are those of at most one machine.
  pub shows_one : (m m' : Machine) (t : Tables) → Shows L m t → Shows L m' t → m ≡ m'
  unfolding tables_of tables_for padded
  shows_one m m' t s s' =
      let p : m.sample_length ≡ m'.sample_length = sym (samples_length m t s) ∙ samples_length m' t s' in
      let q : m.octant_length ≡ m'.octant_length = sym (octants_length m t s) ∙ octants_length m' t s' in
      let e : (tables_of L m).samples ≡ (tables_of L m').samples = ap (λ (x : Tables). x.samples) (sym s.words ∙ s'.words) in
      let b : m.set ≡ m'.set = sets_same m.set m'.set _ _ e in
      λ i. record { set = b i; sample_length = p i; octant_length = q i }

  -- Where every word is below n, so is every tag: the tags of tables of 32-bit words are 32-bit numbers.
  rows_below : (n k i : ℕ) (w : List Placed) (xs : List Sample) → AllBelow n (sample_rows_of L k w (placed_from i xs)) → TagsBelow n xs
  unfolding sample_rows_of placed_from TagsBelow sample_word
  rows_below n k i w [] h = tt
  rows_below n k i w (x ∷ xs) h =
      let a : Placed = record { row = i; sample = x } in
      let r : List ℕ = map (sample_word k w a) L.sample in
      let rest : List ℕ = sample_rows_of L k w (placed_from (suc i) xs) in (
        below_has n (sample_word k w a) (below_front n r rest h) complete.tag,
        rows_below n k (suc i) w xs (below_back n r rest h),
      )

  pub tag_fits : (n : ℕ) (m : Machine) (t : Tables) → Shows L m t → AllBelow n t.samples → TagsBelow n m.set.samples
  unfolding tables_of tables_for padded sample_words placed AllBelow
  tag_fits n m t s h =
      let set : SampleSet = m.set in
      let words : AllBelow n (tables_of L m).samples = subst (λ (x : Tables). AllBelow n x.samples) s.words h in
      let named : AllBelow n (sample_words L set) = below_front n (sample_words L set) _ words in
      rows_below n (length set.samples) 0 (order set) set.samples
      (below_back n (map (setting_word set.settings) L.settings) (sample_rows_of L (length set.samples) (order set) (placed set)) named.1)

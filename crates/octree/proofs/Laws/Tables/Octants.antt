-- The octant table, as it is compared and written.
use Prim.Native.Nat.{ℕ, suc, ◌-◌, ◌*◌, ◌≤◌}
use mathlib.Core.Bool.{Bool, true, false}
use mathlib.Core.List.{List, [], ◌∷◌, ◌++◌}
use mathlib.Core.Logic.Iff
use mathlib.Core.Logic.{◌↔◌}
use Rattle.std.specs.Prelude.{Option, Some, None}
use mathlib.Core.Path.{◌≡◌, refl, sym, ap, ap₂, ◌∙◌, subst}
use native.Mathlib.Omega.{arith}
use borrow.Rule.Slice.PartMut.{put_mid}
use lib.ListN.{length, get_or, take, drop, replicate, length-drop}
use lib.Seq.{take_at, length-take-le, drop_at}
use Rattle.colour.specs.Octant.{depths}
use Rattle.sheet.proofs.Laws.Parts.{part_tail, put_tail}
use Rattle.model.specs.Layout.{current, octant_header, octant_width, octant_rows}
use Rattle.model.specs.SampleSet.{octants_of}
use Rattle.model.proofs.Tables.Size.{octant_rows_length}
use Rattle.model.proofs.Tree.Splits.{octants_fit}
use Rattle.words.specs.Rows.{count_in, octant_start}
use Rattle.words.proofs.Laws.Answers.{says_no}
use Rattle.words.proofs.Laws.Layout.Places.{octant_start_lem, after_count, octants_first, octants_room}
use Rattle.words.proofs.Laws.Words.{Zero}
use Rattle.order.specs.Entries.{view}
use Rattle.order.proofs.Laws.Entries.View.{view_length}
use Rattle.octree.specs.Steps.{Ordered, rows_of, octant_table_by, Rooted, RowsTold}
use Rattle.octree.proofs.Laws.Tables.Padded.{ZeroFrom, named_padded, padded_named, zeroed_front, zeroed, zeroed_length, rest_zero}

-- The named words of an octant table.
module _ (b : ℕ) (es : List ℕ) where
  abbrev count : ℕ
  count = octants_of b depths (view es)

  abbrev named_octants : List ℕ
  named_octants = count ∷ rows_of b depths 0 es

  named_octants_length : length named_octants ≡ octant_start current count
  named_octants_length = ap suc (octant_rows_length current b depths 0 (view es)) ∙ sym (after_count count)

  -- An octant table of that count whose rows are the definition's.
  rows_named : (os : List ℕ) → octant_header current ≤ length os → count_in os ≡ count → take (octant_width current * count) (drop 1 os) ≡ rows_of b depths 0 es
      → take (octant_start current count) os ≡ named_octants
  unfolding count_in
  rows_named [] h c e = absurd (omega arith)
  rows_named (o ∷ os) h c e = ap (λ (k : ℕ). take k (o ∷ os)) (after_count count) ∙ ap₂ (λ (n : ℕ) (l : List ℕ). n ∷ l) c e

  named_rows : (os : List ℕ) → octant_header current ≤ length os → take (octant_start current count) os ≡ named_octants
      → (count_in os ≡ count) × (take (octant_width current * count) (drop 1 os) ≡ rows_of b depths 0 es)
  unfolding count_in
  named_rows [] h e = absurd (omega arith)
  named_rows (o ∷ os) h e =
      let both : o ∷ take (octant_width current * count) os ≡ named_octants = ap (λ (k : ℕ). take k (o ∷ os)) (sym (after_count count)) ∙ e in
      (ap (λ (l : List ℕ). get_or l 0 0) both, ap (drop 1) both)

  module _ (os : List ℕ) (header : octant_header current ≤ length os) where
    octants_hold : count_in os ≡ count → take (octant_width current * count) (drop 1 os) ≡ rows_of b depths 0 es
        → ZeroFrom (octant_start current count) os → os ≡ octant_table_by (length os) b es
    unfolding octant_table_by
    octants_hold c e z =
        named_padded (length os) named_octants os refl (octant_start current count) named_octants_length (rows_named os header c e) z

    held_octants : os ≡ octant_table_by (length os) b es
        → ((count_in os ≡ count) × (take (octant_width current * count) (drop 1 os) ≡ rows_of b depths 0 es)) × ZeroFrom (octant_start current count) os
    unfolding octant_table_by
    held_octants e =
        let both = padded_named (length os) named_octants os refl (octant_start current count) named_octants_length e in
        (named_rows os header both.0, both.1)

-- The rows of an octant table: all after its count.
octants_part : (os : List ℕ) (start : ℕ) → start ≡ octant_start current 0 → take (length os - start) (drop start os) ≡ drop 1 os
octants_part os start e = part_tail os start ∙ ap (λ (k : ℕ). drop k os) (e ∙ octants_first)

-- Entries that come to n octants, whose rows find their place in the table.
pub record Fitting (b : ℕ) (es os : List ℕ) (n : ℕ) : Type 0 where
  pub header : octant_header current ≤ length os
  pub few : length es ≤ 4096
  pub counted : n ≡ octants_of b depths (view es)
  pub rows_fit : n ≤ octant_rows current (length os)

pub fitting : (b : ℕ) (es os : List ℕ) (n : ℕ) → octant_header current ≤ length os → length es ≤ 4096 → n ≡ octants_of b depths (view es)
    → n ≤ octant_rows current (length os) → Fitting b es os n
fitting b es os n h f c r = record { header = h; few = f; counted = c; rows_fit = r }

-- Where the rows end.
pub record OctantsEnd (len at : ℕ) : Type 0 where
  pub small : at ≤ 1048576
  pub within : at ≤ len

module _ {b : ℕ} {es os : List ℕ} {n : ℕ} (fits : Fitting b es os n) where
  pub octants_end : (at : ℕ) → at ≡ octant_start current n → OctantsEnd (length os) at
  unfolding depths
  octants_end at e =
      record {
        small = omega (arith, octant_start_lem n, octants_fit b depths (view es) (omega arith) (omega (arith, view_length es, fits.few)), fits.counted);
        within = octants_room (length os) n at fits.header fits.rows_fit e;
      }

  pub told_end : {ws : List ℕ} {r : Option ℕ} → RowsTold b depths 0 es ws r → {m : ℕ} → r ≡ Some m → (at : ℕ) → at ≡ octant_start current m
      → OctantsEnd (length os) at
  told_end told {m} e at a = octants_end at (a ∙ ap (octant_start current) ((told.same m e).0 ∙ sym fits.counted))

  -- What the recursion over the octants of a whole table asks.
  pub whole_rooted : (start : ℕ) → start ≡ octant_start current 0 → Ordered b depths es
      → Rooted b depths 0 es (length (take (length os - start) (drop start os)))
  unfolding depths
  whole_rooted start e o =
      let whole : length (take (length os - start) (drop start os)) ≡ length os - 1 = ap length (octants_part os start e) ∙ length-drop 1 os in
      let room : octant_width current * n ≤ length os - 1 =
      omega (arith, after_count n, octants_room (length os) n (octant_start current n) fits.header fits.rows_fit refl) in
      let most = octants_fit b depths (view es) (omega arith) (omega (arith, view_length es, fits.few)) in
      record {
        few = fits.few;
        deep = omega arith;
        ordered = o;
        numbers = omega (arith, most);
        room = omega (arith, whole, room, ap (λ (m : ℕ). octant_width current * m) fits.counted);
      }

  -- What comparing an octant table says.
  abbrev Table : Type 0
  Table = os ≡ octant_table_by (length os) b es

  pub count_other : (count_in os ≡ n → ⊥) → (false ≡ true) ↔ Table
  count_other ne = says_no (λ q. ne ((held_octants b es os fits.header q).0.0 ∙ sym fits.counted))

  module _ {start : ℕ} (at : start ≡ octant_start current 0) {r : Option ℕ}
      (told : RowsTold b depths 0 es (take (length os - start) (drop start os)) r) where
    rows_are : (m : ℕ) → take m (take (length os - start) (drop start os)) ≡ take m (drop 1 os)
    rows_are m = ap (take m) (octants_part os start at)

    pub rows_other : r ≡ None → (false ≡ true) ↔ Table
    rows_other e =
        says_no
        (λ q. let all = told.complete (rows_are (octant_width current * count b es) ∙ (held_octants b es os fits.header q).0.1) in cc)

    pub octants_tell : {m : ℕ} → r ≡ Some m → count_in os ≡ n → (k : ℕ) → k ≡ octant_start current m → (z : Bool)
        → (z ≡ true) ↔ Zero (take (length os - k) (drop k os)) → (z ≡ true) ↔ Table
    octants_tell {m} e c k h z tail =
        let s = told.same m e in
        let q : k ≡ octant_start current (count b es) = h ∙ ap (octant_start current) s.0 in
        let rows : take (octant_width current * count b es) (drop 1 os) ≡ rows_of b depths 0 es =
        ap (λ (i : ℕ). take (octant_width current * i) (drop 1 os)) (sym s.0) ∙ sym (rows_are (octant_width current * m)) ∙ s.1 in
        Iff.trans tail (
          λ y. octants_hold b es os fits.header (c ∙ fits.counted) rows (subst (λ (i : ℕ). ZeroFrom i os) q ((rest_zero os k).0 y)),
          λ y. (rest_zero os k).1 (subst (λ (i : ℕ). ZeroFrom i os) (sym q) (held_octants b es os fits.header y).1),
        )

-- The octant table that is written: rows, count, zeros.
module _ {b : ℕ} {es os₀ : List ℕ} {used : ℕ} (fits : Fitting b es os₀ used) {start : ℕ} (at : start ≡ octant_start current 0) (rows : List ℕ)
    (built : rows ≡ rows_of b depths 0 es ++ drop (octant_width current * used) (take (length os₀ - start) (drop start os₀))) {os₂ : List ℕ}
    (headed-by : os₂ ≡ used ∷ drop (octant_header current) (put_mid start (length os₀ - start) os₀ rows)) (whole : length os₂ ≡ length os₀) where
  rows_put : drop 1 (put_mid start (length os₀ - start) os₀ rows) ≡ rows
  rows_put =
      ap (drop 1) (put_tail start os₀ rows)
      ∙ ap (λ (k : ℕ). drop 1 (take k os₀ ++ rows)) (at ∙ octants_first)
      ∙ drop_at (take 1 os₀) rows 1 (length-take-le 1 os₀ fits.header)

  octants_headed : take (octant_start current used) os₂ ≡ named_octants b es
  octants_headed =
      let w : ℕ = octant_width current in
      ap₂ (λ (k : ℕ) (l : List ℕ). take k l) (after_count used) headed-by
      ∙ ap₂ (λ (n : ℕ) (l : List ℕ). n ∷ l) fits.counted
      (ap (take (w * used)) (rows_put ∙ built)
      ∙ take_at (rows_of b depths 0 es) (drop (w * used) (take (length os₀ - start) (drop start os₀))) (w * used)
      (octant_rows_length current b depths 0 (view es) ∙ ap (λ (n : ℕ). w * n) (sym fits.counted)))

  pub octants_written : {zeros : List ℕ} {k : ℕ} → k ≡ octant_start current used → zeros ≡ replicate (length (take (length os₂ - k) (drop k os₂))) 0
      → put_mid k (length os₂ - k) os₂ zeros ≡ octant_table_by (length os₀) b es
  unfolding octant_table_by
  octants_written {zeros} {k} e z =
      let room : k ≤ length os₂ = omega (arith, whole, (octants_end fits k e).within) in
      named_padded (length os₀) (named_octants b es) _ (zeroed_length os₂ zeros k room z ∙ whole) k
      (named_octants_length b es ∙ ap (octant_start current) (sym fits.counted) ∙ sym e)
      (zeroed_front os₂ zeros k room z ∙ ap (λ (m : ℕ). take m os₂) e ∙ octants_headed) (zeroed os₂ zeros k room z)

-- What is printed: the tags of the order, or the refusal.
use Prim.Native.Nat.{ℕ, ◌*◌, min, ◌≤◌}
use mathlib.Core.Bool.{Bool, true, false}
use mathlib.Core.List.{List, ◌++◌, map}
use mathlib.Core.Path.{◌≡◌, sym, ap, subst, ◌∙◌}
use native.Mathlib.Omega.{arith}
use borrow.Author.Tests.{eq-eqb, ne_eqb}
use lib.ListN.{length, take, drop, length-append}
use Rattle.model.specs.SampleSet.{order}
use Rattle.model.specs.Tables.{Tables}
use Rattle.model.specs.Queries.{tag_of}
use Rattle.model.specs.Machine.{Outcome, Change, Load, with_set, step, next_state}
use Rattle.model.specs.Walklist.{walklist_start, tag_lines, refused_line, printed_after, walklist_prints}
use Rattle.std.proofs.lemmas.List.{take_min}
use Rattle.tag_list.specs.Printed.{Printed, OrderPrinted, SheetLoaded}
use Rattle.tag_list.proofs.Laws.Lines.{lines_length, refusal_length}
use Rattle.tag_list.proofs.Laws.Order.{Ordered}
use Rattle.tag_list.proofs.Laws.Loading.{loaded_shows}

-- What is printed lies within the text.
pub printed_within : {bytes before after : List ℕ} {n : ℕ} → Printed bytes before after n → n ≤ length after
printed_within {bytes} {before} {after} {n} p = omega (arith, p.count, ap length p.text, length-append bytes (drop n before))

-- A sheet that is cut where the input ends, or at 32,768 bytes.
pub cut_loaded : (input : List ℕ) (k n : ℕ) (t : Tables) → k ≡ min 32768 (length input) → SheetLoaded (take k input) n t → SheetLoaded (take 32768 input) n t
cut_loaded input k n t e h = subst (λ (sheet : List ℕ). SheetLoaded sheet n t) (ap (λ (i : ℕ). take i input) e ∙ take_min 32768 input) h

-- Lines of the tags of the order.
pub order_printed : (t : Tables) (listing before after : List ℕ) (n : ℕ) → Ordered t listing n
    → after ≡ tag_lines (take n listing) ++ drop (11 * length (take n listing)) before → OrderPrinted t before after (11 * n)
unfolding OrderPrinted
order_printed t listing before after n o e m shows =
    let tags : List ℕ = map tag_of (order m.set) in
    let is : take n listing ≡ tags = o.are m shows in
    record {
      count = omega (arith, lines_length tags, ap length is, o.size);
      text = e ∙ ap (λ (k : ℕ). tag_lines (take n listing) ++ drop (11 * k) before) o.size ∙ ap (λ (l : List ℕ). tag_lines l ++ drop (11 * n) before) is;
    }

module _ (input : List ℕ) (n : ℕ) (t : Tables) (loaded : SheetLoaded (take 32768 input) n t) where
  abbrev o : Outcome
  o = step walklist_start (Change (Load (take 32768 input)))

  -- What is printed, where it is known whether the number is 0.
  abbrev printed : Bool → List ℕ
  printed accepted = elim accepted [ true ↦ tag_lines (map tag_of (order o.set)) | false ↦ refused_line o.answer.number ]

  pub refusal_printed : (n ≡ 0 → ⊥) → (before after : List ℕ) → after ≡ refused_line n ++ drop 11 before → Printed (walklist_prints input) before after 11
  unfolding walklist_prints printed_after
  refusal_printed refused before after e =
      let is : walklist_prints input ≡ refused_line n = ap printed (ne_eqb o.answer.number 0 (λ z. refused (loaded.number_is ∙ z))) ∙ ap refused_line (sym loaded.number_is) in
      record { count = omega (arith, ap length is, refusal_length n); text = e ∙ ap (λ (l : List ℕ). l ++ drop 11 before) (sym is) }

  pub tags_printed : n ≡ 0 → (before after : List ℕ) (k : ℕ) → OrderPrinted t before after k → Printed (walklist_prints input) before after k
  unfolding walklist_prints printed_after OrderPrinted next_state with_set
  tags_printed accepted before after k h =
      let is : walklist_prints input ≡ tag_lines (map tag_of (order o.set)) = ap printed (eq-eqb o.answer.number 0 (sym loaded.number_is ∙ accepted)) in
      let p = h (next_state walklist_start (Change (Load (take 32768 input)))) (loaded_shows (take 32768 input) n t loaded) in
      record { count = p.count ∙ ap length (sym is); text = p.text ∙ ap (λ (l : List ℕ). l ++ drop k before) (sym is) }

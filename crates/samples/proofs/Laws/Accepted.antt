-- Rows that are a set which fits: tags, codes, octants.
use Prim.Native.Nat.{ℕ, ◌≤◌}
use mathlib.Core.Bool.{Bool, true, false}
use mathlib.Core.List.{List}
use mathlib.Core.Logic.{◌↔◌}
use mathlib.Core.Path.{◌≡◌, sym, ap, ◌∙◌, subst}
use native.Mathlib.Omega.{arith}
use lib.ListN.{length}
use Rattle.colour.specs.declared.Settings.{Settings}
use Rattle.model.specs.SampleSet.{octants}
use Rattle.model.specs.Layout.{current, sample_rows, octant_rows}
use Rattle.model.specs.Sound.{Distinct, CodesInRange}
use Rattle.words.specs.Rows.{samples_from, set_of}
use Rattle.words.proofs.Laws.Answers.{says_yes, says_no}
use Rattle.order.specs.Entries.{entries_of}
use Rattle.octree.specs.Steps.{Judged}
use Rattle.std.specs.Prelude.{Result}
use Rattle.colour.specs.declared.refusal.Refusal.{Refusal}
use Rattle.colour.specs.Refusal.{answer_number}
use Rattle.std.specs.Result.{is_ok}
use Rattle.colour.proofs.Laws.Refused.{accepted_numbered, not_accepted_numbered}
use Rattle.octree.proofs.Laws.Tables.Judged.{fits_room, room_fits}
use Rattle.samples.specs.Steps.{Acceptable}

-- Entries keep their number through the calls: n at first, then m, then those of es.
module _ (x : Settings) (ws : List ℕ) (octant_length n : ℕ) where
  module _ (m : ℕ) (kept : m ≡ n) where
    module _ (es after : List ℕ) (as_long : length es ≡ m) (few : n ≤ sample_rows current (length ws)) (entries : es ≡ entries_of (samples_from current ws 0 m))
        (r : Result ℕ Refusal) (told : Judged x.bucket es after (length ws) octant_length r) where
      few_entries : length es ≤ sample_rows current (length ws)
      few_entries = omega (arith, as_long, kept, few)

      own_entries : es ≡ entries_of (samples_from current ws 0 (length es))
      own_entries = entries ∙ ap (λ (k : ℕ). entries_of (samples_from current ws 0 k)) (sym as_long)

      abbrev Room : ℕ → Type 0
      Room k = octants (set_of current ws x k) ≤ octant_rows current octant_length

      pub octants_over : (answer_number r ≡ 0 → ⊥) → (false ≡ true) ↔ Acceptable x ws octant_length n
      octants_over ne =
          says_no (λ a. ne (room_fits x ws es few_entries own_entries after octant_length r told (subst Room (sym (as_long ∙ kept)) a.octants_fit)))

      pub all_accepted : Distinct (samples_from current ws 0 n) → CodesInRange (samples_from current ws 0 m) → answer_number r ≡ 0
          → (true ≡ true) ↔ Acceptable x ws octant_length n
      all_accepted d i e =
          says_yes (record {
            tags_distinct = d;
            in_range = subst (λ (k : ℕ). CodesInRange (samples_from current ws 0 k)) kept i;
            octants_fit = subst Room (as_long ∙ kept) (fits_room x ws es few_entries own_entries after octant_length r told e);
          })

      pub accepted_by : (b : Bool) → b ≡ is_ok r → Distinct (samples_from current ws 0 n) → CodesInRange (samples_from current ws 0 m)
          → (b ≡ true) ↔ Acceptable x ws octant_length n
      accepted_by true e d i = all_accepted d i (accepted_numbered r (sym e))
      accepted_by false e d i = octants_over (not_accepted_numbered r (sym e))

  -- The same for the places that are lent for n entries, k of them.
  pub accepted_lent : (k : ℕ) (q : Bool) → n ≡ k → (q ≡ true) ↔ Acceptable x ws octant_length k → (q ≡ true) ↔ Acceptable x ws octant_length n
  accepted_lent k q lent told = subst (λ (j : ℕ). (q ≡ true) ↔ Acceptable x ws octant_length j) (sym lent) told

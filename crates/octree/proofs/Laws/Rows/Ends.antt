-- What passing all rows of an octant comes to: they are written, or compared.
use Prim.Native.Nat.{ℕ, ◌*◌}
use mathlib.Core.List.{List, ◌++◌}
use mathlib.Core.Path.{◌≡◌, refl, sym, ap, ◌∙◌}
use native.Mathlib.Omega.{arith}
use lib.ListN.{length, take, drop}
use Rattle.std.specs.Prelude.{Option, Some, None, IfSome, is_some}
use Rattle.std.specs.Option.{unwrap_or}
use Rattle.model.specs.Layout.{current, octant_width}
use Rattle.model.specs.SampleSet.{octants_of}
use Rattle.model.proofs.Tables.Size.{octant_rows_length}
use Rattle.order.specs.Entries.{view}
use Rattle.octree.specs.Passes.{Put, Compared}
use Rattle.octree.specs.Steps.{rows_of, RowsTold}

module _ (b left number : ℕ) (es : List ℕ) where
  words : length (rows_of b left number es) ≡ octant_width current * octants_of b left (view es)
  words = octant_rows_length current b left number (view es)

  -- Rows that are written are at the front of those that were lent.
  pub ends_written : {before after whole : List ℕ} (r : Option ℕ) → whole ≡ after → IfSome r (λ n. n ≡ octants_of b left (view es))
      → Put before 0 (rows_of b left number es) (is_some r) after
      → whole ≡ rows_of b left number es ++ drop (octant_width current * unwrap_or r 0) before
  ends_written {before} (Some n) e count put =
      e
      ∙ put.is
      ∙ ap (λ (m : ℕ). rows_of b left number es ++ drop m before)
      (omega (arith, words) ∙ ap (λ (m : ℕ). octant_width current * m) (sym count))
  ends_written None e count put = let z : ◌≡◌ {A = ℕ} 0 1 = let no = put.says in cc in absurd (omega arith)

  -- Rows that are compared are told.
  pub ends_told : {before after : List ℕ} (r : Option ℕ) → IfSome r (λ n. n ≡ octants_of b left (view es)) → Compared before 0 (rows_of b left number es) (is_some r) after
      → RowsTold b left number es before r
  ends_told {before} (Some n) count compared = record {
    same = λ m h. let d : n ≡ m = cc in (sym d ∙ count, ap (λ (k : ℕ). take (octant_width current * k) before) (sym d ∙ count) ∙ rw words at compared.says.0 refl);
    complete = λ h. ap Some count;
  }
  ends_told None count compared = record {
    same = λ m h. let z : ◌≡◌ {A = ℕ} 0 1 = cc in absurd (omega arith);
    complete = λ h. let no = compared.says.1 (rw words h) in let z : ◌≡◌ {A = ℕ} 0 1 = cc in absurd (omega arith);
  }

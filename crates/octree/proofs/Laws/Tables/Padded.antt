-- Tables as their named words and 0 after them.
use Prim.Native.Nat.{ℕ, ◌-◌, ◌≤◌}
use mathlib.Core.List.{List, ◌++◌}
use mathlib.Core.Logic.{◌↔◌}
use mathlib.Core.Path.{◌≡◌, sym, ap, ap₂, ◌∙◌, subst}
use native.Mathlib.Omega.{arith}
use borrow.Rule.Slice.PartMut.{put_mid}
use lib.ListN.{length, take, drop, replicate, length-append, length-drop, take-append-drop, length-replicate}
use lib.Seq.{take_at, length-take-le, drop_at}
use Rattle.sheet.proofs.Laws.Parts.{part_tail, put_tail}
use Rattle.model.specs.Lists.{padded}
use Rattle.words.proofs.Laws.Words.{Zero}

-- The words from place k on are 0.
abbrev pub ZeroFrom : ℕ → List ℕ → Type 0
ZeroFrom k ws = Zero (drop k ws)

-- A table is given by its named words, and 0 after them.
module _ (len : ℕ) (named ws : List ℕ) (whole : length ws ≡ len) (k : ℕ) (many : length named ≡ k) where
  pub named_padded : take k ws ≡ named → ZeroFrom k ws → ws ≡ padded len named
  unfolding padded
  named_padded front rest =
      let left : length (drop k ws) ≡ len - length named = length-drop k ws ∙ omega (arith, whole, many) in
      sym (take-append-drop k ws) ∙ ap₂ (λ (u v : List ℕ). u ++ v) front (rest ∙ ap (λ (n : ℕ). replicate n 0) left)

  pub padded_named : ws ≡ padded len named → (take k ws ≡ named) × ZeroFrom k ws
  unfolding padded
  padded_named e =
      let rest : drop k ws ≡ replicate (len - length named) 0 = ap (drop k) e ∙ drop_at named (replicate (len - length named) 0) k many in (
        ap (take k) e ∙ take_at named (replicate (len - length named) 0) k many,
        rest ∙ ap (λ (n : ℕ). replicate n 0) (sym (ap length rest ∙ length-replicate (len - length named) 0)),
      )

-- A table whose words from place k on are set to 0.
module _ (ws zeros : List ℕ) (k : ℕ) (in_table : k ≤ length ws) (cleared : zeros ≡ replicate (length (take (length ws - k) (drop k ws))) 0) where
  pub zeroed_front : take k (put_mid k (length ws - k) ws zeros) ≡ take k ws
  zeroed_front = ap (take k) (put_tail k ws zeros) ∙ take_at (take k ws) zeros k (length-take-le k ws in_table)

  zeroed_rest : drop k (put_mid k (length ws - k) ws zeros) ≡ zeros
  zeroed_rest = ap (drop k) (put_tail k ws zeros) ∙ drop_at (take k ws) zeros k (length-take-le k ws in_table)

  pub zeroed : ZeroFrom k (put_mid k (length ws - k) ws zeros)
  zeroed =
      let n : ℕ = length (take (length ws - k) (drop k ws)) in
      zeroed_rest ∙ cleared ∙ ap (λ (m : ℕ). replicate m 0) (sym (ap length (zeroed_rest ∙ cleared) ∙ length-replicate n 0))

  pub zeroed_length : length (put_mid k (length ws - k) ws zeros) ≡ length ws
  zeroed_length =
      ap length (put_tail k ws zeros)
      ∙ length-append (take k ws) zeros
      ∙ omega (
        arith,
        length-take-le k ws in_table,
        ap length cleared,
        length-replicate {A = ℕ} (length (take (length ws - k) (drop k ws))) 0,
        ap length (part_tail ws k),
        length-drop k ws,
      )

-- The words of a part to the end of a table are 0.
pub rest_zero : (ws : List ℕ) (k : ℕ) → Zero (take (length ws - k) (drop k ws)) ↔ ZeroFrom k ws
rest_zero ws k = (subst Zero (part_tail ws k), subst Zero (sym (part_tail ws k)))

-- `lines::put_refusal`: the word, the number, a newline.
use Prim.Native.Nat.{ℕ, ◌-◌}
use mathlib.Core.List.{List, [], ◌∷◌, ◌++◌}
use mathlib.Core.Path.{◌≡◌, refl, ap, ◌∙◌}
use lib.ListN.{length, take, replicate}
use Rattle.sheet.specs.Column.{blank}
use native.Mathlib.Omega.{arith}
use lib.Seq.{length-take-le}
use Rattle.tag_list.proofs.Laws.Lines.{refusal_put}
use Rattle.tag_list.proofs.lines.put_refusal.Goals as goal

pub returns : goal.returns
returns c =
    let name = c.put_left in
    let word : List ℕ = 82 ∷ 69 ∷ 70 ∷ 85 ∷ 83 ∷ 69 ∷ 68 ∷ [] in
    let size : length (take 7 c.args.text.now) ≡ 7 = length-take-le 7 c.args.text.now (omega (arith, c.requires)) in
    refusal_put c.args.text.now _ name.new.place _ _ c.requires (name.ensures ∙ ap (λ (k : ℕ). word ++ replicate (k - 7) blank) size) refl c.put_number_line.ensures

-- `print::print`: the sheet is cut and loaded; then the refusal is written, or the tags.
use Prim.Native.Nat.{ℕ}
use mathlib.Core.List.{◌++◌}
use mathlib.Core.Path.{ap, ◌∙◌}
use native.Mathlib.Omega.{arith}
use lib.ListN.{drop}
use Rattle.model.specs.Walklist.{refused_line}
use Rattle.tag_list.proofs.Laws.Loading.{loaded_fits}
use Rattle.tag_list.proofs.Laws.Printing.{cut_loaded, refusal_printed, tags_printed}
use borrow.Author.Rules.{rules}
use Rattle.tag_list.proofs.print.print.Goals as goal

pub put_order-requires : goal.put_order-requires
put_order-requires c =
    (loaded_fits _ _ _ c.load_sheet.ensures, search rules)

pub returns-then-number-ne0 : goal.returns-then-number-ne0
returns-then-number-ne0 c =
    let number = c.load_number-number.ensures in
    refusal_printed _ _ _ (cut_loaded _ _ _ _ c.min-end.ensures c.load_sheet.ensures) (λ z. absurd (omega (arith, number, z, c.if-number-ne0.true))) _ _
    (c.put_refusal.ensures ∙ ap (λ (n : ℕ). refused_line n ++ drop 11 c.args.text.now) number)

pub returns : goal.returns
returns c =
    tags_printed _ _ _ (cut_loaded _ _ _ _ c.min-end.ensures c.load_sheet.ensures) (omega (arith, c.load_number-number.ensures, c.if-number-ne0.false))
    _ _ _ c.put_order.ensures

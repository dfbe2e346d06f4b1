-- `text::blanks`: before the first byte found stand the blanks.
use Rattle.std.proofs.Common.{rules, ◌≡◌, nat_eq}
use Rattle.std.proofs.lemmas.Iterator.{YieldsList-from_slice}
use Rattle.std.proofs.lemmas.Iterator.Search.{position_from_yields_List}
use Rattle.std.specs.Prelude.{not, position}
use borrow.Author.Tests.{tests}
use Rattle.sheet.specs.Column.{blank}
use Rattle.sheet.proofs.Laws.Text.{blanks_first}
use Rattle.sheet.proofs.text.blanks.Goals as goal

pub returns : goal.returns
unfolding blank
returns c =
    let found : c.position.result ≡ position (λ x. not (nat_eq x 32)) c.args.text.now =
    position_from_yields_List (λ x. not (nat_eq x 32)) _ _ c.position.result c.position.ensures.ran
    (YieldsList-from_slice _ c.iter.ensures.rest) (λ x b q k. search (rules, tests)) in
    rw (c.unwrap_or.ensures, found) (blanks_first c.args.text.now)

-- `text::name_bytes`: before the first byte found stand the name bytes.
use Rattle.std.proofs.Common.{rules, ◌≡◌}
use Rattle.std.proofs.lemmas.Iterator.{YieldsList-from_slice}
use Rattle.std.proofs.lemmas.Iterator.Search.{position_from_yields_List}
use Rattle.std.specs.Prelude.{not, position}
use Rattle.std.specs.Char.{is_ascii_graphic}
use borrow.Author.Tests.{tests}
use Rattle.sheet.specs.Column.{between}
use Rattle.sheet.specs.Line.{name_byte}
use Rattle.sheet.proofs.Laws.Text.{names_first}
use Rattle.sheet.proofs.text.name_bytes.Goals as goal

pub returns : goal.returns
unfolding name_byte between
returns c =
    let found : c.position.result ≡ position (λ x. not (is_ascii_graphic x)) c.args.text.now =
    position_from_yields_List (λ x. not (is_ascii_graphic x)) _ _ c.position.result c.position.ensures.ran
    (YieldsList-from_slice _ c.iter.ensures.rest) (λ x b q k. search (rules, tests)) in
    rw (c.unwrap_or.ensures, found) (names_first c.args.text.now)

-- `visit::found_of`: by whether it is closer than the limit, and whether the row is one of the table's.
use native.Mathlib.Omega.{arith}
use borrow.Author.Tests.{lt-ltb, le-ltb}
use lib.ListN.{length}
use Rattle.model.specs.Layout.{current, sample_rows}
use Rattle.words.specs.Rows.{sample_in}
use Rattle.nearest.specs.Best.{best_of}
use Rattle.nearest.specs.Steps.{search_in}
use Rattle.nearest.proofs.Laws.Limits.{found_near, found_none}
use Rattle.nearest.proofs.visit.found_of.Goals as goal

pub returns-then-limit-search : goal.returns-then-limit-search
returns-then-limit-search c = found_none _ _ _ c.if-limit-search.true

pub returns-then-row-sample_rows : goal.returns-then-row-sample_rows
unfolding best_of sample_in
returns-then-row-sample_rows c =
    found_near c.args.samples.now c.args.limit (search_in c.args.search.now).kept c.if-limit-search.false
    (rw (c.tag.ensures, lt-ltb c.args.search.now.row (sample_rows current (length c.args.samples.now)) (omega arith), best_of))

pub returns : goal.returns
unfolding best_of
returns c =
    found_near c.args.samples.now c.args.limit (search_in c.args.search.now).kept c.if-limit-search.false
    (rw (le-ltb c.args.search.now.row (sample_rows current (length c.args.samples.now)) (omega arith), best_of))

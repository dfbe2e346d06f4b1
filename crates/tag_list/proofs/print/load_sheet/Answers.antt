-- `print::load_sheet`: the clear starts the machine, and the load is a step of it.
use mathlib.Core.Path.{refl}
use Rattle.model.specs.Machine.{load_answer}
use Rattle.samples.specs.Answers.{loaded_answer}
use Rattle.tag_list.proofs.Laws.Loading.{sheet_loaded}
use Rattle.tag_list.proofs.print.load_sheet.Goals as goal

pub returns : goal.returns
unfolding loaded_answer load_answer
returns c =
    sheet_loaded c.args.samples.now c.args.octants.now c.requires.0 c.requires.1 c.args.sheet.now _ _ _ _ _
    c.clear.ensures
    c.load.ensures refl

-- `hbx_near`: what nearest and tell_near ensure.
use mathlib.Core.Path.{refl}
use Rattle.model.specs.Meets.{lists}
use Rattle.hubeltxa.proofs.Laws.Told.{near_told, told_meets}
use Rattle.hubeltxa.proofs.hbx_near.Goals as goal

pub returns : goal.returns
unfolding lists
returns c =
    let a = c.nearest-reply in
    let same = near_told _ _ refl a.result _ _ _ _ c.tell_near.ensures a.ensures.meets in record { meets = λ l. (told_meets _ l _ _ _ (same l) (a.ensures.meets l) (a.ensures.bounds l)).0; bounds = λ l. (told_meets _ l _ _ _ (same l) (a.ensures.meets l) (a.ensures.bounds l)).1; bit = c.tell_near.ensures.bit }

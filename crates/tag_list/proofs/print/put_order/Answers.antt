-- `print::put_order`: all samples are listed, and a line is written for each.
use mathlib.Core.Path.{refl, sym, ap₂}
use Rattle.colour.specs.declared.Region.TheVariants.{Box}
use Rattle.model.specs.Tables.{pair}
use Rattle.model.specs.Sound.{long_enough}
use Rattle.model.proofs.Machine.Day.{sound_long}
use Rattle.octree.proofs.Laws.Tables.Check.{both_long}
use Rattle.tag_list.specs.Printed.{Fits}
use Rattle.tag_list.proofs.Laws.Order.{Ordered, listed_ordered, never_refused}
use Rattle.tag_list.proofs.Laws.Printing.{order_printed}
use Rattle.tag_list.proofs.print.put_order.Goals as goal
use Rattle.tag_list.proofs.print.put_order.Goals.{In-Ok}

pub invariant_of-list : goal.invariant_of-list
unfolding Fits long_enough
invariant_of-list c =
    let a = c.args in
    let sound = c.requires.0.0 in
    let both = both_long a.samples.now a.octants.now (sound_long sound.machine (pair a.samples.now a.octants.now) sound.shows) in
    record { samples_headed = both.0; octants_headed = both.1 }

-- The listing after it.
ordered : (c : In-Ok) → Ordered (pair c.args.samples.now c.args.octants.now) c.list.new.listing c.in-Ok.counts.listed
ordered c =
    listed_ordered (pair c.args.samples.now c.args.octants.now) c.requires.0 _ (ap₂ Box c.all.ensures c.all-2.ensures) _ _ refl c.list.result c.list.ensures _ c.in-Ok.is

pub slice_bounds-tags-end : goal.slice_bounds-tags-end
slice_bounds-tags-end c = (ordered (goal.at.slice_bounds-tags-end c).In-Ok).within

pub slice_bounds-put_tags-end : goal.slice_bounds-put_tags-end
slice_bounds-put_tags-end c = sym (ordered (goal.at.slice_bounds-put_tags-end c).In-Ok).size

pub returns : goal.returns
returns c = order_printed _ _ _ _ _ (ordered (goal.at.returns c).In-Ok) c.put_tags.ensures

pub returns-in_default : goal.returns-in_default
unfolding Fits
returns-in_default c =
    absurd (never_refused (pair c.args.samples.now c.args.octants.now) c.requires.0 _ (ap₂ Box c.all.ensures c.all-2.ensures) _ _ refl c.list.result c.list.ensures _ c.in_default.is)

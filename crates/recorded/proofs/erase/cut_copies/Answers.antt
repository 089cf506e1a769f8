-- The lent state is lost before a cut is judged.
use mathlib.Core.Path.{◌∙◌}
use Rattle.bounded.specs.Limits.{two_widths}
use Rattle.sizes.proofs.SizesLaws.{width_most}
use Rattle.record.specs.Flash.{flash}
use Rattle.recorded.specs.Buffers.{lent_length, state_most}
use Rattle.recorded.specs.StepLaws.{cuts_wiped}
use Rattle.recorded.proofs.erase.cut_copies.Goals as goal

pub invariant_of-before : goal.invariant_of-before
invariant_of-before c = let p = c.requires in record { narrow = width_most _ p.fits_in.allowed; filled_all = p.pages_in_bounds }

pub returns : goal.returns
returns c = let a = c.args in
    let fits = c.requires.fits_in in
    let size = lent_length _ 1024 (state_most _ _ fits) ∙ fits.state_sized in
    cuts_wiped two_widths a.sizes (flash a.words.now a.contents.now) a.fills.now a.list.now _ a.tally size c.cut_each_slot.ensures

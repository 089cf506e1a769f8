-- Refused, the buffers are as they came; else each is filled whole.
use Rattle.bounded.specs.Choice.{told}
use Rattle.outcome.specs.Result.{refused, done}
use Rattle.outcome.specs.declared.Refusal.TheVariants.{WrongSize}
use Rattle.sizes.proofs.SizesLaws.{width_most}
use Rattle.rules.proofs.laws.Volume.{fits_in_facts}
use Rattle.rules.specs.Format.{formatted_in, format_answer_in, format_outcome_in}
use Rattle.volume.proofs.format.Goals as goal

pub returns-then-not-fits : goal.returns-then-not-fits
unfolding format_answer_in format_outcome_in
returns-then-not-fits c = refused 0 0 _ _ WrongSize (let unfit = rw c.new-volume.ensures at (told c.fits.ensures c.if-not-fits.true) in rw unfit)

pub format_flash-requires : goal.format_flash-requires
format_flash-requires c = let f = fits_in_facts _ _ _ _ (rw c.new-volume.ensures at (told c.fits.ensures c.if-not-fits.false)) in
    record { words_len = f.flash_sized.words_sized; contents_len = f.flash_sized.contents_sized; width_bound = width_most _ f.allowed }

pub format_state-requires : goal.format_state-requires
format_state-requires c = (fits_in_facts _ _ _ _ (rw c.new-volume.ensures at (told c.fits.ensures c.if-not-fits.false))).state_sized

pub returns : goal.returns
unfolding formatted_in format_answer_in format_outcome_in
returns c = rw
    (c.format_flash.ensures.words_after, c.format_flash.ensures.contents_after, c.format_state.ensures)
    (done 0 0 _ _ (let fit = rw c.new-volume.ensures at (told c.fits.ensures c.if-not-fits.false) in rw fit))

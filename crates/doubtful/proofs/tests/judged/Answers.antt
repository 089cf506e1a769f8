use native.Mathlib.Omega.{arith}
use Rattle.bounded.specs.Choice.{told}
use Rattle.upkeep.proofs.laws.Fillings.{fits_facts}
use Rattle.doubtful.proofs.tests.judged.Goals as goal

pub table_sound-requires : goal.table_sound-requires
table_sound-requires c = let w = (fits_facts _ _ _ _ (told c.fits.ensures c.if-not-fits.false)).flash_sized.words_sized in omega arith

pub list_ok-requires : goal.list_ok-requires
list_ok-requires c = let f = fits_facts _ _ _ _ (told c.fits.ensures c.if-not-fits.false) in
    let w = f.flash_sized.words_sized in
    record { slots_bound = f.bounds.slots_most; slots_in_bounds = omega arith }

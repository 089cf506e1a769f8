use native.Mathlib.Omega.{arith}
use mathlib.Core.Path.{sym, ◌∙◌}
use Rattle.bounded.specs.Choice.{told}
use Rattle.bounded.specs.Limits.{two_widths}
use Rattle.rules.specs.Volume.{volume}
use Rattle.rules.proofs.laws.Volume.{fits_facts}
use Rattle.recovery.specs.Answers.{recover_fits, sizes_wrong, slot_unsound_lem, records_conflict, outcome_by_records, recover_outcome_lem}
use Rattle.recovery.proofs.recover.Goals as goal

pub returns-then-not-fits : goal.returns-then-not-fits
returns-then-not-fits c = let a = c.args in
    sizes_wrong _ _ _ _ _ _ _ (rw c.new-volume.ensures at (told c.fits.ensures c.if-not-fits.true))
    ∙ sym (recover_outcome_lem two_widths a.sizes (volume a.words.now a.contents.now a.state.now))

pub table_sound-requires : goal.table_sound-requires
table_sound-requires c = (recover_fits _ _ _ (rw c.new-volume.ensures at (told c.fits.ensures c.if-not-fits.false))).slots_in_lem

pub returns-then-not-table_sound : goal.returns-then-not-table_sound
returns-then-not-table_sound c = let a = c.args in
    slot_unsound_lem _ _ _ _ _ _ _ (rw c.new-volume.ensures at (told c.fits.ensures c.if-not-fits.false)) (told c.table_sound.ensures c.if-not-table_sound.true)
    ∙ sym (recover_outcome_lem two_widths a.sizes (volume a.words.now a.contents.now a.state.now))

pub some_conflict-requires : goal.some_conflict-requires
some_conflict-requires c = let f = fits_facts _ _ _ (rw c.new-volume.ensures at (told c.fits.ensures c.if-not-fits.false)) in
    let w = f.flash_sized.words_sized in
    let b = f.flash_sized.contents_sized in
    record { slots_in_bounds = omega arith; slots_in_bounds_2 = omega arith; slots_bound = f.bounds.slots_most }

pub returns-then-some_conflict : goal.returns-then-some_conflict
returns-then-some_conflict c = let a = c.args in
    records_conflict _ _ _ _ _ _ _ (rw c.new-volume.ensures at (told c.fits.ensures c.if-not-fits.false)) (told c.table_sound.ensures c.if-not-table_sound.false)
    (sym c.some_conflict.ensures ∙ c.if-some_conflict.true)
    ∙ sym (recover_outcome_lem two_widths a.sizes (volume a.words.now a.contents.now a.state.now))

pub invariant_of-table : goal.invariant_of-table
invariant_of-table c = let f = recover_fits _ _ _ (rw c.new-volume.ensures at (told c.fits.ensures c.if-not-fits.false)) in
    record { spans = f.slots_in_lem; pages_few = f.pages_most; slots_few = f.slots_most; sound = told c.table_sound.ensures c.if-not-table_sound.false }

pub recover_sound-requires : goal.recover_sound-requires
recover_sound-requires c = (recover_fits _ _ _ (rw c.new-volume.ensures at (told c.fits.ensures c.if-not-fits.false))).state_sized

pub returns : goal.returns
returns c = let a = c.args in
    c.recover_sound.ensures
    ∙ outcome_by_records _ _ _ _ _ _ _ (rw c.new-volume.ensures at (told c.fits.ensures c.if-not-fits.false)) (told c.table_sound.ensures c.if-not-table_sound.false)
    (sym c.some_conflict.ensures ∙ c.if-some_conflict.false)
    ∙ sym (recover_outcome_lem two_widths a.sizes (volume a.words.now a.contents.now a.state.now))

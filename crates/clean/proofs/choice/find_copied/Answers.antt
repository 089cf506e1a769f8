-- The table is of the volume, and the marks stand for the block.
use native.Mathlib.Omega.{arith}
use Rattle.clean.proofs.choice.find_copied.Goals as goal

pub prepare-table-requires : goal.prepare-table-requires
prepare-table-requires c = let p = c.requires in record { linkable = p.flash_sound.linkable; pages_in_bounds = p.pages_in_lem }

pub mark_block-requires : goal.mark_block-requires
mark_block-requires c = let p = c.requires in
    let few = p.flash_sound.linkable.slots_few in
    let i = p.block_in.inside in
    record { ordered = p.block_in.ordered; inside = omega arith }

pub note_copied-requires : goal.note_copied-requires
note_copied-requires c = let p = c.requires in
    let t = c.prepare-table.ensures in
    record { all_found = t.all_found; block_marked = c.mark_block.ensures; block_in = rw t.same_sizes p.block_in }

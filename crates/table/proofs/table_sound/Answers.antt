use native.Mathlib.Omega.{arith}
use mathlib.Core.Path.{◌≡◌, sym, ap, ◌∙◌}
use Rattle.bounded.specs.BelowLaws.{all_zero, all_more, all_fails}
use Rattle.bounded.specs.Choice.{told}
use Rattle.record.specs.Slot.{slot_sound}
use Rattle.table.specs.Table.{table_sound}
use Rattle.table.proofs.table_sound.Goals as goal

pub loop-k-init : goal.loop-k-init
loop-k-init c = all_zero _

pub returns-then-not-slot_sound : goal.returns-then-not-slot_sound
unfolding table_sound
returns-then-not-slot_sound c = let a = c.args in
    sym (all_fails _ _ c.loop-k.k (omega arith) (told (c.slot_sound.ensures ∙ ap (slot_sound a.sizes.pages) c.slot_in.ensures) c.if-not-slot_sound.true))

pub loop-k-preserved : goal.loop-k-preserved
loop-k-preserved c = let a = c.args in
    all_more _ _ c.loop-k.invariant (told (c.slot_sound.ensures ∙ ap (slot_sound a.sizes.pages) c.slot_in.ensures) c.if-not-slot_sound.false)

pub returns : goal.returns
unfolding table_sound
returns c = let l = c.loop-k in
    let e : l.k ≡ c.args.sizes.slots = omega arith in
    sym (rw e at l.invariant)

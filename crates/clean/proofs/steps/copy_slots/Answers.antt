use Prim.Native.Nat.{◌≤◌}
use native.Mathlib.Omega.{arith}
use lib.ListN.{length}
use Rattle.std.proofs.Common.{⊎_elim}
use Rattle.std.specs.Iterator.Adapters.{zip_first}
use Rattle.std.specs.Slice.Iter.{iter_rest}
use Rattle.bounded.specs.PartsLaws.{part_inside}
use Rattle.clean.specs.Copying.{source_below, target_below, copying_more, copying_ends}
use Rattle.clean.proofs.steps.copy_slots.Goals as goal

pub copy_slot-requires : goal.copy_slot-requires
copy_slot-requires c = let a = c.args in
    let h = c.in-Some.ensures.steps in
    let sized = c.loop-source.invariant.ready.size in
    let words_sized = sized.words_sized in
    let contents_sized = sized.contents_sized in
    let s = source_below _ _ _ _ _ _ c.in-Some.field-0-0.now c.in-Some.field-0-1.now h.0 h.1 c.loop-source.invariant in
    let t = target_below _ _ _ _ _ _ c.in-Some.field-0-0.now c.in-Some.field-0-1.now h.0 h.1 c.loop-source.invariant in
    let i = part_inside a.sizes.width a.sizes.slots c.in-Some.field-0-0.now s in
    let j = part_inside a.sizes.width a.sizes.slots c.in-Some.field-0-1.now t in
    rw (c.from.ensures, c.from-in-loop-source.ensures) (record { from_in_bounds = omega arith; to_in_bounds = omega arith; width_in_bounds = omega arith; width_in_bounds_2 = omega arith; width_bound = c.requires.width_bound })

pub loop-source-preserved : goal.loop-source-preserved
loop-source-preserved c = let h = c.in-Some.ensures.steps in
    copying_more _ _ _ _ _ _ c.in-Some.field-0-0.now c.in-Some.field-0-1.now h.0 h.1 c.loop-source.invariant (rw (← c.from.ensures, ← c.from-in-loop-source.ensures) c.copy_slot.ensures)

pub returns : goal.returns
returns c = let i = c.loop-source.invariant in
    let none : length (iter_rest (zip_first c.loop-source.source-iterator)) ≤ 0 = ⊎_elim (λ w. omega (arith, w.1.0)) (λ w. omega (arith, w.1.0, i.room)) c.in-None.ensures.steps in
    copying_ends _ _ _ _ _ _ _ _ i (omega arith)

use native.Mathlib.Omega.{arith}
use mathlib.Core.Path.{◌≡◌, sym}
use lib.ListN.{length}
use Rattle.bounded.specs.BelowLaws.{all_zero, all_more, all_fails}
use Rattle.bounded.specs.Choice.{told}
use Rattle.rules.specs.Simple.{simple_may_erase_all}
use Rattle.permit.proofs.simple.may_erase_all.Goals as goal

pub loop-slot-init : goal.loop-slot-init
loop-slot-init c = all_zero _

pub returns-then-not-may_erase : goal.returns-then-not-may_erase
unfolding simple_may_erase_all
returns-then-not-may_erase c = sym (all_fails _ _ c.loop-slot.slot-index c.loop-slot-test.true (told c.may_erase.ensures c.if-not-may_erase.true))

pub loop-slot-preserved : goal.loop-slot-preserved
loop-slot-preserved c = all_more _ _ c.loop-slot.invariant (told c.may_erase.ensures c.if-not-may_erase.false)

pub returns : goal.returns
unfolding simple_may_erase_all
returns c = let l = c.loop-slot in
    let e : l.slot-index ≡ length c.args.list.now = omega arith in
    sym (rw e at l.invariant)

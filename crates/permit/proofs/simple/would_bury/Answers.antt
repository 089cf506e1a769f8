use native.Mathlib.Omega.{arith}
use mathlib.Core.Path.{sym, ap, ◌∙◌}
use Rattle.bounded.specs.BelowLaws.{some_zero, some_more}
use Rattle.sizes.specs.declared.Layout.TheVariants.{FourWords}
use Rattle.record.specs.Slot.{slot_in}
use Rattle.state.specs.declared.PageState.{PageState}
use Rattle.state.specs.State.{state_at}
use Rattle.permit.specs.SimpleLaws.{some_buried, none_buried}
use Rattle.permit.proofs.simple.would_bury.Goals as goal

pub loop-k-init : goal.loop-k-init
loop-k-init c = some_zero _

pub returns-then-buries_slot : goal.returns-then-buries_slot
returns-then-buries_slot c = let a = c.args in
    sym (some_buried a.sizes.slots (slot_in FourWords a.words.now) (state_at a.state.now) a.page _ (ap (λ (s : PageState). s.used) c.page_at-version.ensures) c.loop-k.k c.loop-k-test.true (sym c.buries_slot.ensures ∙ c.if-buries_slot.true))

pub loop-k-preserved : goal.loop-k-preserved
loop-k-preserved c = some_more _ _ c.loop-k.invariant (sym c.buries_slot.ensures ∙ c.if-buries_slot.false)

pub returns : goal.returns
returns c = let l = c.loop-k in
    let a = c.args in
    sym (none_buried a.sizes.slots (slot_in FourWords a.words.now) (state_at a.state.now) a.page _ (ap (λ (s : PageState). s.used) c.page_at-version.ensures) l.k (omega arith) l.invariant)

use mathlib.Core.Path.{sym, ap, ap₂, ◌∙◌}
use mathlib.Core.Bool.{Bool}
use borrow.Author.Tests.{lt-ltb, le-ltb}
use Rattle.outcome.specs.Outcome.{◌⇒◌otherwise◌}
use Rattle.outcome.specs.Result.{given_back, refuses, passes}
use Rattle.record.specs.SlotLaws.{none_blank}
use Rattle.record.specs.Slot.{is_blank}
use Rattle.table.proofs.Inside.{slot_inside}
use Rattle.rules.specs.laws.Chains.{page_answer, write_own}
use Rattle.transact.proofs.may_store.Goals as goal
use Rattle.transact.proofs.may_store.Goals.{then-page-volume-via-then-page-volume, then-page-volume-via-else-page-volume+then-slot-volume}

pub returns-then-page-volume : goal.returns-then-page-volume
unfolding write_own
returns-then-page-volume c = elim c.then-page-volume.branch [
  | then-page-volume-via-then-page-volume w ↦ rw (le-ltb _ _ w.if-page-volume.true)
  | then-page-volume-via-else-page-volume+then-slot-volume w ↦ rw (lt-ltb _ _ w.if-page-volume.false, le-ltb _ _ w.if-slot-volume.true)
]

pub slot_in-requires : goal.slot_in-requires
slot_in-requires c = slot_inside _ _ _ _ c.requires.spans.slots_in_lem c.if-slot-volume.false

pub returns-in_err-may_go : goal.returns-in_err-may_go
unfolding write_own
returns-in_err-may_go c = let e = ap₂ page_answer c.page_at.ensures ((none_blank _ _ c.is_none.ensures) ∙ ap is_blank c.slot_in.ensures) in
    rw (given_back c.from_residual.result c.from_residual.ensures.1, lt-ltb _ _ c.if-page-volume.false, lt-ltb _ _ c.if-slot-volume.false) (refuses _ _ (c.in_err-may_go.ensures ∙ e))

pub returns-then-would_bury : goal.returns-then-would_bury
unfolding write_own
returns-then-would_bury c = let e = ap₂ page_answer c.page_at.ensures ((none_blank _ _ c.is_none.ensures) ∙ ap is_blank c.slot_in.ensures) in
    rw (lt-ltb _ _ c.if-page-volume.false, lt-ltb _ _ c.if-slot-volume.false)
    (passes 16 (c.in_ok-may_go.ensures ∙ e) (ap (λ (b : Bool). b ⇒ 16 otherwise 0) (sym c.if-would_bury.true ∙ c.would_bury.ensures)))

pub returns : goal.returns
unfolding write_own
returns c = let e = ap₂ page_answer c.page_at.ensures ((none_blank _ _ c.is_none.ensures) ∙ ap is_blank c.slot_in.ensures) in
    rw (lt-ltb _ _ c.if-page-volume.false, lt-ltb _ _ c.if-slot-volume.false)
    (passes 0 (c.in_ok-may_go.ensures ∙ e) (ap (λ (b : Bool). b ⇒ 16 otherwise 0) (sym c.if-would_bury.false ∙ c.would_bury.ensures)))

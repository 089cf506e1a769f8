-- The old rule settles it, or the twins do.
use mathlib.Core.Path.{sym, ◌∙◌}
use Rattle.record.specs.Slot.{slot_at}
use Rattle.record.specs.Flash.{flash}
use Rattle.state.specs.State.{state_at}
use Rattle.twins.specs.Twins.{twins}
use Rattle.rules.specs.Permission.{twin_outside}
use Rattle.rules.specs.Found.{by_found}
use Rattle.judge.specs.Marked.{marked}
use Rattle.judge.specs.JudgeLaws.{by_old_rule, by_twin}
use Rattle.judge.proofs.Evidence.may_erase_from.Goals as goal

pub returns-then-may_erase : goal.returns-then-may_erase
returns-then-may_erase c = c.if-may_erase.true ∙ sym (by_old_rule _ _ _ _ _ _ _ (sym c.may_erase.ensures ∙ c.if-may_erase.true))

pub returns-else-may_erase : goal.returns-else-may_erase
unfolding by_found twin_outside
returns-else-may_erase c = let e = c.args.self.now in
    c.twin_outside.ensures
    ∙ sym (by_twin e.table.sizes.slots (slot_at e.table.words.now) (state_at e.table.state.now) e.table.found.now (twins e.table.sizes.width (flash e.table.words.now e.contents.now)) (marked c.args.marks.now) c.args.slot
    (sym c.may_erase.ensures ∙ c.if-may_erase.false))

use native.Mathlib.Omega.{arith}
use Rattle.std.proofs.Common.{rules}
use Rattle.record.specs.Slot.{slot_at}
use Rattle.state.specs.State.{state_at}
use Rattle.upkeep.specs.Sweep.{is_spare_exposed}
use Rattle.sweep.proofs.choice.find_spare_exposed.Goals as goal

pub returns : goal.returns
returns c = let a = c.args in
    c.note_passing.ensures (is_spare_exposed (slot_at a.words.now) (state_at a.state.now)) (λ k h. absurd (omega arith)) (λ k b l h ran. search rules)

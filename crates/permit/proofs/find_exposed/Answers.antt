use native.Mathlib.Omega.{arith}
use Rattle.std.proofs.Common.{rules}
use Rattle.rules.specs.Found.{exposed_slots}
use Rattle.permit.specs.Prepared.{exposed_at}
use Rattle.permit.proofs.find_exposed.Goals as goal

pub returns : goal.returns
unfolding exposed_slots
returns c = let a = c.args in
    c.note_passing.ensures (exposed_at a.words.now a.state.now) (λ k h. absurd (omega arith)) (λ k b l h ran. search rules)

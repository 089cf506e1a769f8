-- The slots are chained.
use native.Mathlib.Omega.{arith}
use Rattle.std.proofs.Common.{rules}
use Rattle.record.specs.Flash.{flash}
use Rattle.twins.specs.Twins.{twins}
use Rattle.upkeep.specs.Sweep.{is_higher_twin}
use Rattle.sweep.proofs.choice.find_twins.Goals as goal

pub returns : goal.returns
returns c = let a = c.args in
    c.note_passing.ensures (is_higher_twin (twins a.sizes.width (flash a.words.now a.contents.now))) (λ k h. absurd (omega arith)) (λ k b l h ran. search rules)

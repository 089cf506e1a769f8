use native.Mathlib.Omega.{arith}
use mathlib.Core.Bool.{not, ◌&&◌}
use Rattle.std.proofs.Common.{rules}
use Rattle.sizes.specs.Blocks.{in_block}
use Rattle.record.specs.Slot.{slot_at, is_blank}
use Rattle.upkeep.specs.Clean.{blank_outside}
use Rattle.clean.proofs.choice.find_blank.Goals as goal

pub returns : goal.returns
unfolding blank_outside
returns c = let a = c.args in
    c.note_passing.ensures (λ k. is_blank (slot_at a.words.now k) && not (in_block a.block k)) (λ k h. absurd (omega arith)) (λ k b l h ran. search rules)

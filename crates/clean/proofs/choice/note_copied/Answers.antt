-- None in front of the block or behind it is copied.
use Prim.Native.Nat.{ℕ}
use mathlib.Core.Path.{◌∙◌, sym}
use mathlib.Core.Bool.{Bool}
use Rattle.std.proofs.Common.{rules}
use Rattle.bounded.specs.Noted.{list_goes_on}
use Rattle.sizes.specs.Blocks.{in_block}
use Rattle.sizes.proofs.BlocksLaws.{before_block, behind_block}
use Rattle.rules.specs.Permission.{scene_of}
use Rattle.upkeep.specs.Clean.{is_copied, clean_from, copied_slots}
use Rattle.judge.specs.Evidence.{volume_of}
use Rattle.clean.specs.Choosing.{outside_stays}
use Rattle.clean.proofs.choice.note_copied.Goals as goal

pub returns : goal.returns
unfolding clean_from copied_slots
returns c = let block = c.args.block in
    let e = c.args.evidence.now in
    let b = c.requires.block_in in
    let copied : ℕ → Bool = is_copied (scene_of e.table.sizes (volume_of e)) (in_block block) in
    c.note_passing.ensures copied (λ k h. outside_stays _ _ _ _ (in_block block) k (before_block block k h)) (λ k r l h ran. search rules)
    ∙ sym (list_goes_on copied block.end e.table.sizes.slots b.inside (λ k h l. outside_stays _ _ _ _ (in_block block) k (behind_block block k b.ordered h)))

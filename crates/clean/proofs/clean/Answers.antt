-- Refused: the answer and the buffers as they were. Accepted: what cleaning the block says and leaves.
use Prim.Native.Nat.{ℕ}
use mathlib.Core.Path.{ap₂, ◌∙◌}
use Rattle.outcome.specs.Outcome.{settled}
use Rattle.outcome.specs.Result.{given_back, refused, number_positive}
use Rattle.sizes.specs.declared.Block.{Block}
use Rattle.record.specs.Flash.{flash, apply_all}
use Rattle.rules.specs.Volume.{volume}
use Rattle.upkeep.specs.Clean.{clean_steps, clean_outcome}
use Rattle.clean.specs.CleanLaws.{judged_refuses, named_below, room_is_answer, cleanable}
use Rattle.clean.proofs.clean.Goals as goal

pub returns-in_err-judged : goal.returns-in_err-judged
unfolding clean_outcome
returns-in_err-judged c =
    rw (given_back c.from_residual.result c.from_residual.ensures.1) (refused 0 0 _ _ _ (judged_refuses _ _ _ _ c.in_err-judged.ensures (number_positive _)))

pub block_at-slots-requires : goal.block_at-slots-requires
block_at-slots-requires c = named_below _ _ _ _ c.in_ok-judged.ensures

pub clean_block-requires : goal.clean_block-requires
clean_block-requires c = cleanable _ _ _ _ _ c.in_ok-judged.ensures c.block_at-slots.ensures

pub shape_of-words : goal.shape_of-words
shape_of-words c = c.clean_block.auto.words

pub shape_of-contents : goal.shape_of-contents
shape_of-contents c = c.clean_block.auto.contents

pub returns : goal.returns
unfolding clean_outcome
returns c = let a = c.args in
    let f = flash a.words.now a.contents.now in
    let v = volume a.words.now a.contents.now a.state.now in
    c.clean_block.ensures
    ∙ ap₂ (λ (n : ℕ) (b : Block). settled n 0 0 f (apply_all a.sizes.width f (clean_steps a.sizes v b))) (room_is_answer _ _ _ _ c.in_ok-judged.ensures c.block_at-slots.ensures) c.block_at-slots.ensures

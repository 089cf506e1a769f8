use Rattle.std.proofs.Common.{rules}
use Rattle.clean.specs.BlockLaws.{filled_marks}
use Rattle.clean.proofs.blocks.mark_block.Goals as goal

pub returns : goal.returns
returns c = let b = c.args.block in
    filled_marks b 1024 c.requires (c.fill.ensures.after (λ y e. search rules))

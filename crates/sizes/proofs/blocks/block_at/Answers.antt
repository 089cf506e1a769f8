-- The block ends where the next one starts; the last ends at S.
use native.Mathlib.Omega.{arith}
use mathlib.Core.Path.{ap, ◌∙◌}
use Rattle.std.specs.Option.{unwrap_or}
use Rattle.sizes.proofs.BlocksLaws.{block_read}
use Rattle.sizes.proofs.blocks.block_at.Goals as goal

pub returns : goal.returns
returns c = let a = c.args in
    block_read a.slots a.starts.now a.block (c.unwrap_or.ensures ∙ ap (λ o. unwrap_or o a.slots) c.copied.ensures ∙ c.get.ensures.lookup.4 (omega arith) a.slots)

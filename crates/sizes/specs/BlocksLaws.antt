-- What the tests of a block table and of a block say, as facts. That they say them is proofs/BlocksLaws.antt.
use Rattle.std.specs.Prelude.{ℕ, suc, ◌≤◌, ◌<◌, ◌≡◌, List}
use Rattle.std.proofs.Math.ListN.{length, get_or}
use Rattle.sizes.specs.declared.Block.{Block}
use Rattle.sizes.specs.Blocks.{max_blocks}

-- "1 to 16 starts: the first is 0, they rise strictly, all are below S"
pub record StartsFacts (S : ℕ) (starts : List ℕ) : Type 0 where
  pub one_start : 1 ≤ length starts
  pub starts_most : length starts ≤ max_blocks
  pub first_zero : get_or starts 0 0 ≡ 0
  pub rise : (i : ℕ) → suc i < length starts → get_or starts i 0 < get_or starts (suc i) 0
  pub below : (i : ℕ) → i < length starts → get_or starts i 0 < S

-- ---- the block that a call names

-- a block's slots are among the S of the table
pub record BlockIn (S : ℕ) (block : Block) : Type 0 where
  pub ordered : block.first ≤ block.end
  pub inside : block.end ≤ S

-- What the blocks that are looked at free, by what was found, the best of them, and the size of the others.
use Rattle.std.specs.Prelude.{ℕ, List, Bool, cond, ◌&&◌, ltb, length}
use Rattle.bounded.specs.Below.{max_below, list_below}
use Rattle.bounded.specs.BelowLaws.{first_most}
use Rattle.sizes.specs.declared.Block.{Block}
use Rattle.sizes.specs.declared.Sizes.{Sizes}
use Rattle.sizes.specs.Blocks.{NamedBlock, block_at, in_block}
use Rattle.rules.specs.Permission.{scene_of, may_erase_alone}
use Rattle.rules.specs.Volume.{Volume}
use Rattle.rules.specs.Found.{by_found}
use Rattle.upkeep.specs.Pick.{seen_at, block_size}
use Rattle.pick.specs.declared.Freed.{Freed}

-- slot k may be erased, "a list of one", by what was found
unfoldable pub alone_by : Sizes → Volume → (found : List ℕ) → ℕ → Bool
alone_by sizes v found k = may_erase_alone (by_found (scene_of sizes v) found) k

-- what a block frees, by what was found
unfoldable pub frees_by : Sizes → Volume → (found : List ℕ) → Block → ℕ
frees_by sizes v found block = length (list_below sizes.slots (λ k. in_block block k && alone_by sizes v found k))

-- of the first `looked` blocks the one that frees most, the first of such, where block b frees f b
unfoldable pub best_by : NamedBlock → (looked : ℕ) → (f : NamedBlock → ℕ) → Freed
best_by block looked f = record { block = (seen_at block (first_most (λ i. f (seen_at block i)) looked)).number; frees = max_below looked (λ i. f (seen_at block i)) }

-- the size of the block that is seen when i others have been; 0 where it is one of the first `looked`
unfoldable pub unseen_by : (S : ℕ) → NamedBlock → (looked i : ℕ) → ℕ
unseen_by S block looked i = cond (ltb i looked) 0 (block_size (block_at S (seen_at block i)))

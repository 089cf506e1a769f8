-- The blocks that a flash chip erases whole, document 02, wish 8: a table "that they supply, 1 to 16 starts: the first is 0, they rise strictly, all are below S".
use Rattle.std.specs.Prelude.{ℕ, suc, ◌-◌, List, Bool, ◌&&◌, ltb, leb, eqb, length, get_or}
use Rattle.bounded.specs.Below.{all_below}
use Rattle.sizes.specs.declared.Block.{Block}
use Rattle.sizes.specs.Sizes.{in_range}

abbrev pub max_blocks : ℕ
max_blocks = 16

-- "they rise strictly": each but the last is below the next
unfoldable pub rises_strictly : List ℕ → Bool
rises_strictly starts = all_below (length starts - 1) (λ i. ltb (get_or starts i 0) (get_or starts (suc i) 0))

-- no "table that breaks these rules, its length included"
unfoldable pub starts_ok : (S : ℕ) → List ℕ → Bool
starts_ok S starts =
    leb 1 (length starts)
    && (leb (length starts) max_blocks
    && (eqb (get_or starts 0 0) 0
    && (rises_strictly starts
    && in_range S starts)))

-- a block as a call names it: the table that is lent with the call, and a number
pub record NamedBlock : Type 0 where
  pub starts : List ℕ
  pub number : ℕ

abbrev pub named : List ℕ → ℕ → NamedBlock
named starts number = record { starts = starts; number = number }

-- "Block numbers then run below its length; others are 6."
unfoldable pub block_ok : NamedBlock → Bool
block_ok block = ltb block.number (length block.starts)

-- the slots of a block that there is: from its start to before the next block's, of the last to before S
unfoldable pub block_at : (S : ℕ) → NamedBlock → Block
block_at S block = record { first = get_or block.starts block.number 0; end = get_or block.starts (suc block.number) S }

-- the slot is in the block
unfoldable pub in_block : Block → ℕ → Bool
in_block b k = leb b.first k && ltb k b.end

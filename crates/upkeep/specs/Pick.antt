-- The call pick, document 02, wish 9: the blocks that it looks at, what each frees, the one it names, and its outcome.
use Rattle.std.specs.Prelude.{ℕ, ◌+◌, ◌-◌, min, List, [], ◌∷◌, Bool, not, cond, ◌&&◌, ltb, eqb, length}
use Rattle.bounded.specs.Limits.{Widths}
use Rattle.bounded.specs.Below.{some_below, max_below, first_below, list_below}
use Rattle.outcome.specs.Outcome.{◌⇒◌otherwise◌, Outcome, settled}
use Rattle.sizes.specs.declared.Block.{Block}
use Rattle.sizes.specs.declared.Sizes.{Sizes}
use Rattle.sizes.specs.Blocks.{starts_ok, NamedBlock, named, block_ok, block_at, in_block}
use Rattle.state.specs.State.{state_sound}
use Rattle.table.specs.Table.{table_sound}
use Rattle.rules.specs.Volume.{Volume, volume_fits, slots_of, pages_of}
use Rattle.rules.specs.Suggest.{suggestible}

-- ---- the blocks that are looked at, of the table that is lent

-- "Starting from a named block and going round": the block that is seen when i others have been, i being below the table's length; block 0 follows on the last
unfoldable pub seen_at : NamedBlock → (i : ℕ) → NamedBlock
seen_at block i = named block.starts (cond (ltb (block.number + i) (length block.starts)) (block.number + i) (block.number + i - length block.starts))

-- "the blocks looked at (the smaller of n and the table's length)"
unfoldable pub looked_at : NamedBlock → (n : ℕ) → ℕ
looked_at block n = min n (length block.starts)

-- block k of the table is one of those
unfoldable pub is_seen : NamedBlock → (n : ℕ) → (k : ℕ) → Bool
is_seen block n k = some_below (looked_at block n) (λ i. eqb (seen_at block i).number k)

-- ---- what is returned

-- "the block, that number, the blocks looked at …, and how much an unseen block could beat it", which is its lead
pub record Pick : Type 0 where
  pub block : ℕ
  pub number : ℕ
  pub looked : ℕ
  pub lead : ℕ

-- "in four lent words"
abbrev pub four_words : Pick → List ℕ
four_words p = p.block ∷ p.number ∷ p.looked ∷ p.lead ∷ []

-- a block's size, in slots
unfoldable pub block_size : Block → ℕ
block_size b = b.end - b.first

module _ (sizes : Sizes) (v : Volume) where
  -- "Frees means its records that may be erased, judged one by one": each in a list of its own, as suggest judges
  unfoldable pub frees : NamedBlock → ℕ
  frees block = length (list_below sizes.slots (λ k. in_block (block_at sizes.slots block) k && suggestible sizes v k))

  module _ (block : NamedBlock) (n : ℕ) where
    -- "that number": what "the one that frees most" frees
    unfoldable pub most_freed : ℕ
    most_freed = max_below (looked_at block n) (λ i. frees (seen_at block i))

    -- "the one that frees most, the earliest seen on ties"
    unfoldable pub picked_block : NamedBlock
    picked_block = seen_at block (first_below (looked_at block n) (λ i. eqb (frees (seen_at block i)) most_freed))

    -- "the largest unseen block's size"; 0 where every block is seen
    unfoldable pub largest_unseen : ℕ
    largest_unseen = max_below (length block.starts) (λ k. cond (is_seen block n k) 0 (block_size (block_at sizes.slots (named block.starts k))))

    -- "how much an unseen block could beat it: the largest unseen block's size less the number, or 0": a difference of natural numbers is 0 where it would be less
    unfoldable pub unseen_lead : ℕ
    unseen_lead = largest_unseen - most_freed

    unfoldable pub pick_of : Pick
    pick_of = record { block = picked_block.number; number = most_freed; looked = looked_at block n; lead = unseen_lead }

-- ---- the call

-- "Refused: 18, n is 0, after 6; a start block at or past the table's length is 6; 1, 17, 2 and 5 as in cleaning"; lent words of another number than four are 1.
unfoldable pub pick_answer : Widths → Sizes → Volume → NamedBlock → (n : ℕ) (out : List ℕ) → ℕ
pick_answer widths sizes v block n out =
    not (volume_fits widths sizes v && eqb (length out) 4) ⇒ 1 otherwise
    not (starts_ok sizes.slots block.starts) ⇒ 17 otherwise
    not (table_sound sizes.pages sizes.slots (slots_of v)) ⇒ 2 otherwise
    not (state_sound sizes.pages (pages_of v)) ⇒ 5 otherwise
    not (block_ok block) ⇒ 6 otherwise
    eqb n 0 ⇒ 18 otherwise
    0

-- Accepted, it alters the four lent words alone.
unfoldable pub pick_outcome : Widths → Sizes → Volume → NamedBlock → (n : ℕ) (out : List ℕ) → Outcome (List ℕ)
pick_outcome widths sizes v block n out = settled (pick_answer widths sizes v block n out) 0 0 out (four_words (pick_of sizes v block n))

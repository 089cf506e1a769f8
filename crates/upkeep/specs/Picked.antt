-- What is shown of pick, document 02, wish 9, stated.
use Rattle.std.specs.Prelude.{ℕ, suc, ◌+◌, ◌<◌, ◌≤◌, min, ◌≡◌, ◌⊎◌, List, true, length}
use Rattle.bounded.specs.Limits.{Widths}
use Rattle.sizes.specs.declared.Sizes.{Sizes}
use Rattle.sizes.specs.Blocks.{NamedBlock, named, block_ok, block_at}
use Rattle.rules.specs.Volume.{Volume}
use Rattle.upkeep.specs.Pick.{Pick, four_words, seen_at, block_size, frees, pick_answer, pick_outcome}

-- ---- going round

-- The first block seen is the one named; on each follows the next of the table, and on the last block 0; and each block of the table is seen, once, by as many as it has.
pub record GoesRound (block : NamedBlock) : Type 0 where
  pub first : seen_at block 0 ≡ block
  pub next : (i : ℕ) → suc i < length block.starts → suc (seen_at block i).number < length block.starts → (seen_at block (suc i)).number ≡ suc (seen_at block i).number
  pub round : (i : ℕ) → suc i < length block.starts → suc (seen_at block i).number ≡ length block.starts → (seen_at block (suc i)).number ≡ 0
  pub each : (k : ℕ) → k < length block.starts → (i : ℕ) × (i < length block.starts) × (seen_at block i ≡ named block.starts k)
  pub once : (i j : ℕ) → i < length block.starts → j < length block.starts → seen_at block i ≡ seen_at block j → i ≡ j

abbrev pub GoingRound : Type 0
GoingRound = (block : NamedBlock) → block_ok block ≡ true → GoesRound block

-- ---- what is returned

-- of the blocks of a table, of which p says how many are looked at: the block that a pick names, the number that it frees, and the lead that an unseen block could have
pub record Picks (sizes : Sizes) (v : Volume) (block : NamedBlock) (p : Pick) : Type 0 where
  -- the block is one of those looked at, seen when `place` others have been, and frees the number
  pub place : ℕ
  pub place_below : place < p.looked
  pub is_there : named block.starts p.block ≡ seen_at block place
  pub frees_number : frees sizes v (seen_at block place) ≡ p.number
  -- none looked at frees more, and none seen earlier as much
  pub most : (i : ℕ) → i < p.looked → frees sizes v (seen_at block i) ≤ p.number
  pub earliest : (i : ℕ) → i < place → frees sizes v (seen_at block i) < p.number
  -- "no unseen block beats the number by more than that"
  pub unseen_most : (i : ℕ) → p.looked ≤ i → i < length block.starts → frees sizes v (seen_at block i) ≤ p.number + p.lead
  -- the lead is "the largest unseen block's size less the number, or 0": no unseen block is larger than the two together, and there is no lead, or one that is as large
  pub unseen_size_lem : (i : ℕ) → p.looked ≤ i → i < length block.starts → block_size (block_at sizes.slots (seen_at block i)) ≤ p.number + p.lead
  pub lead_met : (p.lead ≡ 0) ⊎ ((i : ℕ) × (p.looked ≤ i) × (i < length block.starts) × (block_size (block_at sizes.slots (seen_at block i)) ≡ p.number + p.lead))

-- of the four words that every accepted pick returns, of any volume, by any table of blocks and with any widths allowed: "the smaller of n and the table's length" are looked at, and with n at
-- or above that length there is no lead
abbrev pub Picked : Type 0
Picked =
    (widths : Widths) (sizes : Sizes) (v : Volume) (block : NamedBlock) (n : ℕ) (out : List ℕ)
    → pick_answer widths sizes v block n out ≡ 0
    → (p : Pick)
    × (pick_outcome widths sizes v block n out ≡ record { answer = 0; second = 0; left = four_words p })
    × Picks sizes v block p
    × (p.looked ≡ min n (length block.starts))
    × (length block.starts ≤ n → p.lead ≡ 0)

-- "a larger n never finds less": it is accepted, and its number is no less, into whatever words
abbrev pub LargerFindsNoLess : Type 0
LargerFindsNoLess =
    (widths : Widths) (sizes : Sizes) (v : Volume) (block : NamedBlock) (n m : ℕ) (out again : List ℕ)
    → n ≤ m
    → length again ≡ 4
    → pick_answer widths sizes v block n out ≡ 0
    → (p q : Pick)
    × (pick_outcome widths sizes v block n out ≡ record { answer = 0; second = 0; left = four_words p })
    × (pick_outcome widths sizes v block m again ≡ record { answer = 0; second = 0; left = four_words q })
    × (p.number ≤ q.number)

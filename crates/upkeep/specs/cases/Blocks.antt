-- Document 02, wish 8, computed: the tables of blocks that check_blocks takes and refuses, cleaning by small blocks and by another table, and where 17 stands among the refusals.
use Rattle.std.specs.Prelude.{ℕ, List, [], ◌∷◌, ◌++◌, map, replicate}
use Rattle.bounded.specs.Limits.{no_number}
use Rattle.outcome.specs.Row.{Row, row}
use Rattle.sizes.specs.Sizes.{sizes_of}
use Rattle.sizes.specs.Blocks.{named}
use Rattle.record.specs.Slot.{blank_record}
use Rattle.state.specs.Change.{at_rest}
use Rattle.table.specs.Given.{given, formatted_records, table_of}
use Rattle.rules.specs.Volume.{Volume}
use Rattle.rules.specs.CheckBlocks.{check_blocks_outcome}
use Rattle.upkeep.specs.Clean.{clean_outcome}
use Rattle.rules.specs.cases.Twins.{byte_wide, sizes8, volume8, fresh, with_third, twin0}
use Rattle.upkeep.specs.cases.Clean.{pair, clean_on, all_obsolete}

-- what check_blocks says of a table, of 2 pages and S slots
unfoldable pub checked : (S : ℕ) → List ℕ → ℕ
checked S starts = (check_blocks_outcome byte_wide (sizes_of 2 S 1) starts).answer

-- blocks of one slot, as many as there may be
unfoldable pub sixteen : List ℕ
sixteen = 0 ∷ 1 ∷ 2 ∷ 3 ∷ 4 ∷ 5 ∷ 6 ∷ 7 ∷ 8 ∷ 9 ∷ 10 ∷ 11 ∷ 12 ∷ 13 ∷ 14 ∷ 15 ∷ []

-- a volume with a slot that is neither blank nor sound, and one with a state that is not sound
unfoldable pub slot_unsound : Volume
slot_unsound = with_third (given 0 2 3 0 0) 5

unfoldable pub state_unsound : Volume
state_unsound = volume8 (formatted_records 2) (5 ∷ 6 ∷ []) (λ p. at_rest 1 0)

unfoldable pub clean_answers : Volume → List ℕ → (block : ℕ) → ℕ
clean_answers v starts block = (clean_outcome byte_wide sizes8 v (named starts block)).answer

unfoldable pub block_rows : List Row
block_rows =
    -- "1 to 16 starts": none; one; sixteen; seventeen
    row 8 (checked 8 [] ∷ checked 8 (0 ∷ []) ∷ checked 17 sixteen ∷ checked 17 (sixteen ++ (16 ∷ [])) ∷ []) (17 ∷ 0 ∷ 0 ∷ 17 ∷ [])
    -- "the first is 0"
    ∷ row 8 (checked 8 (1 ∷ []) ∷ checked 8 (1 ∷ 4 ∷ []) ∷ []) (17 ∷ 17 ∷ [])
    -- "they rise strictly": equal neighbours, in front and behind; falling
    ∷ row 8 (checked 8 (0 ∷ 0 ∷ []) ∷ checked 8 (0 ∷ 3 ∷ 3 ∷ []) ∷ checked 8 (0 ∷ 5 ∷ 4 ∷ []) ∷ checked 8 (0 ∷ 2 ∷ 0 ∷ []) ∷ []) (replicate 4 17)
    -- "all are below S"
    ∷ row 8 (checked 8 (0 ∷ 7 ∷ []) ∷ checked 8 (0 ∷ 8 ∷ []) ∷ checked 8 (0 ∷ 2 ∷ 9 ∷ []) ∷ checked 8 (0 ∷ no_number ∷ []) ∷ []) (0 ∷ 17 ∷ 17 ∷ 17 ∷ [])
    -- 17 "after 1"
    ∷ row 8 (checked 1 (0 ∷ []) ∷ checked 1 [] ∷ checked 1025 [] ∷ []) (replicate 3 1)
    -- "small blocks at the front": slot 1 of block 0 is copied to slot 3
    ∷ row 8 (clean_on twin0 (0 ∷ 2 ∷ 4 ∷ []) 0) (0 ∷ 0 ∷ table_of 8 (blank_record ∷ blank_record ∷ given 0 0 0 0 0 ∷ given 1 0 0 1 0 ∷ []) ++ (255 ∷ 255 ∷ 5 ∷ 6 ∷ replicate 4 255))
    -- by another table block 1 has slots 1 and 2
    ∷ row 8 (clean_on pair (0 ∷ 1 ∷ 3 ∷ []) 1) (0 ∷ 0 ∷ table_of 8 (given 0 0 0 0 0 ∷ blank_record ∷ blank_record ∷ given 0 1 0 0 1 ∷ given 1 0 0 1 0 ∷ []) ++ (5 ∷ 255 ∷ 255 ∷ 7 ∷ 6 ∷ replicate 3 255))
    -- the last ends at S: slot 7, and no other
    ∷ row 8 (clean_on (volume8 (formatted_records 2 ++ (replicate 5 blank_record ++ (given 0 0 0 0 0 ∷ []))) (5 ∷ 6 ∷ 1 ∷ 1 ∷ 1 ∷ 1 ∷ 1 ∷ 5 ∷ []) fresh) (0 ∷ 7 ∷ []) 1) (0 ∷ 0 ∷ table_of 8 (formatted_records 2) ++ (5 ∷ 6 ∷ 1 ∷ 1 ∷ 1 ∷ 1 ∷ 1 ∷ 255 ∷ []))
    -- "Block numbers then run below its length; others are 6."
    ∷ row 8 (map (clean_answers all_obsolete (0 ∷ 2 ∷ 4 ∷ [])) (0 ∷ 2 ∷ 3 ∷ 4 ∷ no_number ∷ [])) (0 ∷ 0 ∷ 6 ∷ 6 ∷ 6 ∷ [])
    -- 17 is tried after 1, and before 2, 5, 6 and 15; these are tried in this order
    ∷ row 8 ((clean_outcome byte_wide (sizes_of 2 7 1) twin0 (named [] 0)).answer ∷ clean_answers slot_unsound (0 ∷ 0 ∷ []) 2 ∷ clean_answers state_unsound [] 0 ∷ clean_answers all_obsolete [] 0 ∷ clean_answers twin0 (0 ∷ 8 ∷ []) 0 ∷ []) (1 ∷ 17 ∷ 17 ∷ 17 ∷ 17 ∷ [])
    ∷ row 8 (clean_answers slot_unsound (0 ∷ []) 1 ∷ clean_answers state_unsound (0 ∷ []) 1 ∷ clean_answers twin0 (0 ∷ []) 0 ∷ []) (2 ∷ 5 ∷ 15 ∷ [])
    ∷ []

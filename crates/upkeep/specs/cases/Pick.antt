-- Document 02, wish 9, computed: the four words of a pick, and its refusals.
use Rattle.std.specs.Prelude.{ℕ, List, [], ◌∷◌, replicate}
use Rattle.bounded.specs.Limits.{no_number}
use Rattle.outcome.specs.Row.{Row, row}
use Rattle.sizes.specs.Sizes.{sizes_of}
use Rattle.sizes.specs.Blocks.{named}
use Rattle.table.specs.Given.{formatted_records}
use Rattle.rules.specs.Volume.{Volume}
use Rattle.upkeep.specs.Pick.{pick_outcome}
use Rattle.rules.specs.cases.Twins.{byte_wide, sizes8, volume8, fresh}
use Rattle.upkeep.specs.cases.Clean.{pair, straddled}
use Rattle.upkeep.specs.cases.Blocks.{slot_unsound, state_unsound}

-- the answer, the second number and the lent words, which are 7 before
unfoldable pub pick_on : Volume → (starts : List ℕ) → (block n : ℕ) → List ℕ
pick_on v starts block n = let o = pick_outcome byte_wide sizes8 v (named starts block) n (replicate 4 7) in o.answer ∷ o.second ∷ o.left

unfoldable pub pick_answers : Volume → (starts : List ℕ) → (block n words : ℕ) → ℕ
pick_answers v starts block n words = (pick_outcome byte_wide sizes8 v (named starts block) n (replicate words 7)).answer

-- Of `pair` slots 0, 2 and 3 may be erased, each in a list of its own. By this table its blocks free 1, 0, 2 and 0, and the last has four slots.
unfoldable pub four : List ℕ
four = 0 ∷ 1 ∷ 2 ∷ 4 ∷ []

-- a volume with an unsound slot and an unsound state
unfoldable pub both_unsound : Volume
both_unsound = record { flash = slot_unsound.flash; state = state_unsound.state }

unfoldable pub pick_rows : List Row
pick_rows =
    -- "look at no more than n blocks and name the one that frees most"; both twins in a block count
    row 9 (pick_on pair four 0 1) (0 ∷ 0 ∷ 0 ∷ 1 ∷ 1 ∷ 3 ∷ [])
    ∷ row 9 (pick_on pair four 0 3) (0 ∷ 0 ∷ 2 ∷ 2 ∷ 3 ∷ 2 ∷ [])
    ∷ row 9 (pick_on pair four 1 1) (0 ∷ 0 ∷ 1 ∷ 0 ∷ 1 ∷ 4 ∷ [])
    -- "going round": block 0 follows on block 3
    ∷ row 9 (pick_on pair four 3 2) (0 ∷ 0 ∷ 0 ∷ 1 ∷ 2 ∷ 1 ∷ [])
    ∷ row 9 (pick_on pair four 3 4) (0 ∷ 0 ∷ 2 ∷ 2 ∷ 4 ∷ 0 ∷ [])
    -- "the smaller of n and the table's length"
    ∷ row 9 (pick_on pair four 2 9) (0 ∷ 0 ∷ 2 ∷ 2 ∷ 4 ∷ 0 ∷ [])
    ∷ row 9 (pick_on pair four 1 no_number) (0 ∷ 0 ∷ 2 ∷ 2 ∷ 4 ∷ 0 ∷ [])
    -- "the earliest seen on ties": blocks 0, 1 and 2 free 1 each; where none frees anything, the start
    ∷ row 9 (pick_on pair (0 ∷ 2 ∷ 3 ∷ 4 ∷ []) 1 3) (0 ∷ 0 ∷ 1 ∷ 1 ∷ 3 ∷ 1 ∷ [])
    ∷ row 9 (pick_on pair (0 ∷ 2 ∷ 3 ∷ 4 ∷ []) 2 4) (0 ∷ 0 ∷ 2 ∷ 1 ∷ 4 ∷ 0 ∷ [])
    ∷ row 9 (pick_on (volume8 (formatted_records 2) (5 ∷ 6 ∷ []) fresh) four 3 2) (0 ∷ 0 ∷ 3 ∷ 0 ∷ 2 ∷ 2 ∷ [])
    -- "or 0": the unseen block has one slot, and 3 are freed
    ∷ row 9 (pick_on pair (0 ∷ 4 ∷ 7 ∷ []) 0 2) (0 ∷ 0 ∷ 0 ∷ 3 ∷ 2 ∷ 0 ∷ [])
    -- "judged one by one": the straddler in slot 2 may not go, though the exposed record that needs it, in slot 3, may
    ∷ row 9 (pick_on straddled (0 ∷ []) 0 1) (0 ∷ 0 ∷ 0 ∷ 2 ∷ 1 ∷ 0 ∷ [])
    -- "Refused: 18, n is 0, after 6; …", with the words as they were
    ∷ row 9 (pick_on pair four 0 0) (18 ∷ 0 ∷ replicate 4 7)
    ∷ row 9 (pick_answers pair four 3 0 4 ∷ pick_answers pair four 4 0 4 ∷ pick_answers pair four no_number 1 4 ∷ []) (18 ∷ 6 ∷ 6 ∷ [])
    -- "1, 17, 2 and 5 as in cleaning"; and words of another number
    ∷ row 9 ((pick_outcome byte_wide (sizes_of 2 7 1) pair (named [] 0) 0 (replicate 4 7)).answer ∷ pick_answers pair [] 0 0 3 ∷ pick_answers pair [] 0 0 5 ∷ []) (replicate 3 1)
    ∷ row 9 (pick_answers slot_unsound [] 0 0 4 ∷ pick_answers both_unsound (0 ∷ []) 1 0 4 ∷ pick_answers state_unsound (0 ∷ []) 1 0 4 ∷ []) (17 ∷ 2 ∷ 5 ∷ [])
    ∷ []

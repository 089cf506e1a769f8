-- The order of refusals, computed as in OrderBoth, of the calls that the first family has alone, and of count, which takes no volume. Document 01: 1, 2, 5, 13 of suggest. Document 02: "17, …, after 1", "15, …, tried after 14", "18, …, after 6",
-- "19, …, after 6 …; 20, …, after 19".
use Rattle.std.specs.Prelude.{ℕ, ◌*◌, refl, replicate}
use mathlib.Core.List.{List, [], ◌∷◌, ◌++◌, flatten}
use Rattle.bounded.specs.Limits.{no_number, two_widths}
use Rattle.bounded.specs.Below.{min_below}
use Rattle.outcome.specs.Row.{Row, row, RowsHold}
use Rattle.sizes.specs.declared.Layout.TheVariants.{FiveWords}
use Rattle.sizes.specs.declared.Sizes.{Sizes}
use Rattle.sizes.specs.Sizes.{sizes_of}
use Rattle.sizes.specs.Blocks.{named}
use Rattle.record.specs.declared.Record.{Record}
use Rattle.record.specs.Slot.{blank_record}
use Rattle.bits.specs.Bits.{bit_at, set_bits, count_answer, count_outcome}
use Rattle.table.specs.Given.{given, formatted_records}
use Rattle.rules.specs.Volume.{Volume, volume}
use Rattle.rules.specs.CheckBlocks.{check_blocks_outcome}
use Rattle.rules.specs.Suggest.{suggest_outcome}
use Rattle.upkeep.specs.Clean.{clean_outcome}
use Rattle.upkeep.specs.Sweep.{sweep_outcome}
use Rattle.upkeep.specs.Pick.{pick_outcome}
use Rattle.upkeep.specs.Doubtful.{absent_in, fillings, filled_with, recovery_of, recovers, version_filled, recovering, lowest_filled, highest_filled, doubtful_words, doubtful_list_ok, doubtful_fits, doubtful_answer, doubtful_outcome}
use Rattle.upkeep.specs.cases.Computing.{computing}
use Rattle.rules.specs.cases.Simple.{rest}
use Rattle.cases.specs.OrderBoth.{volume_of, sound, unsound, flawed, unsound_page, resting, told, ones, wrong_sizes, longer, longer_each}

-- five slots, the state being sound or not
unfoldable pub five_slots : List Record → (state : List ℕ) → Volume
five_slots records state = volume_of FiveWords 5 records state

unfoldable pub unsound_state : List ℕ
unsound_state = rest 0 2 ++ unsound_page

-- an unsound slot and an unsound state
unfoldable pub both_unsound : Volume
both_unsound = five_slots flawed unsound_state

-- ---- suggest, sweep, count

-- suggest: 1, 2, 5, 13; refused, "the suggested slot is 4,294,967,295". Without the exposed record no slot may be erased
unfoldable pub suggest_order : List Row
suggest_order =
    let v = five_slots (formatted_records 2 ++ unsound ∷ []) unsound_state in
    row 0 (wrong_sizes 2 5 v (λ z u. told (suggest_outcome two_widths z u)) ++ longer_each v (λ u. told (suggest_outcome two_widths (sizes_of 2 5 32) u))) (flatten (replicate 6 (1 ∷ no_number ∷ [])))
    ∷ row 0 (told (suggest_outcome two_widths (sizes_of 2 5 32) v)) (2 ∷ no_number ∷ [])
    ∷ row 0 (told (suggest_outcome two_widths (sizes_of 2 5 32) (five_slots (formatted_records 2) unsound_state))) (5 ∷ no_number ∷ [])
    ∷ row 0 (told (suggest_outcome two_widths (sizes_of 2 5 32) (five_slots (formatted_records 2) resting))) (13 ∷ no_number ∷ [])
    ∷ row 0 (told (suggest_outcome two_widths (sizes_of 2 5 32) (five_slots sound resting))) (0 ∷ 2 ∷ [])
    ∷ []

-- sweep: 1, 2, 5
unfoldable pub sweep_order : List Row
sweep_order =
    row 7 (wrong_sizes 2 5 both_unsound (λ z u. told (sweep_outcome two_widths z u)) ++ longer_each both_unsound (λ u. told (sweep_outcome two_widths (sizes_of 2 5 32) u))) (ones 6)
    ∷ row 7 (told (sweep_outcome two_widths (sizes_of 2 5 32) both_unsound)) (2 ∷ 0 ∷ [])
    ∷ row 7 (told (sweep_outcome two_widths (sizes_of 2 5 32) (five_slots sound unsound_state))) (5 ∷ 0 ∷ [])
    ∷ row 7 (told (sweep_outcome two_widths (sizes_of 2 5 32) (five_slots sound resting))) (0 ∷ 0 ∷ [])
    ∷ []

-- count: 1
unfoldable pub count_order : List Row
count_order = row 0 (told (count_outcome two_widths (replicate 33 3)) ++ told (count_outcome two_widths (replicate 32 3))) (1 ∷ 0 ∷ 0 ∷ 64 ∷ []) ∷ []

-- ---- calls with a table of blocks. Of a table with one start, block 0 has all slots; of (0, 0), which does not rise, there is no block 2

-- check_blocks: 1, 17
unfoldable pub check_order : List Row
check_order =
    row 8 (wrong_sizes 2 5 (five_slots [] []) (λ z v. told (check_blocks_outcome two_widths z (0 ∷ 0 ∷ [])))) (ones 3)
    ∷ row 8 (told (check_blocks_outcome two_widths (sizes_of 2 5 32) (0 ∷ 0 ∷ [])) ++ told (check_blocks_outcome two_widths (sizes_of 2 5 32) [])) (17 ∷ 0 ∷ 17 ∷ 0 ∷ [])
    ∷ row 8 (told (check_blocks_outcome two_widths (sizes_of 2 5 32) (0 ∷ []))) (0 ∷ 0 ∷ [])
    ∷ []

-- clean: 1, 17, 2, 5, 6, 15. Slots 0 and 1 must be copied, and a block of all slots has none outside
unfoldable pub clean_on : Sizes → Volume → (starts : List ℕ) → (block : ℕ) → List ℕ
clean_on sizes v starts block = told (clean_outcome two_widths sizes v (named starts block))

unfoldable pub clean_order : List Row
clean_order =
    row 1 (wrong_sizes 2 5 both_unsound (λ z u. clean_on z u (0 ∷ 0 ∷ []) 2) ++ longer_each both_unsound (λ u. clean_on (sizes_of 2 5 32) u (0 ∷ 0 ∷ []) 2)) (ones 6)
    ∷ row 1 (clean_on (sizes_of 2 5 32) both_unsound (0 ∷ 0 ∷ []) 2) (17 ∷ 0 ∷ [])
    ∷ row 1 (clean_on (sizes_of 2 5 32) both_unsound (0 ∷ []) 1) (2 ∷ 0 ∷ [])
    ∷ row 1 (clean_on (sizes_of 2 5 32) (five_slots sound unsound_state) (0 ∷ []) 1) (5 ∷ 0 ∷ [])
    -- 15 is of a block that there is, so that 6 and 15 exclude each other; it is met behind 5 as well
    ∷ row 1 (clean_on (sizes_of 2 5 32) (five_slots sound unsound_state) (0 ∷ []) 0) (5 ∷ 0 ∷ [])
    ∷ row 1 (clean_on (sizes_of 2 5 32) (five_slots sound resting) (0 ∷ []) 1) (6 ∷ 0 ∷ [])
    ∷ row 1 (clean_on (sizes_of 2 5 32) (five_slots sound resting) (0 ∷ []) 0) (15 ∷ 0 ∷ [])
    ∷ row 1 (clean_on (sizes_of 2 5 32) (five_slots sound resting) (0 ∷ 2 ∷ []) 0) (0 ∷ 0 ∷ [])
    ∷ []

-- pick: 1, 17, 2, 5, 6, 18, into so many words
unfoldable pub pick_on : Volume → (starts : List ℕ) → (block n words : ℕ) → List ℕ
pick_on v starts block n words = told (pick_outcome two_widths (sizes_of 2 5 32) v (named starts block) n (replicate words 7))

unfoldable pub pick_order : List Row
pick_order =
    row 9 (wrong_sizes 2 5 both_unsound (λ z u. told (pick_outcome two_widths z u (named (0 ∷ 0 ∷ []) 2) 0 (replicate 4 7))) ++ (longer_each both_unsound (λ u. pick_on u (0 ∷ 0 ∷ []) 2 0 4) ++ pick_on both_unsound (0 ∷ 0 ∷ []) 2 0 5)) (ones 7)
    ∷ row 9 (pick_on both_unsound (0 ∷ 0 ∷ []) 2 0 4) (17 ∷ 0 ∷ [])
    ∷ row 9 (pick_on both_unsound (0 ∷ []) 1 0 4) (2 ∷ 0 ∷ [])
    ∷ row 9 (pick_on (five_slots sound unsound_state) (0 ∷ []) 1 0 4) (5 ∷ 0 ∷ [])
    ∷ row 9 (pick_on (five_slots sound resting) (0 ∷ []) 1 0 4) (6 ∷ 0 ∷ [])
    ∷ row 9 (pick_on (five_slots sound resting) (0 ∷ []) 0 0 4) (18 ∷ 0 ∷ [])
    ∷ row 9 (pick_on (five_slots sound resting) (0 ∷ []) 0 1 4) (0 ∷ 0 ∷ [])
    ∷ []

-- ---- doubtful: 1, 2, 6, 19, 20, of two pages in ten slots, nine of which hold twins of page 0. Without a record of page 1 no filling recovers

unfoldable pub ten : (last : Record) → Volume
ten last = volume_of FiveWords 10 (replicate 9 (given 0 0 0 0 0) ++ last ∷ []) []

unfoldable pub doubtful_on : Sizes → Volume → (slots : List ℕ) → (words : ℕ) → List ℕ
doubtful_on sizes v slots words = told (doubtful_outcome two_widths sizes v.flash slots (replicate words 7))

-- the nine slots, and one more that is listed
unfoldable pub nine_and : List ℕ → List ℕ
nine_and more = 0 ∷ 1 ∷ 2 ∷ 3 ∷ 4 ∷ 5 ∷ 6 ∷ 7 ∷ 8 ∷ more

unfoldable pub doubtful_order : List Row
doubtful_order =
    let v = ten unsound in
    row 11
    (wrong_sizes 2 10 v (λ z u. doubtful_on z u (nine_and (10 ∷ [])) (2 * z.pages))
    ++ (doubtful_on (sizes_of 2 10 32) (volume (longer v.flash.words) v.flash.contents []) (nine_and (10 ∷ [])) 4
    ++ (doubtful_on (sizes_of 2 10 32) (volume v.flash.words (longer v.flash.contents) []) (nine_and (10 ∷ [])) 4
    ++ doubtful_on (sizes_of 2 10 32) v (nine_and (10 ∷ [])) 5)))
    (ones 6)
    ∷ row 11 (doubtful_on (sizes_of 2 10 32) v (nine_and (10 ∷ [])) 4) (2 ∷ 0 ∷ [])
    -- out of range; listed twice; blank
    ∷ row 11
    (doubtful_on (sizes_of 2 10 32) (ten blank_record) (nine_and (10 ∷ [])) 4
    ++ (doubtful_on (sizes_of 2 10 32) (ten blank_record) (nine_and (0 ∷ [])) 4
    ++ doubtful_on (sizes_of 2 10 32) (ten blank_record) (nine_and (9 ∷ [])) 4))
    (6 ∷ 0 ∷ 6 ∷ 0 ∷ 6 ∷ 0 ∷ [])
    ∷ row 11 (doubtful_on (sizes_of 2 10 32) (ten blank_record) (nine_and []) 4) (19 ∷ 0 ∷ [])
    ∷ row 11 (doubtful_on (sizes_of 2 10 32) (ten blank_record) (0 ∷ []) 4) (20 ∷ 0 ∷ [])
    ∷ row 11 (doubtful_on (sizes_of 2 10 32) (ten (given 1 0 0 1 0)) (0 ∷ []) 4) (0 ∷ 2 ∷ [])
    ∷ []

-- ---- the table

unfoldable pub first_rows : List Row
first_rows = suggest_order ++ (sweep_order ++ (count_order ++ (check_order ++ (clean_order ++ (pick_order ++ doubtful_order)))))

pub first_rows_lem : RowsHold first_rows
unfolding first_rows five_slots unsound_state both_unsound suggest_order sweep_order count_order check_order clean_on clean_order pick_on pick_order ten doubtful_on nine_and doubtful_order volume_of sound unsound flawed unsound_page resting told ones wrong_sizes longer longer_each bit_at set_bits count_answer count_outcome absent_in fillings filled_with recovery_of recovers version_filled recovering lowest_filled highest_filled doubtful_words doubtful_list_ok doubtful_fits doubtful_answer doubtful_outcome min_below rest computing
first_rows_lem = refl

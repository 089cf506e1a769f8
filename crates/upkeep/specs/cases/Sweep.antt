-- Document 02, wish 7, computed: the three erasures of a sweep, what it leaves, and its refusals.
use Rattle.std.specs.Prelude.{ℕ, zero, suc, length, replicate}
use mathlib.Core.List.{List, [], ◌∷◌, ◌++◌, map, flatten}
use Rattle.outcome.specs.Row.{Row, row}
use Rattle.sizes.specs.Sizes.{sizes_of}
use Rattle.record.specs.Slot.{blank_record}
use Rattle.state.specs.declared.PageState.{PageState}
use Rattle.state.specs.Change.{at_rest}
use Rattle.table.specs.Given.{given, formatted_records, table_of}
use Rattle.rules.specs.Volume.{Volume}
use Rattle.rules.specs.Suggest.{suggest_outcome}
use Rattle.upkeep.specs.Sweep.{sweep_stages, sweep_outcome}
use Rattle.rules.specs.cases.Twins.{byte_wide, sizes8, volume8, fresh}
use Rattle.upkeep.specs.cases.Clean.{pair, straddled, step_slots}
use Rattle.upkeep.specs.cases.Blocks.{slot_unsound, state_unsound}

-- the slots of each erasure, with their number in front
unfoldable pub sweep_lists : Volume → List ℕ
sweep_lists v = flatten (map (λ s. length s ∷ step_slots s) (sweep_stages sizes8 v))

unfoldable pub sweep_on : Volume → List ℕ
sweep_on v = let o = sweep_outcome byte_wide sizes8 v in o.answer ∷ o.second ∷ o.left.words ++ o.left.contents

-- suggest straight after a sweep
unfoldable pub suggest_after : Volume → ℕ
suggest_after v = (suggest_outcome byte_wide sizes8 (record { flash = (sweep_outcome byte_wide sizes8 v).left; state = v.state })).answer

-- Pages 0 and 1 in flight together, page 0 written, in slot 2 and, as a twin, in 4; in slot 3 the record of page 0 that an earlier transaction of the two left, withdrawn
unfoldable pub flying : Volume
flying = volume8 (formatted_records 2 ++ given 0 2 0 1 2 ∷ given 0 1 0 1 1 ∷ given 0 2 0 1 2 ∷ []) (5 ∷ 6 ∷ 7 ∷ 8 ∷ 7 ∷ []) page
  where
    page : ℕ → PageState
    page zero = record { committed = 0; used = 2; next = 1; written = 1 }
    page (suc p) = record { committed = 0; used = 2; next = 0; written = 0 }

-- The obsolete record in slot 2 straddles the link of page 1's exposed one, which is in flight at its used version: no list of calls leads here
unfoldable pub still_needed : Volume
still_needed = volume8 (formatted_records 2 ++ given 0 3 1 0 3 ∷ given 1 1 0 0 2 ∷ given 0 4 3 0 4 ∷ []) (5 ∷ 6 ∷ 7 ∷ 8 ∷ 9 ∷ []) page
  where
    page : ℕ → PageState
    page zero = at_rest 4 4
    page (suc p) = record { committed = 0; used = 1; next = 1; written = 1 }

unfoldable pub sweep_rows : List Row
sweep_rows =
    -- the exposed record in slot 3 goes first; then nothing needs the obsolete one in slot 2, and it goes with that in slot 0
    row 7 (sweep_lists straddled) (1 ∷ 3 ∷ 2 ∷ 0 ∷ 2 ∷ 0 ∷ [])
    ∷ row 7 (sweep_on straddled) (0 ∷ 0 ∷ table_of 8 (blank_record ∷ given 1 0 0 1 0 ∷ blank_record ∷ blank_record ∷ given 0 4 3 0 4 ∷ []) ++ (255 ∷ 6 ∷ 255 ∷ 255 ∷ 9 ∷ replicate 3 255))
    -- of twins the lowest stays
    ∷ row 7 (sweep_lists pair) (0 ∷ 1 ∷ 0 ∷ 1 ∷ 3 ∷ [])
    ∷ row 7 (sweep_on pair) (0 ∷ 0 ∷ table_of 8 (blank_record ∷ given 1 0 0 1 0 ∷ given 0 1 0 0 1 ∷ []) ++ (255 ∷ 6 ∷ 7 ∷ replicate 5 255))
    -- the record of a page in flight at its used version stays, its twin goes: 2 pages and 1 written, 3 records
    ∷ row 7 (sweep_lists flying) (1 ∷ 3 ∷ 0 ∷ 1 ∷ 4 ∷ [])
    ∷ row 7 (sweep_on flying) (0 ∷ 0 ∷ table_of 8 (formatted_records 2 ++ given 0 2 0 1 2 ∷ []) ++ (5 ∷ 6 ∷ 7 ∷ replicate 5 255))
    -- an obsolete record that is still needed stays
    ∷ row 7 (sweep_lists still_needed) (0 ∷ 1 ∷ 0 ∷ 0 ∷ [])
    -- nothing to do
    ∷ row 7 (sweep_lists (volume8 (formatted_records 2) (5 ∷ 6 ∷ []) fresh) ++ ((sweep_outcome byte_wide sizes8 (volume8 (formatted_records 2) (5 ∷ 6 ∷ []) fresh)).answer ∷ [])) (0 ∷ 0 ∷ 0 ∷ 0 ∷ [])
    -- then nothing may be erased
    ∷ row 7 (map suggest_after (straddled ∷ pair ∷ flying ∷ still_needed ∷ [])) (replicate 4 13)
    -- "It refuses by 1, 2 and 5 as erase does."
    ∷ row 7 ((sweep_outcome byte_wide (sizes_of 2 7 1) pair).answer ∷ (sweep_outcome byte_wide sizes8 slot_unsound).answer ∷ (sweep_outcome byte_wide sizes8 state_unsound).answer ∷ []) (1 ∷ 2 ∷ 5 ∷ [])
    ∷ []

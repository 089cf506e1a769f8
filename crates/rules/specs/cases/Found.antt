-- What is found on case 6's volume with one exposed record more, (0,2,0,0,2) in slot 7: both of page 0's, and judging by them.
use Rattle.std.specs.Prelude.{ℕ, zero, suc, List, [], ◌∷◌, ◌++◌, cond}
use Rattle.outcome.specs.Row.{Row, row}
use Rattle.record.specs.Slot.{Slot}
use Rattle.record.specs.Slot.{slot_at}
use Rattle.state.specs.declared.PageState.{PageState}
use Rattle.state.specs.Change.{at_rest}
use Rattle.table.specs.Given.{given, formatted_records, table_of}
use Rattle.rules.specs.Permission.{untwinned, may_erase_all}
use Rattle.rules.specs.Found.{exposed_slots, by_found}

-- slots 0 to 2 hold the formatted records, 3 (0,1,0,1,1), 4 (1,2,0,2,1), 5 (2,1,0,1,2), 6 (1,3,2,1,3) and 7 (0,2,0,0,2)
unfoldable pub slots7 : ℕ → Slot
slots7 = slot_at (table_of 8 (formatted_records 3 ++ given 0 1 0 1 1 ∷ given 1 2 0 2 1 ∷ given 2 1 0 1 2 ∷ given 1 3 2 1 3 ∷ given 0 2 0 0 2 ∷ []))

-- page 0 is committed at 0 and used at 2, page 1 at 3, page 2 at 1
unfoldable pub pages7 : ℕ → PageState
pages7 zero = at_rest 0 2
pages7 (suc zero) = at_rest 3 3
pages7 (suc (suc p)) = at_rest 1 1

-- these slots may be erased, judged by a list of slots found, without twins: 1 or 0
unfoldable pub judged7 : (found slots : List ℕ) → ℕ
judged7 found slots = cond (may_erase_all (by_found (untwinned 8 slots7 pages7) found) slots) 1 0

-- The straddler in slot 4 is needed by slot 3's link alone, which is not that of page 0's highest record: judged by slot 7 alone it could go.
unfoldable pub found_rows : List Row
found_rows =
    row 6 (exposed_slots 8 slots7 pages7) (3 ∷ 7 ∷ [])
    ∷ row 6 (judged7 (3 ∷ 7 ∷ []) (4 ∷ []) ∷ judged7 (3 ∷ 7 ∷ []) (1 ∷ 3 ∷ 7 ∷ []) ∷ judged7 (7 ∷ []) (4 ∷ []) ∷ []) (0 ∷ 1 ∷ 1 ∷ [])
    ∷ []

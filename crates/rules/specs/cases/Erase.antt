-- Document 01's cases 6 to 8: which slots of one volume may be erased, and of two straddlers of one link, through erase's whole outcome.
use Rattle.std.specs.Prelude.{ℕ, zero, suc, List, [], ◌∷◌, ◌++◌, cond, eqb, replicate}
use Rattle.bounded.specs.Parts.{join_parts}
use Rattle.bounded.specs.Limits.{two_widths}
use Rattle.outcome.specs.Outcome.{Outcome}
use Rattle.outcome.specs.Row.{Row, row}
use Rattle.sizes.specs.Sizes.{sizes_of}
use Rattle.record.specs.Flash.{Flash}
use Rattle.state.specs.State.{state_words}
use Rattle.state.specs.declared.PageState.{PageState}
use Rattle.state.specs.Change.{at_rest}
use Rattle.table.specs.Given.{given, formatted_records, table_of}
use Rattle.rules.specs.Volume.{Volume}
use Rattle.rules.specs.Erase.{erase_outcome}

-- erase these slots of a volume of 3 pages and 8 slots
unfoldable pub erase_on : Volume → List ℕ → Outcome Flash
erase_on v slots = erase_outcome two_widths (sizes_of 3 8 32) v slots

-- the answers of two erasures, one after the other
unfoldable pub erased_in_turn : Volume → (first then : List ℕ) → List ℕ
erased_in_turn v first then =
    let o = erase_on v first in
    o.answer ∷ (erase_on (record { flash = o.left; state = v.state }) then).answer ∷ []

-- Cases 6 to 8, on a volume whose slots 0 to 2 hold the formatted records, 3 (0,1,0,1,1), 4 (1,2,0,2,1), 5 (2,1,0,1,2) and 6 (1,3,2,1,3).
unfoldable pub erase_rows : Volume → List Row
erase_rows v =
    row 6 ((erase_on v (4 ∷ [])).answer ∷ []) (12 ∷ [])
    ∷ row 7 (erased_in_turn v (3 ∷ []) (4 ∷ [])) (0 ∷ 0 ∷ [])
    ∷ row 7 ((erase_on v (3 ∷ 4 ∷ [])).answer ∷ []) (12 ∷ [])
    ∷ row 8 ((erase_on v (1 ∷ [])).answer ∷ []) (0 ∷ [])
    ∷ []

-- that volume, slot 6 with bytes 3: page 0 is committed at 0 and used at 1, page 1 at 3, page 2 at 1
unfoldable pub volume6 : Volume
volume6 =
    record {
      flash = record {
        words = table_of 8 (formatted_records 3 ++ given 0 1 0 1 1 ∷ given 1 2 0 2 1 ∷ given 2 1 0 1 2 ∷ given 1 3 2 1 3 ∷ []);
        contents = join_parts 8 (λ k. replicate 32 (cond (eqb k 6) 3 0));
      };
      state = state_words 3 page;
    }
  where
    page : ℕ → PageState
    page zero = at_rest 0 1
    page (suc zero) = at_rest 3 3
    page (suc (suc p)) = at_rest 1 1

-- The exposed (0,1,0,1,1) in slot 3; its link is straddled by (1,2,0,1,2) in slot 4 and (1,3,0,1,3) in slot 5, both obsolete, as page 1 is committed at 4.
unfoldable pub two_straddlers : Volume
two_straddlers = record { flash = record { words = table_of 8 (formatted_records 3 ++ given 0 1 0 1 1 ∷ given 1 2 0 1 2 ∷ given 1 3 0 1 3 ∷ given 1 4 3 1 4 ∷ []); contents = replicate 256 0 }; state = state_words 3 page }
  where
    page : ℕ → PageState
    page zero = at_rest 0 1
    page (suc zero) = at_rest 4 4
    page (suc (suc p)) = at_rest 0 0

-- "if no record has the same page and c with a higher v": of the two the one of the higher version is needed, and the other may go; both in one call may not.
unfoldable pub outdone_rows : List Row
outdone_rows = row 6 ((erase_on two_straddlers (4 ∷ [])).answer ∷ (erase_on two_straddlers (5 ∷ [])).answer ∷ (erase_on two_straddlers (4 ∷ 5 ∷ [])).answer ∷ []) (0 ∷ 12 ∷ 12 ∷ []) ∷ []

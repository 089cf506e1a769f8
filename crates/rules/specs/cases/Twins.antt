-- Document 02, wish 1, computed: twins in recover, erase and suggest, on volumes of 1 byte a slot.
use Rattle.std.specs.Prelude.{ℕ, List, [], ◌∷◌, ◌++◌, eqb, get_or}
use Rattle.bounded.specs.Limits.{no_number, Widths}
use Rattle.bounded.specs.Parts.{join_parts}
use Rattle.outcome.specs.Row.{Row, row}
use Rattle.sizes.specs.declared.Sizes.{Sizes}
use Rattle.sizes.specs.Sizes.{sizes_of}
use Rattle.record.specs.declared.Record.{Record}
use Rattle.state.specs.declared.PageState.{PageState}
use Rattle.state.specs.State.{state_words}
use Rattle.state.specs.Change.{at_rest}
use Rattle.table.specs.Given.{given, formatted_records, table_of}
use Rattle.rules.specs.Volume.{Volume, volume}
use Rattle.rules.specs.Erase.{erase_outcome}
use Rattle.rules.specs.Suggest.{suggest_outcome}
use Rattle.rules.specs.Recover.{recover_outcome}

-- slots of 1 byte
unfoldable pub byte_wide : Widths
byte_wide w = eqb w 1

abbrev pub sizes8 : Sizes
sizes8 = sizes_of 2 8 1

-- 8 slots that hold these records, with these bytes; both pages at rest, committed and used as given
unfoldable pub volume8 : List Record → (bytes : List ℕ) → (page : ℕ → PageState) → Volume
volume8 records bytes page = volume (table_of 8 records) (join_parts 8 (λ k. get_or bytes k 255 ∷ [])) (state_words 2 page)

-- both pages committed and used at 0
unfoldable pub fresh : ℕ → PageState
fresh p = at_rest 0 0

-- the formatted records, and a record in slot 2
unfoldable pub with_third : Record → (byte : ℕ) → Volume
with_third r byte = volume8 (formatted_records 2 ++ r ∷ []) (5 ∷ 6 ∷ byte ∷ []) fresh

-- slot 0's twin; one with another byte; records of its page and version with another link (v, c and page being equal), and of another page
unfoldable pub twin0 : Volume
twin0 = with_third (given 0 0 0 0 0) 5

unfoldable pub recover_answers : List ℕ
recover_answers =
    (recover_outcome byte_wide sizes8 twin0).answer
    ∷ (recover_outcome byte_wide sizes8 (with_third (given 0 0 0 0 0) 7)).answer
    ∷ (recover_outcome byte_wide sizes8 (with_third (given 0 0 0 1 0) 5)).answer
    ∷ (recover_outcome byte_wide sizes8 (with_third (given 1 0 0 1 0) 6)).answer
    ∷ []

unfoldable pub erase_answers : Volume → List ℕ
erase_answers v =
    (erase_outcome byte_wide sizes8 v (0 ∷ [])).answer
    ∷ (erase_outcome byte_wide sizes8 v (2 ∷ [])).answer
    ∷ (erase_outcome byte_wide sizes8 v (0 ∷ 2 ∷ [])).answer
    ∷ (erase_outcome byte_wide sizes8 v (1 ∷ [])).answer
    ∷ []

unfoldable pub suggested : Volume → List ℕ
suggested v = let o = suggest_outcome byte_wide sizes8 v in o.answer ∷ o.second ∷ []

unfoldable pub twin_rows : List Row
twin_rows =
    -- twins do not clash; records of equal page and version that are none do
    row 1 recover_answers (0 ∷ 3 ∷ 3 ∷ 0 ∷ [])
    -- a committed record with a twin outside the list may be erased, both together not, nor one that has none; without twins only by the old rule
    ∷ row 1 (erase_answers twin0) (0 ∷ 0 ∷ 12 ∷ 12 ∷ [])
    ∷ row 1 (erase_answers (with_third (given 0 0 0 0 0) 7)) (12 ∷ 12 ∷ 12 ∷ 12 ∷ [])
    -- suggest names the lower twin, and without one nothing
    ∷ row 1 (suggested twin0 ++ suggested (with_third (given 0 0 0 0 0) 7)) (0 ∷ 0 ∷ 13 ∷ no_number ∷ [])
    ∷ []

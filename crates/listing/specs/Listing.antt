-- What the script line op=list prints of a volume.
use Rattle.std.specs.Prelude.{ℕ, zero, suc, List, ◌++◌, Bool, cond, eqb, replicate}
use Rattle.bounded.specs.Limits.{Widths}
use Rattle.bounded.specs.Parts.{join_parts}
use Rattle.outcome.specs.Outcome.{Outcome}
use Rattle.sizes.specs.declared.Sizes.{Sizes}
use Rattle.text.specs.Scan.{bytes}
use Rattle.text.specs.Print.{decimal}
use Rattle.bits.specs.Bits.{count_outcome}
use Rattle.state.specs.State.{state_at, is_set}
use Rattle.rules.specs.Volume.{Volume}
use Rattle.rules.specs.Read.{read_slot, read_outcome}

-- "An accepted call … prints answer=0"; "A refused call prints answer= and its number"
unfoldable pub answer_text : ℕ → List ℕ
answer_text answer = bytes "answer=" ++ (decimal answer ++ bytes "\n")

-- Read of a page, into as many bytes as the width says
unfoldable pub page_read : Widths → Sizes → Volume → ℕ → Outcome (List ℕ)
page_read widths sizes v page = read_outcome widths sizes v page (replicate sizes.width 0)

-- "drawn is what Count gives for its bytes"
unfoldable pub drawn_of : Widths → Sizes → Volume → ℕ → ℕ
drawn_of widths sizes v page = (count_outcome widths (page_read widths sizes v page).left).second

-- a page is set or empty
unfoldable pub state_text : Bool → List ℕ
state_text set = cond set (bytes " state=set\n") (bytes " state=empty\n")

-- "page=1 version=2 slot=3 drawn=64 state=set"
unfoldable pub fields_text : (page version slot drawn : ℕ) (set : Bool) → List ℕ
fields_text page version slot drawn set =
    bytes "page=" ++ (decimal page ++ (
    bytes " version=" ++ (decimal version ++ (
    bytes " slot=" ++ (decimal slot ++ (
    bytes " drawn=" ++ (decimal drawn ++
    state_text set)))))))

-- the line of a page: its committed version; "slot is the one read"; "a stored silence is set, with drawn 0"
unfoldable pub page_text : Widths → Sizes → Volume → ℕ → List ℕ
page_text widths sizes v page =
    let s = state_at v.state page in
    fields_text page s.committed (read_slot sizes.slots v page) (drawn_of widths sizes v page) (is_set s)

-- "the first such number": of n answers the first that is not 0; 0 where all are
unfoldable pub first_refusal : ℕ → (ℕ → ℕ) → ℕ
first_refusal zero answers = 0
first_refusal (suc n) answers = cond (eqb (first_refusal n answers) 0) (answers n) (first_refusal n answers)

-- the answer of a list: 0, or "If a read is refused … the first such number"
unfoldable pub list_answer : Widths → Sizes → Volume → ℕ
list_answer widths sizes v = first_refusal sizes.pages (λ page. (page_read widths sizes v page).answer)

-- "list prints only one line, answer= and the first such number"; else a line for each page, and answer=0 "as its last line"
unfoldable pub list_text : Widths → Sizes → Volume → List ℕ
list_text widths sizes v =
    cond (eqb (list_answer widths sizes v) 0)
    (join_parts sizes.pages (page_text widths sizes v) ++ answer_text 0)
    (answer_text (list_answer widths sizes v))

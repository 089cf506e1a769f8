-- The call withdraw.
use Rattle.std.specs.Prelude.{ℕ, List, not, ◌&&◌, ltb}
use Rattle.bounded.specs.Limits.{Widths}
use Rattle.outcome.specs.Outcome.{◌⇒◌otherwise◌, Outcome, settled}
use Rattle.sizes.specs.declared.Sizes.{Sizes}
use Rattle.sizes.specs.Sizes.{sizes_ok, state_fits}
use Rattle.state.specs.State.{state_at, state_words, state_sound, in_flight}
use Rattle.state.specs.Change.{withdrawn}

unfoldable pub withdraw_answer : Widths → Sizes → (state : List ℕ) (page : ℕ) → ℕ
withdraw_answer widths sizes state page =
    not (sizes_ok widths sizes && state_fits sizes.pages state) ⇒ 1 otherwise
    not (state_sound sizes.pages (state_at state)) ⇒ 5 otherwise
    not (ltb page sizes.pages) ⇒ 6 otherwise
    not (in_flight (state_at state page)) ⇒ 9 otherwise
    0

-- "Withdraw any page of a ring: every page of the ring leaves flight". It alters the state alone.
unfoldable pub withdraw_outcome : Widths → Sizes → (state : List ℕ) (page : ℕ) → Outcome (List ℕ)
withdraw_outcome widths sizes state page = settled (withdraw_answer widths sizes state page) 0 0 state (state_words sizes.pages (withdrawn sizes.pages (state_at state) page))

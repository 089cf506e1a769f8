-- The call launch.
use Rattle.std.specs.Prelude.{ℕ, List, Bool, not, ◌&&◌, eqb, length, get_or}
use Rattle.bounded.specs.Limits.{highest_version, Widths}
use Rattle.bounded.specs.Below.{some_below}
use Rattle.outcome.specs.Outcome.{◌⇒◌otherwise◌, Outcome, settled}
use Rattle.sizes.specs.declared.Sizes.{Sizes}
use Rattle.sizes.specs.Sizes.{sizes_ok, state_fits, list_ok}
use Rattle.state.specs.declared.PageState.{PageState}
use Rattle.state.specs.State.{state_at, state_words, state_sound, in_flight}
use Rattle.state.specs.Change.{launched}

-- "a listed page" that passes
unfoldable pub some_page : List ℕ → (ℕ → PageState) → (PageState → Bool) → Bool
some_page pages st f = some_below (length pages) (λ i. f (st (get_or pages i 0)))

-- "a listed page's used is 4,294,967,294"
unfoldable pub used_up : PageState → Bool
used_up s = eqb s.used highest_version

unfoldable pub launch_answer : Widths → Sizes → (state pages : List ℕ) → ℕ
launch_answer widths sizes state pages =
    not (sizes_ok widths sizes && state_fits sizes.pages state) ⇒ 1 otherwise
    not (state_sound sizes.pages (state_at state)) ⇒ 5 otherwise
    not (list_ok sizes.pages pages) ⇒ 6 otherwise
    some_page pages (state_at state) in_flight ⇒ 7 otherwise
    some_page pages (state_at state) used_up ⇒ 8 otherwise
    0

-- "Flash is untouched." It alters the state alone.
unfoldable pub launch_outcome : Widths → Sizes → (state pages : List ℕ) → Outcome (List ℕ)
launch_outcome widths sizes state pages = settled (launch_answer widths sizes state pages) 0 0 state (state_words sizes.pages (launched pages (state_at state)))

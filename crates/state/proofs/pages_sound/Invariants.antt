-- `state::pages_sound` meets its contract. The loop's invariant: every page below the counter is sound.
use mathlib.Core.Path.{◌≡◌}
use mathlib.Core.Bool.{true}
use Rattle.bounded.specs.Below.{all_below}
use Rattle.state.specs.State.{page_sound, state_at}
use Rattle.state.proofs.pages_sound.Given as goal

abbrev pub invariant-loop-page : goal.invariant-loop-page
invariant-loop-page l = all_below l.page (page_sound l.pages (state_at l.state)) ≡ true

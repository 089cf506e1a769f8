-- Document 01's case 12: launch, withdraw and launch again at the highest version, through the calls' whole outcomes.
use Rattle.std.specs.Prelude.{ℕ, List, [], ◌∷◌}
use Rattle.bounded.specs.Limits.{two_widths}
use Rattle.outcome.specs.Row.{Row, row}
use Rattle.sizes.specs.Sizes.{sizes_of}
use Rattle.state.specs.State.{state_words}
use Rattle.state.specs.Change.{at_rest}
use Rattle.rules.specs.Launch.{launch_outcome}
use Rattle.rules.specs.Withdraw.{withdraw_outcome}

-- the answers of launch, withdraw and launch of page 0, one page and one slot, from a state with this committed and this used version
unfoldable pub launched_again : (committed used : ℕ) → List ℕ
launched_again committed used =
    let launch = launch_outcome two_widths (sizes_of 1 1 32) (state_words 1 (λ p. at_rest committed used)) (0 ∷ []) in
    let withdraw = withdraw_outcome two_widths (sizes_of 1 1 32) launch.left 0 in
    launch.answer ∷ withdraw.answer ∷ (launch_outcome two_widths (sizes_of 1 1 32) withdraw.left (0 ∷ [])).answer ∷ []

-- "launch with used 4,294,967,293, then withdraw, launch again"
unfoldable pub launch_rows : List Row
launch_rows = row 12 (launched_again 0 4294967293) (0 ∷ 0 ∷ 8 ∷ []) ∷ row 12 (launched_again 4294967293 4294967293) (0 ∷ 0 ∷ 8 ∷ []) ∷ []

-- The cycle ("ring") through a page in flight: the pages that next leads to.
use Rattle.std.specs.Prelude.{ℕ, zero, suc, Bool, eqb}
use Rattle.bounded.specs.Below.{all_below, some_below}
use Rattle.state.specs.declared.PageState.{PageState}
use Rattle.state.specs.State.{is_written}

-- the page that k steps along next lead to
unfoldable pub along : (ℕ → PageState) → ℕ → ℕ → ℕ
along st p zero = p
along st p (suc k) = (st (along st p k)).next

-- q is on the cycle through p: next leads from p to q in fewer than P steps
unfoldable pub on_cycle : ℕ → (ℕ → PageState) → ℕ → ℕ → Bool
on_cycle P st p q = some_below P (λ k. eqb (along st p k) q)

-- "its whole ring is then written": each page that next leads to from p is written
unfoldable pub cycle_written : ℕ → (ℕ → PageState) → ℕ → Bool
cycle_written P st p = all_below P (λ k. is_written (st (along st p k)))

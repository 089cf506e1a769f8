-- The loop has written the pages below p, and nothing else; written whole, the state is the fresh one.
use Prim.Native.Nat.{ℕ}
use mathlib.Core.Path.{◌≡◌}
use mathlib.Core.List.{List}
use lib.ListN.{length}
use Rattle.bounded.specs.Fill.{filled}
use Rattle.state.specs.State.{page_words}
use Rattle.state.specs.Change.{fresh_state}
use Rattle.volume.proofs.format_state.Given as goal

unfoldable pub fresh_page : ℕ → List ℕ
fresh_page p = page_words (fresh_state p)

abbrev pub invariant-loop-p : goal.invariant-loop-p
invariant-loop-p l = (l.state ≡ filled 4 fresh_page l.p l.initial.state) × (length l.state ≡ length l.initial.state)

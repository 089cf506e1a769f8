-- The call check_blocks, document 02, wish 8: a table of blocks "is checked for loading by a call of its own, which takes P, S and the table and refuses by 1 and 17".
use Rattle.std.specs.Prelude.{ℕ, List, not}
use Rattle.bounded.specs.Limits.{Widths}
use Rattle.outcome.specs.Outcome.{◌⇒◌otherwise◌, Outcome, settled}
use Rattle.sizes.specs.declared.Sizes.{Sizes}
use Rattle.sizes.specs.Sizes.{sizes_ok}
use Rattle.sizes.specs.Blocks.{starts_ok}

unfoldable pub check_blocks_answer : Widths → Sizes → (starts : List ℕ) → ℕ
check_blocks_answer widths sizes starts =
    not (sizes_ok widths sizes) ⇒ 1 otherwise
    not (starts_ok sizes.slots starts) ⇒ 17 otherwise
    0

unfoldable pub check_blocks_outcome : Widths → Sizes → (starts : List ℕ) → Outcome (Unit {0})
check_blocks_outcome widths sizes starts = settled (check_blocks_answer widths sizes starts) 0 0 tt tt

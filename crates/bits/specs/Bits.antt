-- Bits ("stops") and the call count.
use Rattle.std.specs.Prelude.{ℕ, ◌*◌, ◌/◌, ◌%◌, ◌^◌, List, not, length, get_or}
use Rattle.bounded.specs.Limits.{Widths}
use Rattle.bounded.specs.Below.{sum_below}
use Rattle.outcome.specs.Outcome.{◌⇒◌otherwise◌, Outcome, settled}

-- "Stop s … is bit s mod 8 of byte s div 8, lowest bit first; 1 means drawn."
unfoldable pub bit_at : List ℕ → ℕ → ℕ
bit_at bytes s = get_or bytes (s / 8) 0 / 2 ^ (s % 8) % 2

-- "how many stops are drawn": the set bits
unfoldable pub set_bits : List ℕ → ℕ
set_bits bytes = sum_below (8 * length bytes) (bit_at bytes)

-- Document 02: "Count, which takes no volume, takes a slice of 32 or 64 bytes and no width": 1 where the slice's length is no width.
unfoldable pub count_answer : Widths → List ℕ → ℕ
count_answer widths bytes = not (widths (length bytes)) ⇒ 1 otherwise 0

-- "Count 32 bytes: how many stops are drawn; it takes no volume." It alters no buffer; refused, the drawn count is 0.
unfoldable pub count_outcome : Widths → List ℕ → Outcome (Unit {0})
count_outcome widths bytes = settled (count_answer widths bytes) 0 (set_bits bytes) tt tt

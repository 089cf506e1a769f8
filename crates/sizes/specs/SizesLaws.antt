-- What the tests of sizes say, as facts. That they say them is proofs/SizesLaws.antt.
use Rattle.std.specs.Prelude.{ℕ, ◌≤◌}
use Rattle.bounded.specs.Limits.{max_pages, max_slots}

-- "P pages (pistons), 1 to 256 … S slots, P to 1,024"
pub record SizesFacts (P S : ℕ) : Type 0 where
  pub one_page : 1 ≤ P
  pub pages_most : P ≤ max_pages
  pub slots_least : P ≤ S
  pub slots_most : S ≤ max_slots

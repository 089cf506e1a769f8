-- Laws of the reading: a volume is read as it was written, one cut short or with wrong sizes ends the reading, and the bytes that are read decide.
use Rattle.std.specs.Prelude.{ℕ, ◌+◌, ◌*◌, ◌≤◌, ◌≡◌, true}
use mathlib.Core.List.{List}
use Rattle.std.proofs.Math.ListN.{length}
use Rattle.bounded.specs.Limits.{Widths}
use Rattle.sizes.specs.Sizes.{sizes_ok}
use Rattle.fleet.specs.Input.{sizes_at, volume_length, sizes_taken}

-- ---- one volume

-- a volume that is whole
pub record WholeFacts (widths : Widths) (input : List ℕ) : Type 0 where
  pub header : 12 ≤ length input
  pub taken : sizes_taken widths (sizes_at input) ≡ true
  pub sizes_ok_lem : sizes_ok widths (sizes_at input) ≡ true
  pub all_there : volume_length (sizes_at input) ≤ length input
  -- its table's words
  pub words_there : 12 + 20 * (sizes_at input).slots ≤ length input
  pub words_most : 5 * (sizes_at input).slots ≤ 5120

-- ---- how many bytes decide

-- the longest volume has 1,024 slots, 32 wide; one 64 wide has at most 512
abbrev pub longest_volume : ℕ
longest_volume = 53260

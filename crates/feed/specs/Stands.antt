-- A script that is carried out, as the definitions have it.
use Rattle.std.specs.Prelude.{ℕ, List, ◌≡◌, length}
use Rattle.text.specs.Print.{shown}
use Rattle.report.specs.Report.{Standing, standing}
use Rattle.script.specs.Held.{memory_of, SameBuffers}
use Rattle.feed.specs.declared.Script.{Script}

-- where its run stands
abbrev pub stands_of : Script → Standing
stands_of script = standing script.run (memory_of script.memory)

-- the bytes held of a line that has not ended
abbrev pub held_of : Script → List ℕ
held_of script = shown script.line.out.now script.line.at

-- its memory and its line are of the same buffers, the memory as long as it was
pub record SameHeld (old new : Script) : Type 0 where
  pub same_memory : SameBuffers old.memory new.memory
  pub same_line : new.line.out.ghost_name ≡ old.line.out.ghost_name

-- all that it is lent is the same buffers, as long as they were
pub record SameRoom (old new : Script) : Type 0 where
  pub same_held : SameHeld old new
  pub same_out : new.out.out.ghost_name ≡ old.out.out.ghost_name
  pub line_length : length new.line.out.now ≡ length old.line.out.now
  pub out_length : length new.out.out.now ≡ length old.out.out.now

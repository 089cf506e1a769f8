-- The memory that the program holds.
use Rattle.std.specs.Prelude.{◌≡◌, length}
use Rattle.rules.specs.Volume.{Volume, volume}
use Rattle.script.specs.declared.Memory.{Memory}

-- as the definitions have it
abbrev pub memory_of : Memory → Volume
memory_of memory = volume memory.words.now memory.contents.now memory.state.now

-- the memory is of the same buffers, as long as they were
pub record SameBuffers (old new : Memory) : Type 0 where
  pub same_words : new.words.ghost_name ≡ old.words.ghost_name
  pub same_contents : new.contents.ghost_name ≡ old.contents.ghost_name
  pub same_state : new.state.ghost_name ≡ old.state.ghost_name
  pub words_length : length new.words.now ≡ length old.words.now
  pub contents_length : length new.contents.now ≡ length old.contents.now
  pub state_length : length new.state.now ≡ length old.state.now

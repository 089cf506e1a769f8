-- What the program holds on the desk of a run.
use Rattle.std.specs.Prelude.{◌≡◌, length}
use Rattle.rules.specs.Volume.{volume}
use Rattle.ledger.specs.Fills.{fills_of}
use Rattle.recorded.specs.Desk.{Desk, desk}
use Rattle.recorded.specs.declared.Desk.{Desk as Held}

-- as the definitions have it
abbrev pub desk_of : Held → Desk
desk_of d = desk (volume d.words.now d.contents.now d.state.now) (fills_of d.entered.now) d.kept.now

-- the buffers have the same lengths
pub record SameLengths (d e : Desk) : Type 0 where
  pub words : length d.volume.flash.words ≡ length e.volume.flash.words
  pub contents : length d.volume.flash.contents ≡ length e.volume.flash.contents
  pub state : length d.volume.state ≡ length e.volume.state
  pub entered : length d.entered ≡ length e.entered
  pub kept : length d.kept ≡ length e.kept

-- the desk is of the same buffers, as long as they were
pub record SameBuffers (old new : Held) : Type 0 where
  pub same_words : new.words.ghost_name ≡ old.words.ghost_name
  pub same_contents : new.contents.ghost_name ≡ old.contents.ghost_name
  pub same_state : new.state.ghost_name ≡ old.state.ghost_name
  pub same_entered : new.entered.ghost_name ≡ old.entered.ghost_name
  pub same_kept : new.kept.ghost_name ≡ old.kept.ghost_name
  pub same_lengths : SameLengths (desk_of new) (desk_of old)

-- What it means that a text is put into what is printed.
use Rattle.std.specs.Prelude.{ℕ, ◌≡◌, List, length}
use Rattle.text.specs.declared.print.Printout.{Printout}
use Rattle.text.specs.Print.{shown, added}

-- A text is put: it stands behind what the same buffer showed, as far as there is room.
pub record Puts (old new : Printout) (text : List ℕ) : Type 0 where
  pub same_buffer : new.out.ghost_name ≡ old.out.ghost_name
  pub same_length : length new.out.now ≡ length old.out.now
  pub puts : shown new.out.now new.at ≡ added old.out.now old.at text

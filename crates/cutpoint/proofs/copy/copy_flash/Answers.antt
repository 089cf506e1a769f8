use mathlib.Core.Path.{ap₂}
use Rattle.record.specs.Flash.{flash}
use Rattle.cutpoint.proofs.copy.copy_flash.Goals as goal

pub returns : goal.returns
returns c = ap₂ flash c.copy_from_slice.ensures.after c.copy_from_slice-2.ensures.after

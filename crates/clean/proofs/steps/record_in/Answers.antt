-- By what the slot holds.
use mathlib.Core.Path.{◌≡◌, refl, ◌∙◌}
use Rattle.std.specs.Prelude.{None, Some}
use Rattle.std.specs.Option.{unwrap_or}
use Rattle.record.specs.Slot.{Slot, blank_record}
use Rattle.upkeep.specs.Clean.{record_in}
use Rattle.clean.proofs.steps.record_in.Goals as goal

by_slot : (slot : Slot) → unwrap_or slot blank_record ≡ record_in slot
unfolding record_in
by_slot None = refl
by_slot (Some r) = refl

pub returns : goal.returns
unfolding blank_record
returns c = c.unwrap_or.ensures ∙ by_slot c.args.slot

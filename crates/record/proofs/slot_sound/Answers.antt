use mathlib.Core.Path.{sym, ap, ◌∙◌}
use Rattle.record.specs.Slot.{slot_sound}
use Rattle.record.proofs.slot_sound.Goals as goal

pub returns-in_default : goal.returns-in_default
unfolding slot_sound
returns-in_default c = sym (ap (slot_sound c.args.pages) c.in_default.is)

pub returns : goal.returns
unfolding slot_sound
returns c = c.is_sound.ensures ∙ sym (ap (slot_sound c.args.pages) c.in-Some.is)

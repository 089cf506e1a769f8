-- The words and the bytes that `fill_slot` leaves are those of the step.
use mathlib.Core.Path.{ap₂}
use Rattle.record.specs.Slot.{blank_record}
use Rattle.record.specs.Flash.{put_slot_in, apply_in, flash}
use Rattle.collect.proofs.blank_slot.Goals as goal

pub returns : goal.returns
unfolding apply_in put_slot_in blank_record
returns c = let s = c.fill_slot in ap₂ flash s.ensures.words_after s.ensures.contents_after

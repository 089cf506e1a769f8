-- A name for "these definitions compute": a declaration that unfolds it unfolds them all.
use Rattle.bounded.specs.Computing.{computing as bounded_computing}
use Rattle.record.specs.Flash.{put_slot_in, apply_in, apply_all_in}
use Rattle.record.specs.Slot.{encoded, decoded, blank_in, slot_from, slot_in, bytes_at, blank_record, formatted_record, planned_record, record_sound, slot_sound, is_blank, holds, some_record, straddles}

unfoldable pub computing : Unit {0}
unfolding bounded_computing put_slot_in apply_in apply_all_in encoded decoded blank_in slot_from slot_in bytes_at blank_record formatted_record planned_record record_sound slot_sound is_blank holds some_record straddles
computing = tt

-- The lent part comes back with the words of a blank slot, and the rest is as it was.
use Rattle.sizes.specs.declared.Layout.TheVariants.{FiveWords}
use Rattle.record.specs.Slot.{encoded, blank_record}
use Rattle.record.specs.SlotLaws.{encoded_length}
use Rattle.record.specs.CopyLaws.{lent_part}
use Rattle.doubtful.proofs.filling.blank_slot.Goals as goal

pub returns : goal.returns
unfolding blank_record
returns c = let s = c.store_five in
    let a = c.args in
    lent_part a.filled.now s.new.part (encoded FiveWords blank_record) 5 a.slot s.ensures (encoded_length FiveWords blank_record)

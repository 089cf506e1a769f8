-- Both branches give the record and the byte that a fresh slot has.
use Rattle.record.specs.Slot.{blank_record}
use Rattle.volume.specs.FormatLaws.{words_of_page, bytes_of_page, words_of_free, bytes_of_free}
use Rattle.volume.proofs.format_slot.Goals as goal
use Rattle.volume.proofs.format_slot.Goals.{then-slot-sizes, else-slot-sizes}

pub returns : goal.returns
unfolding blank_record
returns c = let a = c.args in
    let s = c.fill_slot.ensures in
    elim c.if-slot-sizes.branch [
      | then-slot-sizes w ↦ let h = w.if-slot-sizes.true in record {
        words_after = rw (words_of_page a.sizes.pages a.slot a.layout h, ← w.formatted.ensures) (rw w.byte-is at s.words_after);
        contents_after = rw (bytes_of_page a.sizes.pages a.slot a.sizes.width h) (rw w.byte-is at s.contents_after);
      }
      | else-slot-sizes w ↦ let h = w.if-slot-sizes.false in record {
        words_after = rw (words_of_free a.sizes.pages a.slot a.layout h) (rw w.byte-is at s.words_after);
        contents_after = rw (bytes_of_free a.sizes.pages a.slot a.sizes.width h) (rw w.byte-is at s.contents_after);
      }
    ]

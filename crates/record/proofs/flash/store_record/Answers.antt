-- Each layout's words are what the layout says.
use Rattle.record.specs.Slot.{encoded}
use Rattle.record.proofs.flash.store_record.Goals as goal

pub returns-in-FiveWords : goal.returns-in-FiveWords
unfolding encoded
returns-in-FiveWords c = rw c.in-FiveWords.is c.copy_from_slice.ensures.after

pub returns-in-FourWords : goal.returns-in-FourWords
unfolding encoded
returns-in-FourWords c = rw c.in-FourWords.is c.copy_from_slice-in-FourWords.ensures.after

-- Its parts are erased; the state and the ledger are as they were.
use mathlib.Core.Path.{refl}
use Rattle.bounded.specs.Limits.{two_widths}
use Rattle.recorded.specs.Held.{desk_of}
use Rattle.recorded.specs.StepLaws.{erase_after}
use Rattle.recorded.specs.BytesLaws.{erase_bytes}
use Rattle.recorded.proofs.Desk.erase_line.Goals as goal

pub erase_line-requires : goal.erase_line-requires
erase_line-requires c = let s = c.args.self.now in record { fits_in = s.ready.fits; pages_in_bounds = s.ready.kept_room; list_bound = c.requires }

pub returns : goal.returns
returns c = let s = c.args.self.now in
    let d = desk_of s in
    let e = c.erase_line.ensures in
    let leaves = erase_after two_widths s.sizes d s.trial c.args.list.now _ e.leaves in
    record { leaves = leaves; bytes = erase_bytes two_widths s.sizes d s.trial c.args.list.now leaves; counts = e.counts d.entered; same_sizes = refl; same_trial = refl; same_buffers = record { same_words = refl; same_contents = refl; same_state = refl; same_entered = refl; same_kept = refl; same_lengths = record { words = c.erase_line.auto.words; contents = c.erase_line.auto.contents; state = refl; entered = refl; kept = refl } } }

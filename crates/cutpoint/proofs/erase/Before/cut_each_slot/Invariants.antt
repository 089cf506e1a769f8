-- The invariant: with the cuts counted that are still to come, the tally is that of all.
use Prim.Native.Nat.{◌+◌}
use mathlib.Core.Path.{◌≡◌}
use lib.ListN.{length}
use Rattle.bounded.specs.Limits.{two_widths}
use Rattle.record.specs.Flash.{flash}
use Rattle.dispatch.specs.Dispatch.{lost}
use Rattle.ledger.specs.Ledger.{filled}
use Rattle.cutpoint.specs.Judged.{tallied, erase_cuts}
use Rattle.cutpoint.specs.JudgedLaws.{rest_tallied}
use Rattle.cutpoint.proofs.erase.Before.cut_each_slot.Given as goal

abbrev pub invariant-loop-slot : goal.invariant-loop-slot
invariant-loop-slot l = (l.so_far.same + l.so_far.differ ≡ l.initial.so_far.same + l.initial.so_far.differ + l.slot-index)
    × (rest_tallied two_widths l.self.sizes (flash l.self.words.now l.self.contents.now) (lost l.initial.state) (filled l.self.sizes.width l.self.fills.now) l.list l.slot-index l.so_far
    ≡ tallied l.initial.so_far (erase_cuts two_widths l.self.sizes (flash l.self.words.now l.self.contents.now) (lost l.initial.state) (filled l.self.sizes.width l.self.fills.now) l.list))
    × (length l.words ≡ length l.initial.words)
    × (length l.contents ≡ length l.initial.contents)
    × (length l.state ≡ length l.initial.state)

-- The invariant: the copies so far are done, and have altered no slot that is still to be copied.
use Rattle.std.specs.Iterator.Adapters.{zip_first, zip_second}
use Rattle.std.specs.Slice.Iter.{iter_rest}
use Rattle.record.specs.Flash.{flash}
use Rattle.clean.specs.Copying.{Copying}
use Rattle.clean.proofs.steps.copy_slots.Given as goal

abbrev pub invariant-loop-source : goal.invariant-loop-source
invariant-loop-source l = Copying l.sizes.width l.sizes.slots (flash l.initial.words l.initial.contents) l.from l.to (flash l.words l.contents) (iter_rest (zip_first l.source-iterator)) (iter_rest (zip_second l.source-iterator))

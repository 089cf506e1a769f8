-- What is stored is the record read, and the bytes that were read into the buffer.
use Prim.Native.Nat.{ℕ, ◌+◌, ◌*◌, ◌≤◌}
use mathlib.Core.Path.{sym, ap, ◌∙◌, subst}
use lib.ListN.{length}
use Rattle.upkeep.specs.Clean.{record_in}
use Rattle.clean.specs.Copying.{copy_is}
use Rattle.clean.proofs.steps.copy_through.Goals as goal

pub put_slot-requires : goal.put_slot-requires
put_slot-requires c = let p = c.requires in
    let a = c.args in
    record { layout_in_bounds = p.to_in_bounds; bytes_in_bounds = subst (λ (n : ℕ). n * a.to + n ≤ length a.contents.now) (sym c.read_slot.auto.out) p.buffer_in_bounds_2 }

pub returns : goal.returns
returns c = let s = c.put_slot.ensures in
    let r = c.read_slot in
    copy_is _ _ _ _ _ _ _ _ _ (c.record_in-record.ensures ∙ ap record_in c.slot_at.ensures) r.auto.out r.ensures s.words_after s.contents_after

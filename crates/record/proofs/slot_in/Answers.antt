-- The words lent are the slot's, as many as the layout says.
use Prim.Native.Nat.{ℕ, ◌*◌}
use native.Mathlib.Nat.{add-sub_cancel_left}
use mathlib.Core.Path.{ap, ◌∙◌}
use lib.ListN.{take, drop}
use Rattle.bounded.specs.Parts.{part}
use Rattle.record.specs.Slot.{slot_from, slot_in}
use Rattle.record.proofs.slot_in.Goals as goal

pub returns : goal.returns
unfolding slot_in part
returns c = let a = c.args in
    rw add-sub_cancel_left at c.decode_slot.ensures ∙ ap (λ (n : ℕ). slot_from a.layout (take n (drop (n * a.slot) a.words.now))) c.stride-n.ensures

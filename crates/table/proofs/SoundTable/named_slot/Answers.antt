use native.Mathlib.Omega.{arith}
use Prim.Native.Nat.{ℕ, ◌<◌, ◌≤◌}
use Rattle.std.specs.Prelude.{Option}
use mathlib.Core.Path.{sym, ap, ◌∙◌}
use Rattle.record.specs.Slot.{slot_in}
use Rattle.table.specs.HighestSlot.{named, entry_of}
use Rattle.table.proofs.HighestSlot.{named_slot, named_none}
use Rattle.table.proofs.SoundTable.named_slot.Goals as goal

pub returns-in_err-entry : goal.returns-in_err-entry
returns-in_err-entry c = let t = c.args.self.now in
    c.from_residual.ensures
    ∙ sym (named_none _ _ _ (let m : t.sizes.slots ≤ t.sizes.slots = omega arith in m))
    ∙ ap (λ (e : Option ℕ). named t.sizes.slots (slot_in t.layout t.words.now) (entry_of t.sizes.slots e)) (sym (c.in_err-entry.was))

pub returns-then-slot-self : goal.returns-then-slot-self
returns-then-slot-self c = let t = c.args.self.now in
    let beyond : t.sizes.slots ≤ c.in_ok-entry.field-0 = omega (arith, c.from-slot.ensures, c.if-slot-self.true) in
    sym (named_none _ _ _ beyond)
    ∙ ap (λ (e : Option ℕ). named t.sizes.slots (slot_in t.layout t.words.now) (entry_of t.sizes.slots e)) (sym (c.in_ok-entry.was))

pub returns : goal.returns
returns c = let t = c.args.self.now in
    let inside : c.in_ok-entry.field-0 < t.sizes.slots = omega (arith, c.from-slot.ensures, c.if-slot-self.false) in
    c.slot_in.ensures
    ∙ ap (slot_in t.layout t.words.now) c.from-slot.ensures
    ∙ sym (named_slot _ _ _ inside)
    ∙ ap (λ (e : Option ℕ). named t.sizes.slots (slot_in t.layout t.words.now) (entry_of t.sizes.slots e)) (sym (c.in_ok-entry.was))

use native.Mathlib.Omega.{arith}
use Prim.Native.Nat.{◌<◌}
use mathlib.Core.Path.{sym, ap, ◌∙◌}
use Rattle.record.specs.Slot.{Slot}
use Rattle.table.specs.Table.{above}
use Rattle.table.proofs.HighestSlot.{page_below, highest_read, highest_blank, highest_kept, highest_raised}
use Rattle.table.proofs.SoundTable.raise_highest.Goals as goal

pub returns-in_default : goal.returns-in_default
returns-in_default c = highest_blank _ _ _ _ c.requires.top_before (sym c.held_slot.ensures ∙ c.in_default.is)

-- a sound record's page is below the number of pages
pub bounds-top-p : goal.bounds-top-p
bounds-top-p c = let t = c.args.self.now in
    let m = t.pages_few in
    let s = page_below _ _ _ _ _ t.sound c.requires.k_lt_slots (sym c.held_slot.ensures ∙ c.in-Some.is) in
    omega arith

pub bounds-top-p-then-is_above : goal.bounds-top-p-then-is_above
bounds-top-p-then-is_above c = let t = c.args.self.now in
    let m = t.pages_few in
    let s = page_below _ _ _ _ _ t.sound c.requires.k_lt_slots (sym c.held_slot.ensures ∙ c.in-Some.is) in
    omega arith

pub returns-then-is_above : goal.returns-then-is_above
returns-then-is_above c = let t = c.args.self.now in
    let pre = c.requires in
    let r = c.in-Some.record in
    let holds = sym c.held_slot.ensures ∙ c.in-Some.is in
    let below : r.p < 256 = let s = page_below _ _ _ _ _ t.sound pre.k_lt_slots holds in let m = t.pages_few in omega arith in
    highest_raised _ _ _ _ pre.top_before r holds pre.k_lt_slots below
    (ap (λ (s : Slot). above s r)
    (sym (highest_read _ _ _ _ pre.top_before (omega arith) r.p below) ∙ sym c.named_slot.ensures)
    ∙ sym c.is_above.ensures
    ∙ c.if-is_above.true)

pub returns-else-is_above : goal.returns-else-is_above
returns-else-is_above c = let t = c.args.self.now in
    let pre = c.requires in
    let r = c.in-Some.record in
    let holds = sym c.held_slot.ensures ∙ c.in-Some.is in
    let below : r.p < 256 = let s = page_below _ _ _ _ _ t.sound pre.k_lt_slots holds in let m = t.pages_few in omega arith in
    highest_kept _ _ _ _ pre.top_before r holds
    (ap (λ (s : Slot). above s r)
    (sym (highest_read _ _ _ _ pre.top_before (omega arith) r.p below) ∙ sym c.named_slot.ensures)
    ∙ sym c.is_above.ensures
    ∙ c.if-is_above.false)

use native.Mathlib.Omega.{arith}
use Prim.Native.Nat.{ℕ, max}
use mathlib.Core.Path.{sym, ap, ◌∙◌}
use mathlib.Core.List.{List}
use lib.ListN.{set, get_or}
use Rattle.record.specs.SlotLaws.{sound_facts}
use Rattle.table.proofs.TableLaws.{sound_at}
use Rattle.table.proofs.UsedLaws.{used_blank, used_raised}
use Rattle.table.proofs.SoundTable.raise_mentioned.Goals as goal

pub returns-in_default : goal.returns-in_default
returns-in_default c = c.requires.used_value
    ∙ used_blank _ _ _ (sym c.held_slot.ensures ∙ c.in_default.is)

pub raise_entry-requires : goal.raise_entry-requires
raise_entry-requires c = let pre = c.requires in
    let s = sound_facts _ _ (sound_at _ _ _ _ c.args.self.now.sound pre.k_lt_slots (sym c.held_slot.ensures ∙ c.in-Some.is)) in
    let l = s.page_below in
    omega arith

pub raise_entry-requires-2 : goal.raise_entry-requires-2
raise_entry-requires-2 c = let pre = c.requires in
    let s = sound_facts _ _ (sound_at _ _ _ _ c.args.self.now.sound pre.k_lt_slots (sym c.held_slot.ensures ∙ c.in-Some.is)) in
    let l = s.next_below in
    omega arith

pub returns : goal.returns
returns c = let r = c.in-Some.record in
    let pre = c.requires in
    let holds = sym c.held_slot.ensures ∙ c.in-Some.is in
    let s = sound_facts _ _ (sound_at _ _ _ _ c.args.self.now.sound pre.k_lt_slots holds) in
    let p = s.page_below in
    let n = s.next_below in
    used_raised 256 _ _ r _ _ holds (omega arith) (omega arith)
    (c.raise_entry.ensures ∙ ap (λ (l : List ℕ). set l r.p (max (get_or l r.p 0) r.v)) pre.used_value)
    c.raise_entry-2.ensures

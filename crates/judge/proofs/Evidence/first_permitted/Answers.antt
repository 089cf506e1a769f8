use native.Mathlib.Omega.{arith}
use mathlib.Core.Path.{refl, sym, ◌∙◌}
use Rattle.bounded.specs.BelowLaws.{first_is, first_none}
use Rattle.rules.specs.Permission.{may_erase_alone}
use Rattle.judge.specs.Marked.{no_marks}
use Rattle.judge.specs.Evidence.{shown}
use Rattle.judge.specs.JudgeLaws.{none_more}
use Rattle.judge.proofs.Evidence.first_permitted.Goals as goal

pub loop-slot-init : goal.loop-slot-init
loop-slot-init c = (no_marks 1024 refl, λ k h. absurd (omega arith))

pub may_erase_alone-requires : goal.may_erase_alone-requires
may_erase_alone-requires c = record { slot_lt_slots = c.loop-slot-test.true; no_marks = c.loop-slot.invariant.0 }

pub returns-then-may_erase_alone : goal.returns-then-may_erase_alone
returns-then-may_erase_alone c = let l = c.loop-slot in
    let first = first_is _ _ l.slot c.loop-slot-test.true (sym c.may_erase_alone.ensures.value ∙ c.if-may_erase_alone.true) l.invariant.1 in
    (let inside = c.loop-slot-test.true in omega arith, sym first)

pub loop-slot-preserved : goal.loop-slot-preserved
loop-slot-preserved c = (c.may_erase_alone.ensures.no_marks_2, none_more _ _ c.loop-slot.invariant.1 (sym c.may_erase_alone.ensures.value ∙ c.if-may_erase_alone.false))

pub returns : goal.returns
returns c = let l = c.loop-slot in
    let e = c.args.self.now in
    let none = first_none (may_erase_alone (shown e)) e.table.sizes.slots (λ k h. l.invariant.1 k (omega arith)) in
    λ inside. absurd (omega arith)

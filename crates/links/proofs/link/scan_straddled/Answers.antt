use native.Mathlib.Omega.{arith}
use mathlib.Core.Path.{◌≡◌, sym, ap, ◌∙◌}
use Rattle.bounded.specs.BelowLaws.{some_zero, some_more, some_of}
use Rattle.record.specs.declared.Record.{Record}
use Rattle.record.specs.Slot.{holds, straddles, some_record}
use Rattle.rules.specs.Verdict.{is_straddled}
use Rattle.links.proofs.link.scan_straddled.Goals as goal

pub loop-k-init : goal.loop-k-init
loop-k-init c = some_zero _

pub returns-then-slot_straddles : goal.returns-then-slot_straddles
unfolding is_straddled some_record
returns-then-slot_straddles c = let a = c.args in
    sym (some_of _ _ c.loop-k.k c.loop-k-test.true
    (sym (c.slot_straddles.ensures ∙ ap (holds (λ (K : Record). straddles K a.link)) c.slot_at.ensures) ∙ c.if-slot_straddles.true))

pub loop-k-preserved : goal.loop-k-preserved
loop-k-preserved c = let a = c.args in
    some_more _ _ c.loop-k.invariant
    (sym (c.slot_straddles.ensures ∙ ap (holds (λ (K : Record). straddles K a.link)) c.slot_at.ensures) ∙ c.if-slot_straddles.false)

pub returns : goal.returns
unfolding is_straddled some_record
returns c = let l = c.loop-k in
    let e : l.k ≡ c.args.slots = omega arith in
    sym (rw e at l.invariant)

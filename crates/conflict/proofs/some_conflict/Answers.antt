use native.Mathlib.Omega.{arith}
use mathlib.Core.Path.{refl, sym, ◌∙◌}
use borrow.Author.Tests.{le-ltb}
use Rattle.bounded.specs.BelowLaws.{some_zero, some_more, some_of}
use Rattle.record.specs.Flash.{flash}
use Rattle.twins.specs.Twins.{some_conflict}
use Rattle.twins.proofs.TwinsLaws.{none_clashes}
use Rattle.chain.proofs.ChainLaws.{chained_none, chained_blank, blank_clashes_none}
use Rattle.conflict.proofs.some_conflict.Goals as goal

pub loop-k-init : goal.loop-k-init
unfolding some_conflict
loop-k-init c = (some_zero _, chained_none _ _ 2048 refl)

pub returns-then-conflicts_below : goal.returns-then-conflicts_below
unfolding some_conflict
returns-then-conflicts_below c = sym (some_of _ _ c.loop-k.k c.loop-k-test.true (sym c.conflicts_below.ensures ∙ c.if-conflicts_below.true))

pub loop-k-preserved : goal.loop-k-preserved
unfolding some_conflict
loop-k-preserved c = let l = c.loop-k in
    (some_more _ _ l.invariant.0 (sym c.conflicts_below.ensures ∙ c.if-conflicts_below.false), c.link_slot.ensures)

-- a blank slot conflicts with none, and is in no chain
pub loop-k-preserved-in_default : goal.loop-k-preserved-in_default
unfolding some_conflict
loop-k-preserved-in_default c = let a = c.args in
    let l = c.loop-k in
    let blank = sym c.slot_at.ensures ∙ c.in_default.is in
    let none = (blank_clashes_none _ _ blank).tells ∙ le-ltb 0 0 (omega arith) in
    (some_more _ _ l.invariant.0 (none_clashes a.sizes.width (flash a.words.now a.contents.now) l.k none), chained_blank _ _ _ _ l.invariant.1 blank)

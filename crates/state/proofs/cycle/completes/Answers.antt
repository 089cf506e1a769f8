use native.Mathlib.Omega.{arith}
use mathlib.Core.Path.{sym}
use Rattle.bounded.specs.Choice.{told}
use Rattle.state.specs.CompletionLaws.{searching_starts, searching_below, searching_more, searching_less, searching_fails, searching_ends}
use Rattle.state.proofs.cycle.completes.Goals as goal

pub loop-at-init : goal.loop-at-init
loop-at-init c = searching_starts _ _ _ c.requires _ c.page_at-at.ensures

pub page_at-s-requires : goal.page_at-s-requires
page_at-s-requires c = let b = searching_below _ _ _ c.requires _ c.loop-at.invariant in omega arith

pub returns-then-not-is_written : goal.returns-then-not-is_written
returns-then-not-is_written c = let w = c.requires in
    let h = c.loop-at.invariant in
    let away = c.loop-at-test.true in
    let read = c.page_at-s.ensures in
    sym (searching_fails _ _ _ w _ h away _ read (told c.is_written.ensures c.if-not-is_written.true))

pub loop-at-smaller : goal.loop-at-smaller
loop-at-smaller c = let w = c.requires in
    let h = c.loop-at.invariant in
    let away = c.loop-at-test.true in
    let read = c.page_at-s.ensures in
    searching_less _ _ _ w _ h away _ read

pub loop-at-preserved : goal.loop-at-preserved
loop-at-preserved c = let w = c.requires in
    let h = c.loop-at.invariant in
    let away = c.loop-at-test.true in
    let read = c.page_at-s.ensures in
    searching_more _ _ _ w _ h away _ read (told c.is_written.ensures c.if-not-is_written.false)

pub returns : goal.returns
returns c = sym (searching_ends _ _ _ c.requires _ c.loop-at.invariant c.loop-at-test.false)

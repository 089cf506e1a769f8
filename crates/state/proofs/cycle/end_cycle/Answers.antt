use native.Mathlib.Omega.{arith}
use Rattle.state.specs.Walk.{cycle_ended}
use Rattle.state.specs.WalkLaws.{walking_starts, walking_below, walking_length, walking_more, walking_less, walking_ends}
use Rattle.state.proofs.cycle.end_cycle.Goals as goal

pub loop-at-init : goal.loop-at-init
loop-at-init c = walking_starts _ _ _ c.requires _

pub page_at-s-requires : goal.page_at-s-requires
page_at-s-requires c = let w = c.requires in
    let h = c.loop-at.invariant in
    omega (arith, walking_below _ _ _ w _ _ _ h, walking_length _ _ _ w _ _ _ h)

pub put_page-requires : goal.put_page-requires
put_page-requires c = let w = c.requires in
    let h = c.loop-at.invariant in
    omega (arith, walking_below _ _ _ w _ _ _ h, walking_length _ _ _ w _ _ _ h)

pub returns-then-at-page : goal.returns-then-at-page
unfolding cycle_ended
returns-then-at-page c = let w = c.requires in
    let h = c.loop-at.invariant in
    let read = c.page_at-s.ensures in
    let made = c.ended.ensures in
    let put = c.put_page.ensures in
    walking_ends _ _ _ w _ _ _ h _ read _ _ made put c.if-at-page.true

pub loop-at-smaller : goal.loop-at-smaller
loop-at-smaller c = let w = c.requires in
    let h = c.loop-at.invariant in
    let read = c.page_at-s.ensures in
    walking_less _ _ _ w _ _ _ h _ read c.if-at-page.false

pub loop-at-preserved : goal.loop-at-preserved
loop-at-preserved c = let w = c.requires in
    let h = c.loop-at.invariant in
    let read = c.page_at-s.ensures in
    let made = c.ended.ensures in
    let put = c.put_page.ensures in
    walking_more _ _ _ w _ _ _ h _ read _ _ made put c.if-at-page.false

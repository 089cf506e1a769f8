use native.Mathlib.Omega.{arith}
use Rattle.state.specs.LaunchLaws.{launching_starts, launching_version, launching_more, launching_ends}
use Rattle.state.proofs.launch.launch_pages.Goals as goal

pub loop-i-init : goal.loop-i-init
loop-i-init c = launching_starts _ _ _ c.requires.0 c.requires.1

pub launched-requires : goal.launched-requires
launched-requires c = let w = c.requires in
    let h = c.loop-i.invariant in
    let listed = c.loop-i-test.true in
    omega (arith, launching_version _ _ _ w.0 w.1 _ _ h listed _ c.page_at-s.ensures)

pub loop-i-preserved : goal.loop-i-preserved
loop-i-preserved c = let w = c.requires in
    let h = c.loop-i.invariant in
    let listed = c.loop-i-test.true in
    let read = c.page_at-s.ensures in
    let next = c.following-next.ensures in
    let made = c.launched.ensures in
    let put = c.put_page.ensures in
    launching_more _ _ _ w.0 w.1 _ _ h listed _ read _ _ _ next made put

pub returns : goal.returns
returns c = let w = c.requires in
    launching_ends _ _ _ w.0 w.1 _ _ c.loop-i.invariant c.loop-i-test.false

use native.Mathlib.Omega.{arith}
use mathlib.Core.Path.{ap}
use Rattle.sizes.specs.declared.Layout.TheVariants.{FourWords}
use Rattle.record.specs.Slot.{slot_in}
use Rattle.chain.specs.Chain.{end_of}
use Rattle.chain.proofs.ChainLaws.{most_begins, most_goes_on, most_falls, most_ends}
use Rattle.links.specs.Committed.{mark, mark_max, marked_in_chain, marked_version}
use Rattle.links.proofs.second.version_below.Goals as goal

pub loop-at-init : goal.loop-at-init
loop-at-init c = let a = c.args in
    rw c.last_of_page-at.ensures (most_begins _ _ _ c.requires.chained _ _ (marked_in_chain (slot_in FourWords a.words.now) a.page a.version) (omega arith))

pub loop-at-smaller : goal.loop-at-smaller
loop-at-smaller c = let a = c.args in
    let l = c.loop-at in
    let h = most_falls _ _ _ c.requires.chained _ _ (marked_in_chain (slot_in FourWords a.words.now) a.page a.version) (mark l.best) (end_of l.at) c.in-Some.slot l.invariant (ap end_of c.in-Some.is) in
    let e = c.before-at.ensures in
    omega arith

pub loop-at-preserved : goal.loop-at-preserved
loop-at-preserved c = let a = c.args in
    let l = c.loop-at in
    rw (c.before-at.ensures, c.max-best.ensures, mark_max l.best c.version_under.result, c.version_under.ensures, c.slot_in-slot_held.ensures)
    (most_goes_on _ _ _ c.requires.chained _ _ (marked_in_chain (slot_in FourWords a.words.now) a.page a.version) (mark l.best) (end_of l.at) c.in-Some.slot l.invariant (ap end_of c.in-Some.is))

pub returns : goal.returns
returns c = let a = c.args in
    let l = c.loop-at in
    marked_version a.page a.version a.slots (slot_in FourWords a.words.now) l.best
    (most_ends _ _ _ c.requires.chained _ _ (marked_in_chain (slot_in FourWords a.words.now) a.page a.version) (mark l.best) (end_of l.at) l.invariant (ap end_of c.in_default.is))

use Prim.Native.Nat.{◌+◌}
use mathlib.Core.Path.{◌≡◌, refl, sym, ap, ◌∙◌}
use lib.ListN.{get_or}
use Rattle.record.specs.Slot.{slot_in, holds}
use Rattle.table.specs.Table.{of_version}
use Rattle.chain.specs.Chain.{chain_of, end_of}
use Rattle.chain.proofs.ChainLaws.{chain_below, version_in_chain, search_begins, search_goes_on, found_here, found_none, found_empty}
use Rattle.chain.proofs.version.find_version_from.Invariants.{sought}
use Rattle.chain.proofs.version.find_version_from.Goals as goal

-- none where the chain is empty
pub returns-in_err-slot : goal.returns-in_err-slot
returns-in_err-slot c = let a = c.args in
    let p = c.requires.chained_to in
    rw c.from_residual.ensures (found_empty p.key p.versions_together a.n (slot_in a.layout a.words.now) a.chains.now p.chained (sought a.page a.version) (sym p.end_is ∙ ap end_of c.in_err-slot.was))

pub loop-init : goal.loop-init
loop-init c = let a = c.args in
    let p = c.requires.chained_to in
    let e : c.in_ok-slot.slot + 1 ≡ get_or a.chains.now (chain_of p.key (sought a.page a.version)) 0 = sym (ap end_of c.in_ok-slot.was) ∙ p.end_is in (
      p.key,
      p.versions_together,
      p.chained,
      rw e (search_begins _ _ _ p.chained _ _ (version_in_chain p.key p.versions_together (slot_in a.layout a.words.now) (sought a.page a.version)) (chain_below p.key (sought a.page a.version))),
    )

pub returns-then-holds_version : goal.returns-then-holds_version
returns-then-holds_version c = let a = c.args in
    let l = c.loop.invariant in
    found_here _ _ _ l.2 _ _ (version_in_chain l.0 l.1 (slot_in a.layout a.words.now) (sought a.page a.version)) _ c.loop.slot l.3 refl
    (ap (holds (of_version a.page a.version)) (sym c.slot_in.ensures) ∙ sym c.holds_version.ensures ∙ c.if-holds_version.true)

pub returns-in_err-slot-2 : goal.returns-in_err-slot-2
returns-in_err-slot-2 c = let a = c.args in
    let l = c.loop.invariant in
    let narrower = version_in_chain l.0 l.1 (slot_in a.layout a.words.now) (sought a.page a.version) in
    let none = ap (holds (of_version a.page a.version)) (sym c.slot_in.ensures) ∙ sym c.holds_version.ensures ∙ c.if-holds_version.false in
    rw c.from_residual-in_err-slot-2.ensures (found_none _ _ _ l.2 _ _ narrower _ (search_goes_on _ _ _ l.2 _ _ narrower _ c.loop.slot l.3 refl none) (sym c.in_err-slot-2.ensures))

pub loop-preserved : goal.loop-preserved
loop-preserved c = let a = c.args in
    let l = c.loop.invariant in
    let narrower = version_in_chain l.0 l.1 (slot_in a.layout a.words.now) (sought a.page a.version) in
    let none = ap (holds (of_version a.page a.version)) (sym c.slot_in.ensures) ∙ sym c.holds_version.ensures ∙ c.if-holds_version.false in
    (l.0, l.1, l.2, rw c.in_ok-slot-2.ensures (search_goes_on _ _ _ l.2 _ _ narrower _ c.loop.slot l.3 refl none))

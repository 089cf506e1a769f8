use native.Mathlib.Omega.{arith}
use mathlib.Core.Path.{sym, ap, ◌∙◌}
use Rattle.bounded.specs.BelowLaws.{some_of}
use Rattle.record.specs.Flash.{flash}
use Rattle.chain.specs.Chain.{end_of}
use Rattle.chain.proofs.ChainLaws.{chain_below, search_begins, search_goes_on, search_falls, search_ends}
use Rattle.state.specs.State.{state_at}
use Rattle.rules.specs.Permission.{twin_outside}
use Rattle.rules.specs.Found.{by_found}
use Rattle.judge.specs.Marked.{marked}
use Rattle.judge.specs.JudgeLaws.{outside_in_chain, blank_none_outside}
use Rattle.judge.proofs.Evidence.twin_outside.Goals as goal

pub slot_at-requires : goal.slot_at-requires
slot_at-requires c = let h = c.args.self.now.table.within.slots_in_lem in omega arith

pub returns-in_default : goal.returns-in_default
unfolding by_found twin_outside
returns-in_default c = let e = c.args.self.now in
    sym (blank_none_outside e.table.sizes.width (flash e.table.words.now e.contents.now) (marked c.args.marks.now) c.args.slot e.table.sizes.slots (state_at e.table.state.now) (sym c.slot_at.ensures ∙ c.in_default.is))

pub loop-at-init : goal.loop-at-init
loop-at-init c = let p = c.requires in
    let holds = sym c.slot_at.ensures ∙ c.in-Some.is in
    let a = c.args in
    let e = c.args.self.now in
    (_, holds, rw c.last_of-at.ensures (search_begins _ _ _ e.table.searchable.chained _ _ (outside_in_chain e.table.sizes.width (flash e.table.words.now e.contents.now) (marked a.marks.now) a.slot holds) (chain_below _ _)))

pub is_twin_outside-requires : goal.is_twin_outside-requires
is_twin_outside-requires c = let p = c.requires in
    let s = ap end_of c.in-Some-at.is in
    let b = c.loop-at.invariant.2.in_table in
    record { other_lt_slots = omega arith; slot_lt_slots = c.requires }

pub returns-then-is_twin_outside : goal.returns-then-is_twin_outside
unfolding by_found twin_outside
returns-then-is_twin_outside c = let l = c.loop-at in
    let b = l.invariant.2.in_table in
    let s = ap end_of c.in-Some-at.is in
    sym (some_of _ _ c.in-Some-at.other (omega arith) (sym c.is_twin_outside.ensures ∙ c.if-is_twin_outside.true))

pub before-at-requires : goal.before-at-requires
before-at-requires c = let h = c.args.self.now.table.within.slots_few in
    let b = c.loop-at.invariant.2.in_table in
    let s = ap end_of c.in-Some-at.is in
    omega arith

pub loop-at-smaller : goal.loop-at-smaller
loop-at-smaller c = let l = c.loop-at in
    let a = c.args in
    let e = c.args.self.now in
    let h = search_falls _ _ _ c.args.self.now.table.searchable.chained _ _ (outside_in_chain e.table.sizes.width (flash e.table.words.now e.contents.now) (marked a.marks.now) a.slot l.invariant.1) (end_of l.at) c.in-Some-at.other l.invariant.2 (ap end_of c.in-Some-at.is) in
    let q = c.before-at.ensures in
    omega arith

pub loop-at-preserved : goal.loop-at-preserved
loop-at-preserved c = let l = c.loop-at in
    let a = c.args in
    let e = c.args.self.now in
    (l.invariant.0, l.invariant.1, rw c.before-at.ensures (search_goes_on _ _ _ c.args.self.now.table.searchable.chained _ _ (outside_in_chain e.table.sizes.width (flash e.table.words.now e.contents.now) (marked a.marks.now) a.slot l.invariant.1) (end_of l.at) c.in-Some-at.other l.invariant.2 (ap end_of c.in-Some-at.is) (sym c.is_twin_outside.ensures ∙ c.if-is_twin_outside.false)))

pub returns : goal.returns
unfolding by_found twin_outside
returns c = let l = c.loop-at in
    let a = c.args in
    let e = c.args.self.now in
    sym (search_ends _ _ _ c.args.self.now.table.searchable.chained _ _ (outside_in_chain e.table.sizes.width (flash e.table.words.now e.contents.now) (marked a.marks.now) a.slot l.invariant.1) _ l.invariant.2 (ap end_of c.in_default-at.is))

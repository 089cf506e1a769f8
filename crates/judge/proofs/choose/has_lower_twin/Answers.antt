use native.Mathlib.Omega.{arith}
use mathlib.Core.Path.{sym, ap, ◌∙◌}
use mathlib.Core.Bool.{◌&&◌}
use Rattle.bounded.specs.Choice.{both}
use Rattle.bounded.specs.BelowLaws.{some_of}
use Rattle.sizes.specs.Blocks.{in_block}
use Rattle.sizes.proofs.BlocksLaws.{inside_block, before_block, block_facts}
use Rattle.record.specs.Slot.{slot_at}
use Rattle.record.specs.SlotLaws.{not_blank_exactly}
use Rattle.record.specs.Flash.{flash}
use Rattle.twins.specs.Twins.{twins}
use Rattle.chain.specs.Chain.{end_of}
use Rattle.chain.proofs.ChainLaws.{search_goes_on, search_falls}
use Rattle.judge.specs.Judgeable.{slot_inside}
use Rattle.judge.specs.BlockTwins.{lower_in_chain, lower_begins, lower_entry, not_lower, lower_ends}
use Rattle.judge.proofs.choose.has_lower_twin.Goals as goal

pub before-at-requires : goal.before-at-requires
before-at-requires c = let few = c.requires.comparable.linkable.slots_few in omega arith

pub loop-at-init : goal.loop-at-init
loop-at-init c = let p = c.requires in
    let a = c.args in
    let f = flash a.words.now a.contents.now in
    let r = (not_blank_exactly (slot_at a.words.now a.slot)).0 p.slot_value_2 in
    let e = c.before-at.ensures in
    let l = lower_entry a.sizes.width f (in_block a.block) a.slot a.sizes.slots a.chains.now p.comparable.chained p.slot_lt_slots r.1 in
    (omega arith, r.0, r.1, rw e (lower_begins a.sizes.width f (in_block a.block) a.slot a.sizes.slots a.chains.now p.comparable.chained p.slot_lt_slots r.1))

pub are_twins-requires : goal.are_twins-requires
are_twins-requires c = let p = c.requires in
    let a = c.args in
    let l = c.loop-at in
    let b = l.invariant.3.in_table in
    let s = ap end_of c.in-Some.is in
    let inside = slot_inside a.sizes.slots a.sizes.width a.words.now a.contents.now p.comparable.linkable.slots_in_lem p.comparable.bytes_in in
    let j = inside c.in-Some.other (omega arith) in
    let k = inside a.slot p.slot_lt_slots in
    record { j_in_bounds = j.words_in; k_in_bounds = k.words_in; width_in_bounds = j.bytes_in; width_in_bounds_2 = k.bytes_in }

pub returns-then-are_twins : goal.returns-then-are_twins
returns-then-are_twins c = let p = c.requires in
    let a = c.args in
    let l = c.loop-at in
    let b = block_facts a.block a.slot p.slot_value in
    let o = b.1 in
    let n = l.invariant.0 in
    let s = ap end_of c.in-Some.is in
    sym (some_of (λ j. in_block a.block j && twins a.sizes.width (flash a.words.now a.contents.now) j a.slot) a.slot c.in-Some.other (omega arith)
    (both (inside_block a.block c.in-Some.other (omega arith) (omega arith)) (sym c.are_twins.ensures ∙ c.if-are_twins.true)))

pub before-at-requires-in-Some : goal.before-at-requires-in-Some
before-at-requires-in-Some c = let few = c.requires.comparable.linkable.slots_few in
    let b = c.loop-at.invariant.3.in_table in
    let s = ap end_of c.in-Some.is in
    omega arith

pub loop-at-smaller : goal.loop-at-smaller
loop-at-smaller c = let a = c.args in
    let l = c.loop-at in
    let h = search_falls _ _ _ c.requires.comparable.chained _ _ (lower_in_chain a.sizes.width (flash a.words.now a.contents.now) (in_block a.block) a.slot l.invariant.2) (end_of l.at) c.in-Some.other l.invariant.3 (ap end_of c.in-Some.is) in
    let e = c.before-at-in-Some.ensures in
    omega arith

pub loop-at-preserved : goal.loop-at-preserved
loop-at-preserved c = let a = c.args in
    let f = flash a.words.now a.contents.now in
    let l = c.loop-at in
    let narrower = lower_in_chain a.sizes.width f (in_block a.block) a.slot l.invariant.2 in
    let h = search_falls _ _ _ c.requires.comparable.chained _ _ narrower (end_of l.at) c.in-Some.other l.invariant.3 (ap end_of c.in-Some.is) in
    let e = c.before-at-in-Some.ensures in
    let n = l.invariant.0 in
    let no = not_lower a.sizes.width f (in_block a.block) a.slot c.in-Some.other (sym c.are_twins.ensures ∙ c.if-are_twins.false) in
    (omega arith, l.invariant.1, l.invariant.2, rw e (search_goes_on _ _ _ c.requires.comparable.chained _ _ narrower (end_of l.at) c.in-Some.other l.invariant.3 (ap end_of c.in-Some.is) no))

pub returns-then-other-block : goal.returns-then-other-block
returns-then-other-block c = let p = c.requires in
    let a = c.args in
    let l = c.loop-at in
    let s = ap end_of c.in-Some.is in
    let b = p.slot_lt_slots in
    sym (lower_ends a.sizes.width (flash a.words.now a.contents.now) (in_block a.block) a.slot a.sizes.slots (end_of l.at) l.invariant.3 (omega arith) (λ j h. before_block a.block j (omega arith)))

pub returns : goal.returns
returns c = let p = c.requires in
    let a = c.args in
    let l = c.loop-at in
    let s = ap end_of c.in_default.is in
    let b = p.slot_lt_slots in
    sym (lower_ends a.sizes.width (flash a.words.now a.contents.now) (in_block a.block) a.slot a.sizes.slots (end_of l.at) l.invariant.3 (omega arith) (λ j h. absurd (omega arith)))

use native.Mathlib.Omega.{arith}
use mathlib.Core.Path.{sym, ap, ◌∙◌}
use Rattle.bounded.specs.BelowLaws.{some_of}
use Rattle.record.specs.declared.Record.{Record}
use Rattle.record.specs.Slot.{slot_at, holds, straddles, some_record}
use Rattle.chain.specs.Chain.{end_of}
use Rattle.chain.proofs.ChainLaws.{straddler_in_chain, search_begins, search_goes_on, search_ends, end_none}
use Rattle.rules.specs.Verdict.{is_straddled}
use Rattle.links.proofs.link.is_straddled.Goals as goal

pub loop-init : goal.loop-init
loop-init c = rw c.last_of_page-at.ensures (search_begins _ _ _ c.requires.chained _ _ (straddler_in_chain (slot_at c.args.words.now) c.args.link) (omega arith))

pub loop-preserved : goal.loop-preserved
loop-preserved c = let a = c.args in
    rw c.before-at.ensures
    (search_goes_on _ _ _ c.requires.chained _ _ (straddler_in_chain (slot_at a.words.now) a.link) (end_of c.loop.at) c.in-Some.slot c.loop.invariant (ap end_of c.in-Some.is)
    (sym (c.slot_straddles.ensures ∙ ap (holds (λ (K : Record). straddles K a.link)) c.slot_at.ensures) ∙ c.if-slot_straddles.false))

pub returns-in_default : goal.returns-in_default
unfolding is_straddled some_record
returns-in_default c = let a = c.args in
    sym (search_ends _ _ _ c.requires.chained _ _ (straddler_in_chain (slot_at a.words.now) a.link) _ c.loop.invariant (ap end_of c.in_default.is))

pub returns-then-slot_straddles : goal.returns-then-slot_straddles
unfolding is_straddled some_record
returns-then-slot_straddles c = let a = c.args in
    let e = ap end_of c.in-Some.is in
    let b = c.loop.invariant.in_table in
    sym (some_of _ _ c.in-Some.slot (omega arith)
    (sym (c.slot_straddles.ensures ∙ ap (holds (λ (K : Record). straddles K a.link)) c.slot_at.ensures) ∙ c.if-slot_straddles.true))

pub returns-else-is_some : goal.returns-else-is_some
unfolding is_straddled some_record
returns-else-is_some c = let a = c.args in
    c.if-is_some.false
    ∙ sym (search_ends _ _ _ c.requires.chained _ _ (straddler_in_chain (slot_at a.words.now) a.link) _ c.loop.invariant (end_none _ (sym c.is_some.ensures ∙ c.if-is_some.false)))

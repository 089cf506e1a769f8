-- A blank slot changes nothing; a record's chain is one of 1,024.
use native.Mathlib.Omega.{arith}
use mathlib.Core.Path.{sym, ◌∙◌}
use Rattle.chain.proofs.ChainLaws.{chain_below, chained_blank, chained_record}
use Rattle.chain.proofs.link_slot.Goals as goal

pub returns-in_default : goal.returns-in_default
returns-in_default c = chained_blank _ _ _ _ c.requires.chained (sym c.slot_in.ensures ∙ c.in_default.is)

pub bounds-chains-chain : goal.bounds-chains-chain
bounds-chains-chain c = let e = c.chain_of-chain.ensures in
    omega (arith, chain_below c.args.key c.in-Some.record)

pub bounds-chains-chain-2 : goal.bounds-chains-chain-2
bounds-chains-chain-2 c = let e = c.chain_of-chain.ensures in
    omega (arith, chain_below c.args.key c.in-Some.record)

pub returns : goal.returns
returns c = let p = c.requires in
    rw c.chain_of-chain.ensures
    (chained_record _ _ _ _ p.chained c.in-Some.record (sym c.slot_in.ensures ∙ c.in-Some.is) p.k_bound)

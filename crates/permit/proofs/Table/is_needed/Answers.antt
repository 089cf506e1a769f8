use native.Mathlib.Omega.{arith}
use mathlib.Core.Path.{◌≡◌, refl, sym, ap, ◌∙◌}
use lib.ListN.{length}
use Rattle.bounded.specs.BelowLaws.{some_of, some_zero, some_more}
use Rattle.chain.specs.Chain.{end_of}
use Rattle.chain.proofs.ChainLaws.{chain_below, search_begins, search_goes_on, search_falls, search_ends}
use Rattle.permit.specs.SearchLaws.{outdone_in_chain, outdone_not_needed, straddled_needed, nothing_straddled}
use Rattle.permit.proofs.Table.is_needed.Goals as goal

pub search-init : goal.search-init
search-init c = (refl, some_zero _)

pub loop-at-init : goal.loop-at-init
loop-at-init c = rw c.last_of-at.ensures (search_begins _ _ _ c.args.self.now.searchable.chained _ _ (outdone_in_chain _ _) (chain_below _ _))

pub loop-at-smaller : goal.loop-at-smaller
loop-at-smaller c = let l = c.loop-at in
    let h = search_falls _ _ _ c.args.self.now.searchable.chained _ _ (outdone_in_chain _ _) (end_of l.at) c.in-Some.other l.invariant (ap end_of c.in-Some.is) in
    let e = c.before-at.ensures in
    omega arith

pub loop-at-preserved : goal.loop-at-preserved
loop-at-preserved c = let l = c.loop-at in
    rw c.before-at.ensures
    (search_goes_on _ _ _ c.args.self.now.searchable.chained _ _ (outdone_in_chain _ _) (end_of l.at) c.in-Some.other l.invariant (ap end_of c.in-Some.is) (sym c.slot_outdoes-better.ensures ∙ c.if-better.false))

pub search-preserved : goal.search-preserved
search-preserved c = let l = c.search in
    (l.invariant.0, some_more _ _ l.invariant.1 (sym c.slot_straddled.ensures ∙ c.if-slot_straddled.false))

pub returns-after-search : goal.returns-after-search
returns-after-search c = let l = c.search in
    let e : l.exposed-index ≡ length c.args.self.now.found.now = omega arith in
    l.invariant.0 ∙ sym (nothing_straddled _ _ _ _ _ (rw e at l.invariant.1))

pub returns-then-earlier_outdoes : goal.returns-then-earlier_outdoes
returns-then-earlier_outdoes c = c.search.invariant.0
    ∙ sym (outdone_not_needed _ _ _ _ _ (c.earlier_outdoes.ensures c.if-earlier_outdoes.true))

pub returns-then-better : goal.returns-then-better
returns-then-better c = let b = c.loop-at.invariant.in_table in
    let e = ap end_of c.in-Some.is in
    c.search.invariant.0
    ∙ sym (outdone_not_needed _ _ _ _ _ (some_of _ _ c.in-Some.other (omega arith) (sym c.slot_outdoes-better.ensures ∙ c.if-better.true)))

pub returns-in_default : goal.returns-in_default
returns-in_default c = sym (straddled_needed _ _ _ _ _ c.search.exposed-index c.search-test.true
    (sym c.slot_straddled.ensures ∙ c.if-slot_straddled.true)
    (search_ends _ _ _ c.args.self.now.searchable.chained _ _ (outdone_in_chain _ _) _ c.loop-at.invariant (ap end_of c.in_default.is)))

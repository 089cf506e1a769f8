use native.Mathlib.Omega.{arith}
use mathlib.Core.Path.{refl, sym, ◌∙◌}
use Rattle.record.specs.Slot.{slot_in}
use Rattle.chain.specs.Chain.{by_version}
use Rattle.chain.proofs.ChainLaws.{blank_clashes_none, found_clash}
use Rattle.chain.proofs.version.find_clash.Goals as goal

pub returns-in_default : goal.returns-in_default
returns-in_default c = let a = c.args in
    blank_clashes_none (slot_in a.layout a.words.now) a.k (sym c.slot_in.ensures ∙ c.in_default.is)

pub find_version-requires : goal.find_version-requires
unfolding by_version
find_version-requires c = let p = c.requires in record { n_in_bounds = omega (arith, p.layout_in_bounds); n_bound = p.k_bound; key_value = refl; chained = p.chained }

pub returns : goal.returns
returns c = let a = c.args in
    found_clash (slot_in a.layout a.words.now) a.k (sym c.slot_in.ensures ∙ c.in-Some.is) c.find_version.ensures

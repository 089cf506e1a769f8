use mathlib.Core.Path.{refl, sym, ◌∙◌}
use Rattle.chain.specs.declared.Key.TheVariants.{Page}
use Rattle.chain.specs.Chain.{by_version, chain_of}
use Rattle.chain.proofs.ChainLaws.{end_some}
use Rattle.links.specs.Shown.{slots_shown}
use Rattle.links.specs.Tables.{version_found}
use Rattle.links.proofs.committed.PageChains.version_present.Goals as goal

pub find_version_from-requires-clause-chained_to : goal.find_version_from-requires-clause-chained_to
unfolding by_version chain_of
find_version_from-requires-clause-chained_to c = record { key = Page; versions_together = refl; chained = c.args.self.now.chained; end_is = c.last_of_page-last.ensures }

pub returns : goal.returns
returns c = let t = c.args.self.now.survey.table in
    c.is_some.ensures ∙ sym (end_some _) ∙ sym c.find_version_from.ensures.tells ∙ version_found t.sizes.slots (slots_shown t) c.args.page c.args.version

use mathlib.Core.Path.{ap, ◌∙◌}
use Rattle.table.specs.Table.{version_in, highest_version_of}
use Rattle.links.specs.Shown.{slots_shown}
use Rattle.links.specs.Committed.{link_passed, link_beyond, link_equal}
use Rattle.links.proofs.link.StraddlerChains.link_verdict.Goals as goal

pub returns-then-link-hv : goal.returns-then-link-hv
unfolding highest_version_of
returns-then-link-hv c = let t = c.args.self.now.survey.table in
    c.passed_verdict.ensures ∙ link_passed t.layout t.sizes.slots (slots_shown t) c.args.link _ (c.version_in-hv.ensures ∙ ap version_in c.highest_of.ensures) c.if-link-hv.true

pub returns-then-hv-link : goal.returns-then-hv-link
unfolding highest_version_of
returns-then-hv-link c = let t = c.args.self.now.survey.table in
    link_beyond t.layout t.sizes.slots (slots_shown t) c.args.link _ (c.version_in-hv.ensures ∙ ap version_in c.highest_of.ensures) c.if-hv-link.true

pub returns : goal.returns
unfolding highest_version_of
returns c = let t = c.args.self.now.survey.table in
    link_equal t.layout t.sizes.slots (slots_shown t) c.args.link _ (c.version_in-hv.ensures ∙ ap version_in c.highest_of.ensures) c.if-link-hv.false c.if-hv-link.false

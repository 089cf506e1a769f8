use native.Mathlib.Omega.{arith}
use mathlib.Core.Path.{sym, ap, ◌∙◌}
use Rattle.links.specs.Committed.{slot_verdict_in, verdict_by_slot}
use Rattle.links.specs.Shown.{slots_shown}
use Rattle.links.specs.Tables.{top_next}
use Rattle.links.proofs.link.StraddlerChains.verdict_of.Goals as goal

pub returns-in_default : goal.returns-in_default
unfolding slot_verdict_in
returns-in_default c = let t = c.args.self.now.survey.table in
    sym (verdict_by_slot t.layout t.sizes.slots (slots_shown t) c.args.page
    ∙ ap (slot_verdict_in t.layout t.sizes.slots (slots_shown t)) (sym c.highest_of.ensures ∙ c.in_default.is))

pub link_verdict-requires : goal.link_verdict-requires
link_verdict-requires c = let t = c.args.self.now.survey.table in
    let l = top_next t _ c.in-Some.link (sym c.highest_of.ensures ∙ c.in-Some.is) in
    let m = t.pages_few in
    omega arith

pub returns : goal.returns
unfolding slot_verdict_in
returns c = let t = c.args.self.now.survey.table in
    c.link_verdict.ensures
    ∙ sym (verdict_by_slot t.layout t.sizes.slots (slots_shown t) c.args.page
    ∙ ap (slot_verdict_in t.layout t.sizes.slots (slots_shown t)) (sym c.highest_of.ensures ∙ c.in-Some.is))

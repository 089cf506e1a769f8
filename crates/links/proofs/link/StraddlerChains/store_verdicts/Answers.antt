use Rattle.std.proofs.Common.{arith, ◌∙◌}
use Rattle.std.proofs.lemmas.List.{get_or-replicate}
use Rattle.bounded.specs.Choice.{on_lt}
use Rattle.follow.specs.declared.Verdict.TheVariants.{Committed, Uncommitted}
use Rattle.links.specs.Tables.{verdict_beyond}
use Rattle.links.proofs.link.StraddlerChains.store_verdicts.Goals as goal

pub loop-page-init : goal.loop-page-init
loop-page-init c = record { stored = λ p h. absurd (omega arith); others = λ p h l. get_or-replicate 256 p Uncommitted Committed l }

pub returns : goal.returns
returns c p h = let i = c.loop-page.invariant in
    let t = c.args.self.now.survey.table in
    on_lt p t.sizes.pages (λ l. i.stored p (omega arith)) (λ l. i.others p (omega arith) h ∙ verdict_beyond t p l h)

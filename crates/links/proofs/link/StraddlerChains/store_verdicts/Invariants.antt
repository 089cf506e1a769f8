-- The invariant: the verdicts below `page` are stored, and the others are uncommitted.
use Rattle.std.proofs.Common.{◌≡◌, ℕ, ◌≤◌, ◌<◌}
use Rattle.follow.specs.declared.Verdict.TheVariants.{Uncommitted}
use Rattle.follow.specs.Verdicts.{listed}
use Rattle.links.specs.Shown.{verdict_shown}
use Rattle.links.proofs.link.StraddlerChains.store_verdicts.Given as goal

abbrev pub invariant-loop-page : goal.invariant-loop-page
invariant-loop-page l = record {
  stored : (p : ℕ) → p < l.page → listed l.verdicts p ≡ verdict_shown l.self.survey.table p;
  others : (p : ℕ) → l.page ≤ p → p < 256 → listed l.verdicts p ≡ Uncommitted;
}

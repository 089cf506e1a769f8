-- Where the chain has no slot before this one nothing is said.
use mathlib.Core.Path.{sym, ◌∙◌}
use Rattle.bounded.specs.BelowLaws.{some_of}
use Rattle.permit.proofs.Table.earlier_outdoes.Goals as goal

pub returns-then-other-self : goal.returns-then-other-self
returns-then-other-self c = λ e. some_of _ _ c.in-Some.other c.if-other-self.true (sym c.slot_outdoes.ensures ∙ e)

-- A length that is no width is refused; else the second number is what was counted.
use native.Mathlib.Omega.{arith}
use Prim.Native.Nat.{ℕ}
use mathlib.Core.Path.{ap, ◌∙◌}
use Rattle.bounded.specs.Choice.{told}
use Rattle.outcome.specs.Reply.{outcome_of}
use Rattle.outcome.specs.Result.{refused, done}
use Rattle.outcome.specs.declared.Refusal.TheVariants.{WrongSize}
use Rattle.sizes.proofs.SizesLaws.{width_most}
use Rattle.bits.specs.Bits.{count_answer, count_outcome}
use Rattle.bits.proofs.count.Goals as goal

pub returns-then-not-width_ok : goal.returns-then-not-width_ok
unfolding count_outcome count_answer
returns-then-not-width_ok c = refused 0 _ (tt {0}) (tt {0}) WrongSize (rw (told c.width_ok.ensures c.if-not-width_ok.true))

pub count_bits-requires : goal.count_bits-requires
count_bits-requires c = let most = width_most _ (told c.width_ok.ensures c.if-not-width_ok.false) in omega arith

pub returns : goal.returns
unfolding count_outcome count_answer
returns c = ap (λ (n : ℕ). outcome_of 0 n (tt {0})) c.count_bits.ensures ∙ done 0 _ (tt {0}) (tt {0}) (rw (told c.width_ok.ensures c.if-not-width_ok.false))

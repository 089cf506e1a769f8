use Rattle.std.proofs.Common.{arith}
use Rattle.text.specs.Scan.{max_number}
use Rattle.text.proofs.scan.grown.Goals as goal

pub returns-in_err-checked_mul : goal.returns-in_err-checked_mul
unfolding max_number
returns-in_err-checked_mul c = grind arith

pub returns : goal.returns
unfolding max_number
returns c = grind arith

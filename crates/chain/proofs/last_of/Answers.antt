use native.Mathlib.Omega.{arith}
use Rattle.chain.proofs.ChainLaws.{chain_below}
use Rattle.chain.proofs.last_of.Goals as goal

pub bounds-chains-chain : goal.bounds-chains-chain
bounds-chains-chain c = let a = c.args in let e = c.chain_of-chain.ensures in omega (arith, chain_below a.key a.«record»)

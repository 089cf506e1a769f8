use Rattle.chain.specs.Chain.{chain_of}
use Rattle.chain.proofs.chain_of.Goals as goal

pub returns-in-Page : goal.returns-in-Page
unfolding chain_of
returns-in-Page c = rw c.in-Page.is

pub returns-in-Straddler : goal.returns-in-Straddler
unfolding chain_of
returns-in-Straddler c = rw c.in-Straddler.is c.straddler_chain.ensures

pub returns-in-Pointer : goal.returns-in-Pointer
unfolding chain_of
returns-in-Pointer c = rw c.in-Pointer.is

pub returns-in-Version : goal.returns-in-Version
unfolding chain_of
returns-in-Version c = rw c.in-Version.is

use borrow.Author.Tests.{lt-ltb, le-ltb}
use Rattle.bounded.specs.Choice.{on_lt}
use Rattle.table.specs.Table.{has_version}
use Rattle.rules.specs.laws.Chains.{read_own}
use Rattle.listing.proofs.read_own.Goals as goal

pub returns-in-Some : goal.returns-in-Some
unfolding read_own has_version
returns-in-Some c = rw (lt-ltb _ _ c.requires.page_lt_pages, lt-ltb _ _ c.in-Some.ensures.0)

pub returns-in-None : goal.returns-in-None
unfolding read_own has_version
returns-in-None c = rw (lt-ltb _ _ c.requires.page_lt_pages, on_lt _ _ (λ l. absurd (c.in-None.ensures l)) (λ l. le-ltb _ _ l))

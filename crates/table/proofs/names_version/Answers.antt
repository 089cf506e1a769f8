-- A slot that holds a record has its page and version in front.
use borrow.Author.Tests.{eqb-false}
use Rattle.table.proofs.Inside.{other_page, other_version}
use Rattle.table.proofs.names_version.Goals as goal

pub returns-then-words-at : goal.returns-then-words-at
returns-then-words-at c e = let a = c.args in
    other_version a.layout a.words.now a.slot a.page a.version c.requires (rw c.stride.ensures at (eqb-false _ _ e))

pub returns-else-words-at : goal.returns-else-words-at
returns-else-words-at c e = let a = c.args in
    other_page a.layout a.words.now a.slot a.page a.version c.requires (rw c.stride.ensures at (eqb-false _ _ e))

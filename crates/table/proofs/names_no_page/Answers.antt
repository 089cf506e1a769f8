-- A slot that holds a record has its page in front.
use mathlib.Core.Path.{sym, ◌∙◌}
use borrow.Author.Tests.{eqb-true}
use Rattle.table.proofs.Inside.{first_word}
use Rattle.table.proofs.names_no_page.Goals as goal

pub returns : goal.returns
returns c e r h = let a = c.args in
    sym (first_word a.layout a.words.now a.slot r c.requires h) ∙ eqb-true _ _ (rw c.stride.ensures at e)

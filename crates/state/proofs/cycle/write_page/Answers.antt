-- `state::cycle::write_page` meets its contract. The search decides which of the two states is left.
use mathlib.Core.Path.{sym, ◌∙◌}
use Rattle.state.specs.CompletionLaws.{written_done, written_not}
use Rattle.state.proofs.cycle.write_page.Goals as goal

pub returns-then-completes : goal.returns-then-completes
returns-then-completes c = let done = sym c.completes.ensures ∙ c.if-completes.true in
    (sym done, written_done _ _ _ c.requires done _ c.end_cycle.ensures)

pub returns : goal.returns
returns c = let not_done = sym c.completes.ensures ∙ c.if-completes.false in
    let read = c.page_at-s.ensures in
    let made = c.written_page.ensures in
    (sym not_done, written_not _ _ _ c.requires not_done _ _ _ read made c.put_page.ensures)

-- A slot of a sound table that names no page is blank.
use mathlib.Core.Path.{sym}
use Rattle.table.proofs.HighestSlot.{no_page_blank}
use Rattle.table.proofs.SoundTable.held_slot.Goals as goal

pub returns-then-names_no_page : goal.returns-then-names_no_page
returns-then-names_no_page c = let t = c.args.self.now in
    sym (no_page_blank _ _ _ _ t.sound c.requires t.pages_few (λ r e. c.names_no_page.ensures c.if-names_no_page.true r e))

-- `state::page_at` meets its contract. The four words read are the page's.
use Rattle.state.specs.StateLaws.{state_at_reads}
use mathlib.Core.Path.{sym}
use Rattle.state.proofs.page_at.Goals as goal

pub returns : goal.returns
returns c = sym (state_at_reads c.args.state.now c.args.page)

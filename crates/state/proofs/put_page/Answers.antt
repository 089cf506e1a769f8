-- `state::put_page` meets its contract. The words stored are the page's.
use Rattle.state.specs.State.{page_words}
use Rattle.state.specs.StateLaws.{page_stored}
use Rattle.state.proofs.put_page.Goals as goal

pub returns : goal.returns
unfolding page_words
returns c = page_stored c.args.state.now _ c.args.page c.args.s c.copy_from_slice.ensures.after

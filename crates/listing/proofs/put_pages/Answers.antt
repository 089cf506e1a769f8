use Rattle.bounded.specs.Parts.{join_from, join_parts}
use Rattle.text.specs.PutsLaws.{puts_none}
use Rattle.listing.specs.Listing.{page_text, list_answer}
use Rattle.listing.specs.ListingLaws.{all_accepted, puts_parts}
use Rattle.listing.proofs.put_pages.Goals as goal

pub loop-page-init : goal.loop-page-init
unfolding join_from join_parts
loop-page-init c = puts_none c.args.out.now

pub put_page-requires : goal.put_page-requires
unfolding list_answer
put_page-requires c = all_accepted _ _ c.loop-page.page c.requires c.loop-page-test.true

pub loop-page-preserved : goal.loop-page-preserved
loop-page-preserved c = puts_parts (page_text _ _ _) _ _ _ c.loop-page.page c.loop-page.invariant c.put_page.ensures

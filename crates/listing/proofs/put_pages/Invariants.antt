-- The invariant: the lines of the pages before `page` are put.
use Rattle.bounded.specs.Limits.{two_widths}
use Rattle.bounded.specs.Parts.{join_parts}
use Rattle.text.specs.Puts.{Puts}
use Rattle.rules.specs.Volume.{volume}
use Rattle.listing.specs.Listing.{page_text}
use Rattle.listing.proofs.put_pages.Given as goal

abbrev pub invariant-loop-page : goal.invariant-loop-page
invariant-loop-page l = Puts l.initial.out l.out (join_parts l.page (page_text two_widths l.sizes (volume l.words l.contents l.state)))

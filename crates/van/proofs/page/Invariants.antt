-- The invariant: what is still to be printed, put behind what is printed, makes the whole page.
use Rattle.bounded.specs.Limits.{two_widths}
use Rattle.text.specs.declared.print.Printout.{Printout}
use Rattle.text.specs.Puts.{Puts}
use Rattle.fleet.specs.Page.{van_page}
use Rattle.van.specs.Tally.{TallyFew}
use Rattle.van.specs.Rest.{rest_from}
use Rattle.van.proofs.page.Given as goal

abbrev pub invariant-loop-number : goal.invariant-loop-number
invariant-loop-number l = TallyFew l.number l.tally
    × ((last : Printout) → Puts l.printed last (rest_from l.tally l.number l.rest) → Puts l.initial.printed last (van_page two_widths l.input))

use Rattle.std.proofs.Common.{rules}
use Rattle.text.specs.Scan.{bytes}
use Rattle.text.specs.PutsLaws.{puts_from}
use Rattle.cuts.proofs.refuse.Goals as goal

pub returns : goal.returns
unfolding bytes
returns c = let begins = c.new-print.ensures in
    let p = c.put_text.ensures in
    puts_from _ _ _ _ _ _ p begins.holds begins.place (search rules)

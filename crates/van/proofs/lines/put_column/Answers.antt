-- The place behind the digits is how many there are.
use mathlib.Core.Path.{ap}
use lib.ListN.{length}
use Rattle.text.specs.PutsLaws.{puts_next}
use Rattle.fleet.specs.Page.{column}
use Rattle.van.specs.Columns.{digits_counted}
use Rattle.van.proofs.lines.put_column.Goals as goal

pub returns : goal.returns
unfolding column
returns c = let alone = c.new-alone.ensures in
    let p = c.put_number.ensures in
    let n = digits_counted _ _ _ c.args.n (ap length alone.holds) p.same_length (rw alone.place at p.puts) in
    puts_next _ _ _ _ _ (rw (c.saturating_sub.ensures, n) at c.put_blanks.ensures) c.put_number-2.ensures

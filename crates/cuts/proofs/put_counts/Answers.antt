use Rattle.std.proofs.Common.{rules}
use Rattle.text.specs.Scan.{bytes}
use Rattle.text.specs.PutsLaws.{puts_field, puts_from}
use Rattle.cuts.specs.Recording.{counts_text}
use Rattle.cuts.proofs.put_counts.Goals as goal

pub returns : goal.returns
unfolding counts_text bytes
returns c = let begins = c.new-print.ensures in
    let p =
    puts_field _ _ _ (bytes "cuts=") _ _ c.put_field.ensures
    (puts_field _ _ _ (bytes " same=") _ _ c.put_field-2.ensures (puts_field _ _ _ (bytes " differ=") _ _ c.put_field-3.ensures c.put_text.ensures)) in
    puts_from _ _ _ _ _ _ p begins.holds begins.place (search rules)

use native.Mathlib.Omega.{arith}
use mathlib.Core.Path.{◌≡◌}
use Rattle.std.proofs.Common.{rules}
use Rattle.bounded.specs.Choice.{told}
use Rattle.text.specs.declared.print.Printout.{Printout}
use Rattle.text.specs.PutsLaws.{puts_next, puts_from}
use Rattle.fleet.specs.Entry.{comes_to}
use Rattle.van.specs.Tally.{end_text}
use Rattle.van.specs.TallyLaws.{none_few, few_within, tallied_few}
use Rattle.van.specs.PageFrom.{none_is}
use Rattle.van.specs.Rest.{rest_from, rest_all, rest_ends, rest_many, length_inside, entry_small, rest_next}
use Rattle.van.proofs.page.Goals as goal
use Rattle.van.proofs.page.Goals.{else-loop-number-test, then-loop-number-test+then-is_empty}

pub loop-number-init : goal.loop-number-init
loop-number-init c = let e = none_is _ c.default-tally.ensures in
    (rw e none_few, λ (last : Printout) p. rw (e, ← rest_all c.args.input.now) at p)

pub with-tally-requires : goal.with-tally-requires
with-tally-requires c = let l = c.loop-number in
    let first = c.first_of-first in
    record { tally_few = few_within l.number 32 l.tally (omega arith) l.invariant.0; small_entry = rw c.numbered-entry.ensures (entry_small l.tally l.number l.rest.now first.result first.ensures) }

pub slice_bounds-rest-count : goal.slice_bounds-rest-count
slice_bounds-rest-count c = let l = c.loop-number in
    let first = c.first_of-first in
    length_inside l.tally l.number l.rest.now first.result first.ensures

pub slice_bounds-rest-start : goal.slice_bounds-rest-start
slice_bounds-rest-start c = let l = c.loop-number in
    let first = c.first_of-first in
    length_inside l.tally l.number l.rest.now first.result first.ensures

pub loop-number-preserved : goal.loop-number-preserved
loop-number-preserved c = let l = c.loop-number in
    let first = c.first_of-first in
    let entry = comes_to first.result.entry in
    let numbered = c.numbered-entry.ensures in
    let with = rw numbered at c.with-tally.ensures in (
      rw with (tallied_few l.number l.tally entry l.invariant.0 (entry_small l.tally l.number l.rest.now first.result first.ensures)),
      λ (last : Printout) p. l.invariant.1 last
          (rw (rest_next l.tally l.number l.rest.now first.result first.ensures (omega arith) (told c.is_empty.ensures c.if-is_empty.false)) at (puts_next _ _ _ _ _ (rw numbered at c.put_volume.ensures) (rw with at p))),
    )

pub returns : goal.returns
returns c = let l = c.loop-number in
    let n = c.new-printed.ensures in
    let ends : rest_from l.tally l.number l.rest.now ≡ end_text l.tally =
    elim c.loop-number-test.branch [
      | else-loop-number-test w ↦ rest_many l.tally l.number l.rest.now (omega arith)
      | then-loop-number-test+then-is_empty w ↦ rest_ends l.tally l.number l.rest.now (told w.is_empty.ensures w.if-is_empty.true)
    ] in
    let p = l.invariant.1 _ (rw (← ends) at c.put_end.ensures) in
    puts_from _ _ _ _ _ _ p n.holds n.place (search rules)

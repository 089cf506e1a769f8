use native.Mathlib.Omega.{arith}
use Rattle.text.specs.Print.{decimal}
use Rattle.text.specs.PrintLaws.{first_before, digits_part}
use Rattle.text.proofs.print.Printout.put_number.Goals as goal

pub slice_bounds-put_text-count : goal.slice_bounds-put_text-count
slice_bounds-put_text-count c = let d = c.digits_of-first in
    omega (arith, first_before d.new.digits d.result 9 _ d.ensures d.auto.digits)

pub slice_bounds-put_text-start : goal.slice_bounds-put_text-start
slice_bounds-put_text-start c = let d = c.digits_of-first in
    first_before d.new.digits d.result 9 _ d.ensures d.auto.digits

pub returns : goal.returns
unfolding decimal
returns c = let d = c.digits_of-first in
    rw (digits_part d.new.digits d.result 9 c.args.n d.ensures d.auto.digits) at c.put_text.ensures

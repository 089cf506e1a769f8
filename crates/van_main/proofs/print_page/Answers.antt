-- What is printed ends in the buffer.
use Rattle.std.proofs.Common.{arith, length-take}
use Rattle.bounded.specs.Limits.{two_widths}
use Rattle.fleet.proofs.PageLaws.{page_ends}
use Rattle.van_main.proofs.print_page.Goals as goal

pub slice_bounds-out-end : goal.slice_bounds-out-end
slice_bounds-out-end g c = let p = c.page-end in page_ends two_widths _ _ p.new.out p.result (omega arith) p.auto.out p.ensures

pub slice_bounds-write_all-end : goal.slice_bounds-write_all-end
slice_bounds-write_all-end g c =
    let p = c.page-end in
    let e = page_ends two_widths _ _ p.new.out p.result (omega arith) p.auto.out p.ensures in
    let n = length-take p.result p.new.out in
    omega arith

-- What is printed ends in the buffer.
use Rattle.std.proofs.Common.{arith, length-take}
use Rattle.cuts.specs.ShownLaws.{report_ends}
use Rattle.cuts_main.proofs.run.Goals as goal

pub slice_bounds-out-end : goal.slice_bounds-out-end
slice_bounds-out-end g c = let p = c.report-end in report_ends c.args.trial _ _ p.new.out p.result (omega arith) p.auto.out p.ensures

pub slice_bounds-write_all-end : goal.slice_bounds-write_all-end
slice_bounds-write_all-end g c =
    let p = c.report-end in
    let e = report_ends c.args.trial _ _ p.new.out p.result (omega arith) p.auto.out p.ensures in
    let n = length-take p.result p.new.out in
    omega arith

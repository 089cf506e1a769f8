use Prim.Native.Nat.{ℕ}
use Rattle.std.proofs.Common.{◌∙◌, ap}
use mathlib.Core.Path.{refl}
use lib.ListN.{length-replicate}
use Rattle.bounded.specs.Limits.{two_widths}
use Rattle.text.specs.Print.{shown}
use Rattle.report.specs.Report.{Turn}
use Rattle.feed.specs.Stands.{stands_of, held_of}
use Rattle.feed.specs.FeedLaws.{nothing_held, line_carried}
use Rattle.feed.proofs.end_line.Goals as goal

pub returns : goal.returns
unfolding shown
returns c = let script = c.args.script.now in
    let s = c.step-script.ensures in
    let e = line_carried two_widths (stands_of script) (held_of script) _ _ _ c.text.ensures c.line_of-line.ensures (length-replicate {A = ℕ} 64 0) in
    record { stands = s.stands ∙ ap (λ (t : Turn). t.leaves) e; prints = rw e at s.prints; holds = nothing_held script.line.out.now refl; place = refl; bytes = refl; same_buffers = record { same_memory = s.same_buffers; same_line = refl } }

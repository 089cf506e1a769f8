use Rattle.std.specs.Prelude.{refl, length, ℕ, List}
use Rattle.std.proofs.Common.{ap}
use Rattle.bounded.specs.Limits.{two_widths}
use Rattle.text.specs.Print.{added}
use Rattle.text.specs.PutsLaws.{puts_none}
use Rattle.report.specs.Report.{standing, printing, idle_turn}
use Rattle.feed.specs.Stands.{stands_of, held_of}
use Rattle.feed.specs.FeedLaws.{fed_over, fed_byte, fed_line_end}
use Rattle.feed.proofs.feed.Goals as goal

pub returns-then-script : goal.returns-then-script
unfolding standing idle_turn printing
returns-then-script c = let script = c.args.script.now in
    rw (fed_over two_widths (length script.line.out.now) (stands_of script) (held_of script) c.args.byte c.if-script.true)
    (record { stands = refl; prints = puts_none script.out; holds = refl; room = refl; same_buffers = record { same_memory = record { same_words = refl; same_contents = refl; same_state = refl; words_length = refl; contents_length = refl; state_length = refl }; same_line = refl } })

pub returns-then-byte-eq10 : goal.returns-then-byte-eq10
unfolding standing
returns-then-byte-eq10 c = let script = c.args.script.now in
    let e = c.end_line.ensures in
    rw (fed_line_end two_widths (length script.line.out.now) (stands_of script) (held_of script) c.args.byte c.if-script.false c.if-byte-eq10.true)
    (record { stands = e.stands; prints = e.prints; holds = e.holds; room = ap (λ (l : List ℕ). length l) e.bytes; same_buffers = e.same_buffers })

pub returns : goal.returns
unfolding standing idle_turn printing added
returns c = let script = c.args.script.now in
    let p = c.put.ensures in
    rw (fed_byte two_widths (length script.line.out.now) (stands_of script) (held_of script) c.args.byte c.if-script.false c.if-byte-eq10.false)
    (record { stands = refl; prints = puts_none script.out; holds = p.puts; room = p.same_length; same_buffers = record { same_memory = record { same_words = refl; same_contents = refl; same_state = refl; words_length = refl; contents_length = refl; state_length = refl }; same_line = p.same_buffer } })

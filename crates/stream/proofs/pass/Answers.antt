use Rattle.feed.specs.StandsLaws.{room_stays, room_again, room_kept}
use Rattle.stream.proofs.pass.Goals as goal

pub loop-byte-init : goal.loop-byte-init
loop-byte-init g c = room_stays _

pub returns-then-script : goal.returns-then-script
returns-then-script g c = c.loop-byte.invariant

pub loop-byte-preserved : goal.loop-byte-preserved
loop-byte-preserved g c =
    let e = c.feed.ensures in
    let f = c.flushed.ensures in
    room_again c.loop-byte.invariant
    (room_again (record { same_held = e.same_buffers; same_out = e.prints.same_buffer; line_length = e.room; out_length = e.prints.same_length }) (room_kept _ _ f.same_memory f.same_line f.same_out))

pub returns : goal.returns
returns g c = c.loop-byte.invariant

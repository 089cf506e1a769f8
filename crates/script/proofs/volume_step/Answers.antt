use Rattle.bounded.specs.Limits.{two_widths}
use Rattle.rules.specs.Volume.{volume}
use Rattle.script.specs.StepLaws.{went_volume}
use Rattle.script.proofs.volume_step.Goals as goal

pub returns : goal.returns
returns c = let a = c.args in
    let h = c.tell.ensures in
    let w = went_volume a.run _ (volume a.words.now a.contents.now a.state.now) a.out.now _ two_widths a.sizes _ _ _ c.call-given.ensures (h.stands a.list.now, h.prints a.list.now) in
    record { stands = w.0; prints = w.1 }

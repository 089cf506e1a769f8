use Rattle.figures.specs.CountingLaws.{none_obsolete}
use Rattle.figures.proofs.obsolete_records.Goals as goal

pub loop-k-init : goal.loop-k-init
loop-k-init c = none_obsolete _ _ _

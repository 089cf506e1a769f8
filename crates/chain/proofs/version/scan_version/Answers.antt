use Rattle.chain.proofs.ChainLaws.{found_lowest}
use Rattle.chain.proofs.version.scan_version.Goals as goal

pub returns : goal.returns
returns c = found_lowest _ _ _ _ c.lowest_slot.result c.lowest_slot.ensures

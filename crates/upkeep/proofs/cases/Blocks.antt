-- Document 02, wish 8, computed: the tables of blocks that check_blocks takes and refuses, cleaning by small blocks and by another table, and where 17 stands among the refusals.
use Rattle.std.specs.Prelude.{refl}
use Rattle.outcome.specs.Row.{RowsHold}
use Rattle.upkeep.specs.cases.Computing.{computing}
use Rattle.rules.specs.cases.Twins.{byte_wide, volume8, fresh, with_third, twin0}
use Rattle.upkeep.specs.cases.Clean.{pair, clean_on, all_obsolete}
use Rattle.upkeep.specs.cases.Blocks.{checked, sixteen, slot_unsound, state_unsound, clean_answers, block_rows}

pub block_rows_lem : RowsHold block_rows
unfolding block_rows checked sixteen slot_unsound state_unsound clean_answers byte_wide volume8 fresh with_third twin0 pair clean_on all_obsolete computing
block_rows_lem = refl

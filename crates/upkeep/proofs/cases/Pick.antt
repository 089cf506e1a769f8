-- Document 02, wish 9, computed: the four words of a pick, and its refusals.
use Rattle.std.specs.Prelude.{refl}
use Rattle.outcome.specs.Row.{RowsHold}
use Rattle.upkeep.specs.cases.Computing.{computing}
use Rattle.rules.specs.cases.Twins.{byte_wide, volume8, fresh, with_third}
use Rattle.upkeep.specs.cases.Clean.{pair, straddled}
use Rattle.upkeep.specs.cases.Blocks.{slot_unsound, state_unsound}
use Rattle.upkeep.specs.cases.Pick.{pick_on, pick_answers, four, both_unsound, pick_rows}

pub pick_rows_lem : RowsHold pick_rows
unfolding pick_rows pick_on pick_answers four both_unsound byte_wide volume8 fresh with_third pair straddled slot_unsound state_unsound computing
pick_rows_lem = refl

-- Document 02, wish 7, computed: the three erasures of a sweep, what it leaves, and its refusals.
use Rattle.std.specs.Prelude.{refl}
use Rattle.outcome.specs.Row.{RowsHold}
use Rattle.upkeep.specs.cases.Computing.{computing}
use Rattle.rules.specs.cases.Twins.{byte_wide, volume8, fresh, with_third}
use Rattle.upkeep.specs.cases.Clean.{pair, straddled, step_slots}
use Rattle.upkeep.specs.cases.Blocks.{slot_unsound, state_unsound}
use Rattle.upkeep.specs.cases.Sweep.{sweep_lists, sweep_on, suggest_after, flying, still_needed, sweep_rows}

pub sweep_rows_lem : RowsHold sweep_rows
unfolding sweep_rows sweep_lists sweep_on suggest_after flying still_needed step_slots byte_wide volume8 fresh with_third pair straddled slot_unsound state_unsound computing
sweep_rows_lem = refl

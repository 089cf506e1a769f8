-- Document 02, wish 1, computed: twins in recover, erase and suggest, on volumes of 1 byte a slot.
use Rattle.std.specs.Prelude.{refl}
use Rattle.outcome.specs.Row.{RowsHold}
use Rattle.rules.specs.cases.Computing.{computing}
use Rattle.rules.specs.cases.Twins.{byte_wide, volume8, fresh, with_third, twin0, recover_answers, erase_answers, suggested, twin_rows}

pub twin_rows_lem : RowsHold twin_rows
unfolding twin_rows recover_answers erase_answers suggested with_third twin0 volume8 fresh byte_wide computing
twin_rows_lem = refl

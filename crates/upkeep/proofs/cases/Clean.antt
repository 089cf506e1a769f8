-- Document 02, wish 1, computed: cleaning, on volumes of 1 byte a slot, by its steps, and by the whole call on a block of all slots; and at every width.
use Rattle.std.specs.Prelude.{refl}
use Rattle.outcome.specs.Row.{RowsHold}
use Rattle.rules.specs.cases.Twins.{byte_wide, volume8, fresh, with_third, twin0}
use Rattle.rules.specs.cases.Width.{bytes_of, fresh1, written1}
use Rattle.upkeep.specs.cases.Computing.{computing}
use Rattle.upkeep.specs.cases.Clean.{slots_from, cleaned_flash, cleaned_into, step_slots, pair, straddled, one_free, none_free, refused, clean_on, all_obsolete, clean_rows, clean_at, clean_width_rows}

pub clean_rows_lem : RowsHold clean_rows
unfolding clean_rows slots_from step_slots cleaned_flash cleaned_into with_third twin0 pair straddled volume8 fresh byte_wide one_free none_free refused clean_on all_obsolete computing
clean_rows_lem = refl

pub clean_width_rows_lem : RowsHold clean_width_rows
unfolding clean_width_rows clean_at bytes_of fresh1 written1 computing
clean_width_rows_lem = refl

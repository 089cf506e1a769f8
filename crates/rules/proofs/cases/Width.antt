-- Document 02, wish 10: "A volume's contents are 32 or 64 bytes per slot … Other widths, or contents of another length, are 1", by the calls' outcome
-- definitions, on a volume of 1 page and 2 slots.
use Rattle.std.specs.Prelude.{refl}
use Rattle.outcome.specs.Row.{RowsHold}
use Rattle.rules.specs.cases.Computing.{computing}
use Rattle.rules.specs.cases.Width.{bytes_of, format_at, fresh1, written1, answers_at, slice_answers, contents_at, contents_stated, width_rows}

pub width_rows_lem : RowsHold width_rows
unfolding width_rows bytes_of format_at fresh1 written1 answers_at slice_answers contents_at contents_stated computing
width_rows_lem = refl

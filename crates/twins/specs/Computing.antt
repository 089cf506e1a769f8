-- A name for "these definitions compute": a declaration that unfolds it unfolds them all.
use Rattle.table.specs.Computing.{computing as table_computing}
use Rattle.twins.specs.Twins.{same_words, same_record, has_same_bytes, twins, some_conflict}

unfoldable pub computing : Unit {0}
unfolding table_computing same_words same_record has_same_bytes twins some_conflict
computing = tt

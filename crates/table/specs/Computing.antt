-- A name for "these definitions compute": a declaration that unfolds it unfolds them all.
use Rattle.record.specs.Computing.{computing as record_computing}
use Rattle.table.specs.Given.{given, formatted_records, table_of, one_each}
use Rattle.table.specs.Table.{table_sound, of_page, of_version, clash, some_clash, has_record, lowest_slot, has_version, above, better, raised, highest, version_in, highest_version_of, mentioned, used_of}

unfoldable pub computing : Unit {0}
unfolding record_computing given formatted_records table_of one_each table_sound of_page of_version clash some_clash has_record lowest_slot has_version above better raised highest version_in highest_version_of mentioned used_of
computing = tt

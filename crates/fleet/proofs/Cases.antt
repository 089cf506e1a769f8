-- Pages, computed: of volumes with 1 byte of contents a slot or none, and of small ones of the two widths; and which sizes are taken.
use Rattle.std.specs.Prelude.{refl}
use Rattle.bounded.specs.Tabulate.{tabulate}
use Rattle.text.specs.Scan.{bytes}
use Rattle.text.specs.Print.{decimal_in, decimal}
use Rattle.state.specs.State.{is_set}
use Rattle.rules.specs.cases.Computing.{computing as rules_computing}
use Rattle.upkeep.specs.Doubtful.{recovery_of}
use Rattle.fleet.specs.Figures.{is_needed_straddler, slots_with, set_pages, figures_of, entry_of}
use Rattle.fleet.specs.Input.{word_of, word_at, sizes_at, table_end, volume_length, flash_at, sizes_taken, is_whole, entries_if, entries_of}
use Rattle.fleet.specs.Page.{counted, sum_of, totals, mean_whole, mean_remainder, blanks, column, figures_text, entry_text, volume_line, volume_lines, totals_line, mean_line, page_lines, as_text, van_page}
use Rattle.fleet.specs.Shown.{word_bytes, sizes_bytes, volume_bytes}
use Rattle.fleet.specs.Cases.{any_width, volume_of, case6, record_of_none, two_twins, smallest, PagesComputed}

-- A name for "these definitions compute": a declaration that unfolds it unfolds them all.
unfoldable computing : Unit {0}
unfolding rules_computing bytes decimal_in decimal tabulate is_set is_needed_straddler slots_with set_pages figures_of recovery_of entry_of word_of word_at sizes_at table_end volume_length flash_at sizes_taken is_whole entries_if entries_of counted sum_of totals mean_whole mean_remainder blanks column figures_text entry_text volume_line volume_lines totals_line mean_line page_lines as_text van_page word_bytes sizes_bytes volume_bytes
computing = tt

pub pages_computed : PagesComputed
unfolding computing any_width volume_of case6 record_of_none two_twins smallest
pages_computed =
    record {
      four = refl;
      none = refl;
      each_byte = refl;
      wide = refl;
      last = refl;
      not_read = refl;
      wide_most = refl;
      wide_more = refl;
      narrow_most = refl;
      narrow_more = refl;
      other_width = refl;
    }

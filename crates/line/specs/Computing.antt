-- A name for "these definitions compute": a declaration that unfolds it unfolds them all.
use Rattle.text.specs.Scan.{bytes, behind, max_number, is_digit, end_number, number_from, number}
use Rattle.line.specs.Line.{number_then, on_number, on_text, on_numbers, at_end, list_behind, list_from, numbers, sizes_means, format_means, fill_means, write_means, withdraw_means, launch_means, erase_means, plain_means, call_means, line_means}

unfoldable pub computing : Unit {0}
unfolding bytes behind max_number is_digit end_number number_from number number_then on_number on_text on_numbers at_end list_behind list_from numbers sizes_means format_means fill_means write_means withdraw_means launch_means erase_means plain_means call_means line_means
computing = tt

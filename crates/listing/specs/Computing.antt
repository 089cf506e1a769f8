-- A name for "these definitions compute": a declaration that unfolds it unfolds them all.
use Rattle.text.specs.Scan.{bytes}
use Rattle.text.specs.Print.{decimal_in, decimal}
use Rattle.bits.specs.Bits.{bit_at, set_bits, count_answer, count_outcome}
use Rattle.rules.specs.cases.Computing.{computing as rules_computing}
use Rattle.listing.specs.Listing.{answer_text, page_read, drawn_of, state_text, fields_text, page_text, first_refusal, list_answer, list_text}

unfoldable pub computing : Unit {0}
unfolding rules_computing bytes decimal_in decimal bit_at set_bits count_answer count_outcome answer_text page_read drawn_of state_text fields_text page_text first_refusal list_answer list_text
computing = tt

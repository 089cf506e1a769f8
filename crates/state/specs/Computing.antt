-- A name for "these definitions compute": a declaration that unfolds it unfolds them all.
use Rattle.bounded.specs.Computing.{computing as bounded_computing}
use Rattle.state.specs.Change.{at_rest, fresh_state, place_of, following, launched_page, launched, written_page, marked, completes, committed_page, completed, after_write, withdrawn_page, withdrawn}
use Rattle.state.specs.Cycle.{along, on_cycle, cycle_written}
use Rattle.state.specs.State.{page_words, page_of, state_at, state_words, in_flight, is_written, is_set, versions_sound, flight_sound, written_sound, page_sound, share_next, nexts_apart, state_sound}

unfoldable pub computing : Unit {0}
unfolding bounded_computing at_rest fresh_state place_of following launched_page launched written_page marked completes committed_page completed after_write withdrawn_page withdrawn along on_cycle cycle_written page_words page_of state_at state_words in_flight is_written is_set versions_sound flight_sound written_sound page_sound share_next nexts_apart state_sound
computing = tt

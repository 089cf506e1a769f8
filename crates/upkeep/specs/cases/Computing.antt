-- A name for "these definitions compute": a declaration that unfolds it unfolds them all.
use Rattle.rules.specs.cases.Computing.{computing as rules_computing}
use Rattle.upkeep.specs.Clean.{is_copied, copied_slots, blank_outside, record_in, copy_step, copy_steps, clean_from, clean_to, too_few_blank, clean_copies, clean_blanks, clean_steps, clean_stages, clean_answer, clean_outcome}
use Rattle.upkeep.specs.Sweep.{is_spare_exposed, is_obsolete_at, is_erasable_obsolete, is_higher_twin, swept_exposed, without_exposed, swept_obsolete, without_obsolete, swept_twins, sweep_stages, sweep_steps, sweep_answer, sweep_outcome}
use Rattle.upkeep.specs.Pick.{seen_at, looked_at, is_seen, block_size, frees, most_freed, picked_block, largest_unseen, unseen_lead, pick_of, pick_answer, pick_outcome}

unfoldable pub computing : Unit {0}
unfolding rules_computing is_copied copied_slots blank_outside record_in copy_step copy_steps clean_from clean_to too_few_blank clean_copies clean_blanks clean_steps clean_stages clean_answer clean_outcome is_spare_exposed is_obsolete_at is_erasable_obsolete is_higher_twin swept_exposed without_exposed swept_obsolete without_obsolete swept_twins sweep_stages sweep_steps sweep_answer sweep_outcome seen_at looked_at is_seen block_size frees most_freed picked_block largest_unseen unseen_lead pick_of pick_answer pick_outcome
computing = tt

-- The runs, computed.
use Rattle.std.specs.Prelude.{refl}
use Rattle.upkeep.specs.cases.Computing.{computing as upkeep_computing}
use Rattle.atomicity.specs.Call.{with_state, with_flash, perform, planned_stages, flash_stages}
use Rattle.atomicity.specs.Run.{done_of, done_in, steps_cut_short, was_done, is_recover, still_lost, happens, started, after, keeps_to, keeps_premises}
use Rattle.atomicity.specs.Model.{fresh_model, entry_page, has_bytes, in_ring, all_entered, new_ring, enter_in, keep, with_ring, settle_ring, enter, close_ring, close_all, accept, learns}
use Rattle.atomicity.specs.Promise.{told_of_crash, told, model_after}
use Rattle.atomicity.specs.Runs.{one_byte, blank_buffers, four_buffers, lost_state, every, none, run_completed, run_erased, run_past, run_closed, run_copied, run_cleaned, run_sweeping, run_swept, run_exposed, run_buried, kept_after, words_after, RunsComputed, SimpleRunsComputed}

-- A name for "these definitions compute": a declaration that unfolds it unfolds them all.
unfoldable pub computing : Unit {0}
unfolding upkeep_computing with_state with_flash perform planned_stages flash_stages done_of done_in was_done steps_cut_short is_recover still_lost happens started after keeps_to keeps_premises fresh_model entry_page has_bytes in_ring all_entered new_ring enter_in keep with_ring settle_ring enter close_ring close_all accept learns told_of_crash told model_after
computing = tt

pub runs_computed : RunsComputed
unfolding one_byte kept_after words_after blank_buffers run_completed run_erased run_past run_closed run_copied run_cleaned run_sweeping run_swept lost_state every none computing
runs_computed =
    record {
      completed_meets = record { formatted = refl; keeps = refl };
      completed_keeps = refl;
      erased_meets = record { formatted = refl; keeps = refl };
      erased_keeps = refl;
      erased_leaves = refl;
      past_meets = record { formatted = refl; keeps = refl };
      past_keeps = refl;
      closed_meets = record { formatted = refl; keeps = refl };
      closed_keeps = refl;
      copied_leaves = refl;
      cleaned_meets = record { formatted = refl; keeps = refl };
      cleaned_keeps = refl;
      cleaned_leaves = refl;
      sweeping_leaves = refl;
      swept_meets = record { formatted = refl; keeps = refl };
      swept_keeps = refl;
      swept_leaves = refl;
    }

pub simple_runs_computed : SimpleRunsComputed
unfolding one_byte kept_after words_after four_buffers run_completed run_erased run_past run_closed run_exposed run_buried lost_state every none computing
simple_runs_computed =
    record {
      completed_meets = record { formatted = refl; keeps = refl };
      completed_keeps = refl;
      erased_meets = record { formatted = refl; keeps = refl };
      erased_keeps = refl;
      erased_leaves = refl;
      past_meets = record { formatted = refl; keeps = refl };
      past_keeps = refl;
      closed_meets = record { formatted = refl; keeps = refl };
      closed_keeps = refl;
      buried_refused = refl;
      buried_meets = record { formatted = refl; keeps = refl };
      buried_keeps = refl;
      buried_leaves = refl;
    }

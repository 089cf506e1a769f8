-- A name for "these definitions compute": a declaration that unfolds it unfolds them all.
use mathlib.Core.List.{flatten}
use Rattle.bounded.specs.Limits.{two_widths}
use Rattle.bounded.specs.Below.{list_below}
use Rattle.outcome.specs.Computing.{computing as outcome_computing}
use Rattle.sizes.specs.Sizes.{sizes_ok, words_fit_in, contents_fit, state_fits, no_repeats, in_range, list_ok, listed}
use Rattle.sizes.specs.Blocks.{rises_strictly, starts_ok, block_ok, block_at, in_block}
use Rattle.state.specs.Computing.{computing as state_computing}
use Rattle.twins.specs.Computing.{computing as twins_computing}
use Rattle.follow.specs.Follow.{ends_here, one_more, link, follow_from, follow, links_followed, is_astray}
use Rattle.rules.specs.Format.{formatted_words, formatted_contents, formatted_in, format_answer_in, format_outcome_in}
use Rattle.rules.specs.Read.{read_slot_in, read_answer_in, read_outcome_in}
use Rattle.rules.specs.Volume.{volume_fits_in}
use Rattle.rules.specs.Launch.{some_page, used_up, launch_answer, launch_outcome}
use Rattle.rules.specs.Withdraw.{withdraw_answer, withdraw_outcome}
use Rattle.rules.specs.Write.{plan_of, write_answer, write_step, done_of_write, write_change, write_outcome}
use Rattle.rules.specs.Erase.{erase_answer, erase_steps, erase_outcome}
use Rattle.rules.specs.Permission.{is_obsolete, is_exposed, outdone_by, is_needed, is_current, may_erase_record, may_erase, twin_outside, may_erase_from, may_erase_all, may_erase_alone}
use Rattle.rules.specs.CheckBlocks.{check_blocks_answer, check_blocks_outcome}
use Rattle.rules.specs.Suggest.{suggestible, suggest_answer, suggested_slot, suggest_outcome}
use Rattle.rules.specs.Recover.{walk_of, links_of, back_pointer, committed_by, committed_of, recovered, recover_answer, recover_outcome}
use Rattle.rules.specs.Verdict.{is_straddled, link_verdict, slot_verdict, verdict}
use Rattle.rules.specs.Simple.{simple_link_verdict, simple_slot_verdict, simple_verdict, simple_walk_of, under, second, simple_committed_slot, committed_slot_of, has_committed, simple_recovered, simple_may_erase_record, simple_may_erase, simple_may_erase_all, buried_by, would_bury}
use Rattle.rules.specs.SimpleCalls.{simple_plan_of, simple_write_answer, simple_write_change, simple_write_outcome, simple_erase_answer, simple_erase_outcome, simple_recover_answer, simple_links_of, simple_recover_outcome}

unfoldable pub computing : Unit {0}
unfolding twins_computing flatten list_below state_computing outcome_computing formatted_words formatted_contents formatted_in format_answer_in format_outcome_in read_slot_in read_answer_in read_outcome_in two_widths sizes_ok words_fit_in contents_fit state_fits volume_fits_in no_repeats in_range list_ok listed rises_strictly starts_ok block_ok block_at in_block check_blocks_answer check_blocks_outcome some_page used_up launch_answer launch_outcome withdraw_answer withdraw_outcome plan_of write_answer write_step done_of_write write_change write_outcome erase_answer erase_steps erase_outcome is_obsolete is_exposed outdone_by is_needed is_current may_erase_record may_erase twin_outside may_erase_from may_erase_all may_erase_alone suggestible suggest_answer suggested_slot suggest_outcome ends_here one_more link follow_from follow links_followed walk_of links_of is_astray back_pointer committed_by committed_of recovered recover_answer recover_outcome is_straddled link_verdict slot_verdict verdict simple_link_verdict simple_slot_verdict simple_verdict simple_walk_of under second simple_committed_slot committed_slot_of has_committed simple_recovered simple_may_erase_record simple_may_erase simple_may_erase_all buried_by would_bury simple_plan_of simple_write_answer simple_write_change simple_write_outcome simple_erase_answer simple_erase_outcome simple_recover_answer simple_links_of simple_recover_outcome
computing = tt

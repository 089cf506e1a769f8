-- The calls' outcomes: refused, every buffer is as it was and the second number 0 (of suggest: no number); done, the outcome is what the call says.
use Rattle.std.specs.Prelude.{ℕ, ◌≡◌, List}
use Rattle.bounded.specs.Limits.{no_number, Widths}
use Rattle.outcome.specs.OutcomeLaws.{settled_refused, settled_done}
use Rattle.sizes.specs.declared.Layout.{Layout}
use Rattle.sizes.specs.declared.Sizes.{Sizes}
use Rattle.record.specs.Slot.{bytes_at}
use Rattle.record.specs.Flash.{apply_all}
use Rattle.state.specs.State.{state_at, state_words}
use Rattle.state.specs.Change.{launched, withdrawn}
use Rattle.rules.specs.Volume.{Volume}
use Rattle.rules.specs.Format.{formatted_in, format_answer_in, format_outcome_in}
use Rattle.rules.specs.Read.{read_slot_in, read_answer_in, read_outcome_in}
use Rattle.rules.specs.Launch.{launch_answer, launch_outcome}
use Rattle.rules.specs.Write.{write_answer, done_of_write, write_change, write_outcome}
use Rattle.rules.specs.Withdraw.{withdraw_answer, withdraw_outcome}
use Rattle.rules.specs.Erase.{erase_answer, erase_steps, erase_outcome}
use Rattle.rules.specs.Suggest.{suggest_answer, suggested_slot, suggest_outcome}

module _ (layout : Layout) (widths : Widths) (sizes : Sizes) (v : Volume) where
  pub format_refused : ¬ (format_answer_in layout widths sizes v ≡ 0) → format_outcome_in layout widths sizes v ≡ record { answer = format_answer_in layout widths sizes v; second = 0; left = v }
  unfolding format_outcome_in
  format_refused h = settled_refused (format_answer_in layout widths sizes v) 0 0 v (formatted_in layout sizes) h

  pub format_done : format_answer_in layout widths sizes v ≡ 0 → format_outcome_in layout widths sizes v ≡ record { answer = 0; second = 0; left = formatted_in layout sizes }
  unfolding format_outcome_in
  format_done e = settled_done (format_answer_in layout widths sizes v) 0 0 v (formatted_in layout sizes) e

  module _ (page : ℕ) (out : List ℕ) where
    pub read_refused : ¬ (read_answer_in layout widths sizes v page out ≡ 0) → read_outcome_in layout widths sizes v page out ≡ record { answer = read_answer_in layout widths sizes v page out; second = 0; left = out }
    unfolding read_outcome_in
    read_refused h = settled_refused (read_answer_in layout widths sizes v page out) 0 0 out (bytes_at sizes.width v.flash.contents (read_slot_in layout sizes.slots v page)) h

    pub read_done : read_answer_in layout widths sizes v page out ≡ 0 → read_outcome_in layout widths sizes v page out ≡ record { answer = 0; second = 0; left = bytes_at sizes.width v.flash.contents (read_slot_in layout sizes.slots v page) }
    unfolding read_outcome_in
    read_done e = settled_done (read_answer_in layout widths sizes v page out) 0 0 out (bytes_at sizes.width v.flash.contents (read_slot_in layout sizes.slots v page)) e

module _ (widths : Widths) (sizes : Sizes) (state pages : List ℕ) where
  pub launch_refused : ¬ (launch_answer widths sizes state pages ≡ 0) → launch_outcome widths sizes state pages ≡ record { answer = launch_answer widths sizes state pages; second = 0; left = state }
  unfolding launch_outcome
  launch_refused h = settled_refused (launch_answer widths sizes state pages) 0 0 state (state_words sizes.pages (launched pages (state_at state))) h

  pub launch_done : launch_answer widths sizes state pages ≡ 0 → launch_outcome widths sizes state pages ≡ record { answer = 0; second = 0; left = state_words sizes.pages (launched pages (state_at state)) }
  unfolding launch_outcome
  launch_done e = settled_done (launch_answer widths sizes state pages) 0 0 state (state_words sizes.pages (launched pages (state_at state))) e

module _ (widths : Widths) (sizes : Sizes) (state : List ℕ) (page : ℕ) where
  pub withdraw_refused : ¬ (withdraw_answer widths sizes state page ≡ 0) → withdraw_outcome widths sizes state page ≡ record { answer = withdraw_answer widths sizes state page; second = 0; left = state }
  unfolding withdraw_outcome
  withdraw_refused h = settled_refused (withdraw_answer widths sizes state page) 0 0 state (state_words sizes.pages (withdrawn sizes.pages (state_at state) page)) h

  pub withdraw_done : withdraw_answer widths sizes state page ≡ 0 → withdraw_outcome widths sizes state page ≡ record { answer = 0; second = 0; left = state_words sizes.pages (withdrawn sizes.pages (state_at state) page) }
  unfolding withdraw_outcome
  withdraw_done e = settled_done (withdraw_answer widths sizes state page) 0 0 state (state_words sizes.pages (withdrawn sizes.pages (state_at state) page)) e

module _ (widths : Widths) (sizes : Sizes) (v : Volume) (page slot : ℕ) (bytes : List ℕ) where
  pub write_refused : ¬ (write_answer widths sizes v page slot bytes ≡ 0) → write_outcome widths sizes v page slot bytes ≡ record { answer = write_answer widths sizes v page slot bytes; second = 0; left = v }
  unfolding write_outcome
  write_refused h = settled_refused (write_answer widths sizes v page slot bytes) 0 (done_of_write sizes.pages (state_at v.state) page) v (write_change sizes v page slot bytes) h

  pub write_done : write_answer widths sizes v page slot bytes ≡ 0 → write_outcome widths sizes v page slot bytes ≡ record { answer = 0; second = done_of_write sizes.pages (state_at v.state) page; left = write_change sizes v page slot bytes }
  unfolding write_outcome
  write_done e = settled_done (write_answer widths sizes v page slot bytes) 0 (done_of_write sizes.pages (state_at v.state) page) v (write_change sizes v page slot bytes) e

module _ (widths : Widths) (sizes : Sizes) (v : Volume) (slots : List ℕ) where
  pub erase_refused : ¬ (erase_answer widths sizes v slots ≡ 0) → erase_outcome widths sizes v slots ≡ record { answer = erase_answer widths sizes v slots; second = 0; left = v.flash }
  unfolding erase_outcome
  erase_refused h = settled_refused (erase_answer widths sizes v slots) 0 0 v.flash (apply_all sizes.width v.flash (erase_steps slots)) h

  pub erase_done : erase_answer widths sizes v slots ≡ 0 → erase_outcome widths sizes v slots ≡ record { answer = 0; second = 0; left = apply_all sizes.width v.flash (erase_steps slots) }
  unfolding erase_outcome
  erase_done e = settled_done (erase_answer widths sizes v slots) 0 0 v.flash (apply_all sizes.width v.flash (erase_steps slots)) e

module _ (widths : Widths) (sizes : Sizes) (v : Volume) where
  pub suggest_refused : ¬ (suggest_answer widths sizes v ≡ 0) → suggest_outcome widths sizes v ≡ record { answer = suggest_answer widths sizes v; second = no_number; left = tt }
  unfolding suggest_outcome
  suggest_refused h = settled_refused (suggest_answer widths sizes v) no_number (suggested_slot sizes v) tt tt h

  pub suggest_done : suggest_answer widths sizes v ≡ 0 → suggest_outcome widths sizes v ≡ record { answer = 0; second = suggested_slot sizes v; left = tt }
  unfolding suggest_outcome
  suggest_done e = settled_done (suggest_answer widths sizes v) no_number (suggested_slot sizes v) tt tt e

-- Where write answers 0: what the functions that make its change require, and that they leave what the call says. Records of either layout.
use Rattle.std.specs.Prelude.{ℕ, ◌+◌, ◌*◌, ◌≤◌, ◌≡◌, refl, List, cond, ◌&&◌, length}
use Rattle.std.proofs.Common.{arith, sym, ap, ◌∙◌}
use Rattle.std.proofs.Math.Bool.{Bool}
use Rattle.std.proofs.Math.Dec.{ltb, eqb}
use borrow.Author.Tests.{ltb-true}
use Rattle.bounded.specs.Limits.{Widths}
use Rattle.bounded.specs.Choice.{both_left, both_right}
use Rattle.bounded.specs.Parts.{put_part}
use Rattle.bounded.specs.PartsLaws.{part_inside}
use Rattle.outcome.specs.Outcome.{settled}
use Rattle.outcome.specs.OutcomeLaws.{held}
use Rattle.outcome.specs.Chain.{both_pass}
use Rattle.sizes.specs.declared.Layout.{Layout}
use Rattle.sizes.specs.declared.Layout.TheVariants.{FiveWords, FourWords}
use Rattle.sizes.specs.declared.Sizes.{Sizes}
use Rattle.sizes.specs.Sizes.{stride_of}
use Rattle.record.specs.declared.Record.{Record}
use Rattle.record.specs.Slot.{encoded, planned_record, is_blank, slot_in}
use Rattle.record.specs.Flash.{Step, apply_in, put_slot_in}
use Rattle.state.specs.declared.PageState.{PageState}
use Rattle.state.specs.State.{state_at, state_words, in_flight}
use Rattle.state.specs.Change.{completes, after_write}
use Rattle.state.specs.Walk.{pages_in, Walkable}
use Rattle.state.specs.WalkLaws.{pages_in_lem, walkable_in}
use Rattle.table.proofs.Inside.{slot_inside}
use Rattle.rules.specs.Volume.{Volume, volume, volume_fits_in}
use Rattle.rules.specs.Write.{plan_of, write_step, done_of_write, write_change, write_outcome}
use Rattle.rules.specs.SimpleCalls.{simple_plan_of, simple_write_change, simple_write_outcome}
use Rattle.rules.specs.laws.Families.{plan_in, write_answer_in, write_change_in, write_outcome_in}
use Rattle.rules.specs.laws.Chains.{judged_in, page_answer, write_own}
use Rattle.rules.proofs.laws.Chains.{judged_passed, slice_whole, write_chain}

-- ---- the planned record, from the states of the page and of its next page

pub plan_is : (st : ℕ → PageState) (page : ℕ) (s next : PageState) → s ≡ st page → next ≡ st s.next → planned_record page s.used s.committed s.next next.used ≡ plan_of st page
unfolding plan_of
plan_is st page s next e f = rw (f, e)

-- without a back pointer
pub simple_plan_is : (st : ℕ → PageState) (page : ℕ) (s next : PageState) → s ≡ st page → next ≡ st s.next → planned_record page s.used 0 s.next next.used ≡ simple_plan_of st page
unfolding simple_plan_of
simple_plan_is st page s next e f = rw (f, e)

pub plan_in_lem : {l k : Layout} (st : ℕ → PageState) (page : ℕ) {r : Record} → l ≡ k → r ≡ plan_in k st page → r ≡ plan_in l st page
plan_in_lem st page e h = h ∙ ap (λ (x : Layout). plan_in x st page) (sym e)

-- ---- what a write of either layout leaves and says

abbrev written : Layout → Sizes → Volume → (page slot : ℕ) (bytes : List ℕ) → Volume
written layout sizes v page slot bytes =
    record {
      flash = apply_in layout sizes.width v.flash (Step.Store slot (plan_in layout (state_at v.state) page) bytes);
      state = state_words sizes.pages (after_write sizes.pages (state_at v.state) page);
    }

written_in : (layout : Layout) (sizes : Sizes) (v : Volume) (page slot : ℕ) (bytes : List ℕ) → written layout sizes v page slot bytes ≡ write_change_in layout sizes v page slot bytes
unfolding write_change write_step simple_write_change
written_in FiveWords sizes v page slot bytes = refl
written_in FourWords sizes v page slot bytes = refl

pub outcome_in :
    (layout : Layout) (widths : Widths) (sizes : Sizes) (v : Volume) (page slot : ℕ) (bytes : List ℕ)
    → settled (write_answer_in layout widths sizes v page slot bytes) 0 (done_of_write sizes.pages (state_at v.state) page) v (write_change_in layout sizes v page slot bytes)
    ≡ write_outcome_in layout widths sizes v page slot bytes
unfolding write_outcome simple_write_outcome
outcome_in FiveWords widths sizes v page slot bytes = refl
outcome_in FourWords widths sizes v page slot bytes = refl

-- ---- the page can be written into the slot

pub record Writes (layout : Layout) (sizes : Sizes) (v : Volume) (page slot : ℕ) (bytes : List ℕ) : Type 0 where
  pub all_pages : pages_in v.state ≡ sizes.pages
  pub walkable : Walkable (pages_in v.state) v.state page
  pub bytes_sized : length bytes ≡ sizes.width
  pub words_in : stride_of layout * slot + stride_of layout ≤ length v.flash.words
  pub contents_in : length bytes * slot + length bytes ≤ length v.flash.contents

module _ (layout : Layout) (widths : Widths) (sizes : Sizes) (v : Volume) (page slot : ℕ) (bytes : List ℕ) where
  pub write_accepted : write_answer_in layout widths sizes v page slot bytes ≡ 0 → Writes layout sizes v page slot bytes
  unfolding write_own page_answer
  write_accepted z =
      let fits : Bool = volume_fits_in layout widths sizes v && eqb (length bytes) sizes.width in
      let parts = both_pass (judged_in layout fits sizes.pages sizes.slots v.flash.words v.state) (write_own layout sizes.pages sizes.slots v.flash.words v.state page slot) (sym (write_chain layout widths sizes v page slot bytes) ∙ z) in
      let j = judged_passed layout fits sizes.pages sizes.slots v.flash.words v.state parts.0 in
      let w = slice_whole layout widths sizes v (length bytes) j.fitting in
      let range = held (ltb page sizes.pages && ltb slot sizes.slots) _ _ parts.1 in
      let page_below = ltb-true page sizes.pages (both_left (ltb page sizes.pages) (ltb slot sizes.slots) range.0) in
      let slot_below = ltb-true slot sizes.slots (both_right (ltb page sizes.pages) (ltb slot sizes.slots) range.0) in
      let own = both_pass (page_answer (state_at v.state page) (is_blank (slot_in layout v.flash.words slot))) _ range.1 in
      let flying = held (in_flight (state_at v.state page)) _ _ own.0 in
      let words_sized = w.0.flash_sized.words_sized in
      let contents_sized = w.0.flash_sized.contents_sized in
      let inside = part_inside sizes.width sizes.slots slot slot_below in
      record {
        all_pages = pages_in_lem sizes.pages v.state w.0.state_sized;
        walkable = walkable_in sizes.pages v.state page (record { fits = w.0.state_sized; sound = j.sound; below = page_below; flies = flying.0 });
        bytes_sized = w.1;
        words_in = slot_inside layout sizes.slots slot v.flash.words (omega arith) slot_below;
        contents_in = rw w.1 (omega arith);
      }

  module _ (z : write_answer_in layout widths sizes v page slot bytes ≡ 0) where
    -- the planned record and the bytes in the slot, and the page written
    pub write_leaves : {words contents state : List ℕ} (r : Record) → r ≡ plan_in layout (state_at v.state) page → words ≡ put_part (stride_of layout) slot (encoded layout r) v.flash.words → contents ≡ put_part (length bytes) slot bytes v.flash.contents → state ≡ state_words (pages_in v.state) (after_write (pages_in v.state) (state_at v.state) page) → volume words contents state ≡ write_change_in layout sizes v page slot bytes
    unfolding apply_in put_slot_in
    write_leaves {words} {contents} {state} r q a b c =
        let f = write_accepted z in
        let e : volume words contents state ≡ written layout sizes v page slot bytes = rw (a, b, c, q, f.bytes_sized, f.all_pages) in
        e ∙ written_in layout sizes v page slot bytes

    -- the second number, from the answer of the walk along the cycle
    pub write_says : {b : Bool} (done : Bool) → b ≡ completes (pages_in v.state) (state_at v.state) page → b ≡ done → done_of_write sizes.pages (state_at v.state) page ≡ cond done 1 0
    unfolding done_of_write
    write_says {b} done q e = let f = write_accepted z in rw (← e, q, f.all_pages)

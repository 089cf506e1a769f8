-- What a call that answers 0 has tested, as facts.
use Rattle.std.specs.Prelude.{ℕ, ◌*◌, ◌<◌, ◌≡◌, List, true, false, not, ◌&&◌, ◌||◌, ltb, eqb, length}
use borrow.Author.Tests.{ltb-true, eqb-true}
use Rattle.bounded.specs.Limits.{Widths}
use Rattle.bounded.specs.Choice.{both_left, both_right}
use Rattle.bounded.specs.Below.{all_below, some_below}
use Rattle.bounded.specs.BelowLaws.{first_found, first_passes, first_none_before}
use Rattle.outcome.specs.OutcomeLaws.{passed, held}
use Rattle.sizes.specs.declared.Sizes.{Sizes}
use Rattle.sizes.specs.Sizes.{sizes_ok, state_fits, list_ok}
use Rattle.sizes.proofs.SizesLaws.{state_fits_exactly}
use Rattle.record.specs.Slot.{Slot}
use Rattle.record.specs.Slot.{slot_at, is_blank}
use Rattle.state.specs.State.{state_at, state_sound, in_flight, is_written}
use Rattle.table.specs.Table.{table_sound, has_record, has_version}
use Rattle.twins.specs.Twins.{twins, some_conflict}
use Rattle.follow.specs.Follow.{is_astray}
use Rattle.rules.specs.Volume.{Volume, volume_fits}
use Rattle.rules.specs.laws.Volume.{Fits}
use Rattle.rules.proofs.laws.Volume.{fits_facts}
use Rattle.rules.specs.Launch.{some_page, used_up, launch_answer}
use Rattle.rules.specs.Write.{write_answer}
use Rattle.rules.specs.Withdraw.{withdraw_answer}
use Rattle.rules.specs.Permission.{scene_of, may_erase_all}
use Rattle.rules.specs.Erase.{erase_answer}
use Rattle.rules.specs.Suggest.{suggestible, suggest_answer, suggested_slot, suggest_outcome}
use Rattle.rules.specs.Recover.{walk_of, committed_of, recover_answer}
use Rattle.rules.proofs.laws.Outcomes.{suggest_done}

pub record LaunchTests (P : ℕ) (state pages : List ℕ) : Type 0 where
  pub state_sized : length state ≡ 4 * P
  pub sound : state_sound P (state_at state) ≡ true
  pub listed : list_ok P pages ≡ true
  pub none_flying : some_page pages (state_at state) in_flight ≡ false
  pub none_used_up : some_page pages (state_at state) used_up ≡ false

pub record WithdrawTests (P : ℕ) (state : List ℕ) (page : ℕ) : Type 0 where
  pub state_sized : length state ≡ 4 * P
  pub sound : state_sound P (state_at state) ≡ true
  pub page_below : page < P
  pub flying : in_flight (state_at state page) ≡ true

pub record WriteTests (widths : Widths) (sizes : Sizes) (v : Volume) (page slot : ℕ) (bytes : List ℕ) : Type 0 where
  pub fits : Fits widths sizes v
  pub whole : length bytes ≡ sizes.width
  pub sound : state_sound sizes.pages (state_at v.state) ≡ true
  pub page_below : page < sizes.pages
  pub slot_below : slot < sizes.slots
  pub flying : in_flight (state_at v.state page) ≡ true
  pub unwritten : is_written (state_at v.state page) ≡ false
  pub free : is_blank (slot_at v.flash.words slot) ≡ true

pub record RecoverTests (P S : ℕ) (t : ℕ → Slot) : Type 0 where
  pub sound : table_sound P S t ≡ true
  pub none_astray : some_below P (λ p. is_astray (walk_of P S t p).end) ≡ false
  pub all_there : all_below P (λ p. has_version S t p (committed_of P S t p)) ≡ true

module _ (widths : Widths) (sizes : Sizes) (state : List ℕ) where
  -- the state's words are four for each of P pages
  sized : (sizes_ok widths sizes && state_fits sizes.pages state) ≡ true → length state ≡ 4 * sizes.pages
  sized e = (state_fits_exactly sizes.pages state).0 (both_right (sizes_ok widths sizes) (state_fits sizes.pages state) e)

  pub launch_tests : (pages : List ℕ) → launch_answer widths sizes state pages ≡ 0 → LaunchTests sizes.pages state pages
  unfolding launch_answer
  launch_tests pages z =
      let a = held (sizes_ok widths sizes && state_fits sizes.pages state) _ _ z in
      let b = held (state_sound sizes.pages (state_at state)) _ _ a.1 in
      let c = held (list_ok sizes.pages pages) _ _ b.1 in
      let d = passed (some_page pages (state_at state) in_flight) _ _ c.1 in
      let f = passed (some_page pages (state_at state) used_up) _ _ d.1 in
      record { state_sized = sized a.0; sound = b.0; listed = c.0; none_flying = d.0; none_used_up = f.0 }

  pub withdraw_tests : (page : ℕ) → withdraw_answer widths sizes state page ≡ 0 → WithdrawTests sizes.pages state page
  unfolding withdraw_answer
  withdraw_tests page z =
      let a = held (sizes_ok widths sizes && state_fits sizes.pages state) _ _ z in
      let b = held (state_sound sizes.pages (state_at state)) _ _ a.1 in
      let c = held (ltb page sizes.pages) _ _ b.1 in
      let d = held (in_flight (state_at state page)) _ _ c.1 in
      record { state_sized = sized a.0; sound = b.0; page_below = ltb-true page sizes.pages c.0; flying = d.0 }

pub recover_tests_lem : (widths : Widths) (sizes : Sizes) (v : Volume) → recover_answer widths sizes v ≡ 0 → RecoverTests sizes.pages sizes.slots (slot_at v.flash.words)
unfolding recover_answer
recover_tests_lem widths sizes v z =
    let P = sizes.pages in
    let S = sizes.slots in
    let t = slot_at v.flash.words in
    let a = held (volume_fits widths sizes v) _ _ z in
    let b = held (table_sound P S t) _ _ a.1 in
    let c = passed (some_conflict S t (twins sizes.width v.flash) || not (all_below P (has_record S t))) _ _ b.1 in
    let d = passed (some_below P (λ p. is_astray (walk_of P S t p).end)) _ _ c.1 in
    record { sound = b.0; none_astray = d.0; all_there = (held (all_below P (λ p. has_version S t p (committed_of P S t p))) _ _ d.1).0 }

pub write_tests : (widths : Widths) (sizes : Sizes) (v : Volume) (page slot : ℕ) (bytes : List ℕ) → write_answer widths sizes v page slot bytes ≡ 0 → WriteTests widths sizes v page slot bytes
unfolding write_answer
write_tests widths sizes v page slot bytes z =
    let a = held (volume_fits widths sizes v && eqb (length bytes) sizes.width) _ _ z in
    let b = held (table_sound sizes.pages sizes.slots (slot_at v.flash.words)) _ _ a.1 in
    let c = held (state_sound sizes.pages (state_at v.state)) _ _ b.1 in
    let d = held (ltb page sizes.pages && ltb slot sizes.slots) _ _ c.1 in
    let f = held (in_flight (state_at v.state page)) _ _ d.1 in
    let g = passed (is_written (state_at v.state page)) _ _ f.1 in
    let h = held (is_blank (slot_at v.flash.words slot)) _ _ g.1 in
    record {
      fits = fits_facts widths sizes v (both_left (volume_fits widths sizes v) (eqb (length bytes) sizes.width) a.0);
      whole = eqb-true (length bytes) sizes.width (both_right (volume_fits widths sizes v) (eqb (length bytes) sizes.width) a.0);
      sound = c.0;
      page_below = ltb-true page sizes.pages (both_left (ltb page sizes.pages) (ltb slot sizes.slots) d.0);
      slot_below = ltb-true slot sizes.slots (both_right (ltb page sizes.pages) (ltb slot sizes.slots) d.0);
      flying = f.0;
      unwritten = g.0;
      free = h.0;
    }

pub record EraseTests (widths : Widths) (sizes : Sizes) (v : Volume) (list : List ℕ) : Type 0 where
  pub fits : Fits widths sizes v
  pub listed : list_ok sizes.slots list ≡ true
  pub permitted : may_erase_all (scene_of sizes v) list ≡ true

pub erase_tests : (widths : Widths) (sizes : Sizes) (v : Volume) (list : List ℕ) → erase_answer widths sizes v list ≡ 0 → EraseTests widths sizes v list
unfolding erase_answer
erase_tests widths sizes v list e =
    let a = held (volume_fits widths sizes v) _ _ e in
    let b = held (table_sound sizes.pages sizes.slots (slot_at v.flash.words)) _ _ a.1 in
    let c = held (state_sound sizes.pages (state_at v.state)) _ _ b.1 in
    let d = held (list_ok sizes.slots list) _ _ c.1 in
    let f = held (may_erase_all (scene_of sizes v) list) _ _ d.1 in
    record { fits = fits_facts widths sizes v a.0; listed = d.0; permitted = f.0 }

-- "the lowest": a slot that may be erased, and none below it may
pub record Lowest (sizes : Sizes) (v : Volume) (slot : ℕ) : Type 0 where
  pub slot_below : slot < sizes.slots
  pub permitted : suggestible sizes v slot ≡ true
  pub none_lower : (k : ℕ) → k < slot → suggestible sizes v k ≡ false

-- Where suggest answers 0 the slot that it names is the lowest that may be erased.
pub suggested_lowest : (widths : Widths) (sizes : Sizes) (v : Volume) → suggest_answer widths sizes v ≡ 0 → Lowest sizes v (suggest_outcome widths sizes v).second
unfolding suggest_answer suggested_slot
suggested_lowest widths sizes v z =
    let S = sizes.slots in
    let may = suggestible sizes v in
    let a = held (volume_fits widths sizes v) _ _ z in
    let b = held (table_sound sizes.pages S (slot_at v.flash.words)) _ _ a.1 in
    let c = held (state_sound sizes.pages (state_at v.state)) _ _ b.1 in
    let d = held (some_below S may) _ _ c.1 in
    let l = first_found may S d.0 in
    rw (suggest_done widths sizes v z) (record { slot_below = l; permitted = first_passes may S l; none_lower = first_none_before may S })

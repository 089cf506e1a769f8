-- What a call on records without a back pointer that answers 0 has tested, as facts.
use Rattle.std.specs.Prelude.{ℕ, ◌<◌, ◌≡◌, List, true, false, not, ◌&&◌, ◌||◌, ltb, eqb, length}
use Rattle.std.proofs.Common.{ltb-true, eqb-true}
use Rattle.bounded.specs.Limits.{Widths}
use Rattle.bounded.specs.Choice.{both_left, both_right, neither_left}
use Rattle.bounded.specs.Below.{all_below, some_below}
use Rattle.outcome.specs.OutcomeLaws.{passed, held}
use Rattle.sizes.specs.declared.Layout.TheVariants.{FourWords}
use Rattle.sizes.specs.declared.Sizes.{Sizes}
use Rattle.sizes.specs.Sizes.{sizes_ok, words_fit_in, state_fits, list_ok}
use Rattle.record.specs.Slot.{Slot}
use Rattle.record.specs.Slot.{slot_in, is_blank}
use Rattle.state.specs.State.{state_at, state_sound, in_flight, is_written}
use Rattle.table.specs.Table.{table_sound, some_clash, has_record}
use Rattle.follow.specs.Follow.{is_astray}
use Rattle.rules.specs.Volume.{Volume, volume_fits_in}
use Rattle.rules.specs.Simple.{simple_walk_of, simple_may_erase_all, would_bury}
use Rattle.rules.specs.SimpleCalls.{simple_write_answer, simple_erase_answer, simple_recover_answer}

pub record SimpleWriteTests (sizes : Sizes) (v : Volume) (page slot : ℕ) (bytes : List ℕ) : Type 0 where
  pub whole : length bytes ≡ sizes.width
  pub page_below : page < sizes.pages
  pub slot_below : slot < sizes.slots
  pub flying : in_flight (state_at v.state page) ≡ true
  pub unwritten : is_written (state_at v.state page) ≡ false
  pub free : is_blank (slot_in FourWords v.flash.words slot) ≡ true
  pub none_buried : would_bury sizes.slots (slot_in FourWords v.flash.words) (state_at v.state) page ≡ false

pub simple_write_tests : (widths : Widths) (sizes : Sizes) (v : Volume) (page slot : ℕ) (bytes : List ℕ) → simple_write_answer widths sizes v page slot bytes ≡ 0 → SimpleWriteTests sizes v page slot bytes
unfolding simple_write_answer
simple_write_tests widths sizes v page slot bytes z =
    let a = held (volume_fits_in FourWords widths sizes v && eqb (length bytes) sizes.width) _ _ z in
    let b = held (table_sound sizes.pages sizes.slots (slot_in FourWords v.flash.words)) _ _ a.1 in
    let c = held (state_sound sizes.pages (state_at v.state)) _ _ b.1 in
    let d = held (ltb page sizes.pages && ltb slot sizes.slots) _ _ c.1 in
    let f = held (in_flight (state_at v.state page)) _ _ d.1 in
    let g = passed (is_written (state_at v.state page)) _ _ f.1 in
    let h = held (is_blank (slot_in FourWords v.flash.words slot)) _ _ g.1 in
    let i = passed (would_bury sizes.slots (slot_in FourWords v.flash.words) (state_at v.state) page) _ _ h.1 in
    record {
      whole = eqb-true _ _ (both_right (volume_fits_in FourWords widths sizes v) (eqb (length bytes) sizes.width) a.0);
      page_below = ltb-true _ _ (both_left (ltb page sizes.pages) (ltb slot sizes.slots) d.0);
      slot_below = ltb-true _ _ (both_right (ltb page sizes.pages) (ltb slot sizes.slots) d.0);
      flying = f.0;
      unwritten = g.0;
      free = h.0;
      none_buried = i.0;
    }

pub record SimpleEraseTests (sizes : Sizes) (v : Volume) (slots : List ℕ) : Type 0 where
  pub listed : list_ok sizes.slots slots ≡ true
  pub permitted : simple_may_erase_all (slot_in FourWords v.flash.words) (state_at v.state) slots ≡ true

pub simple_erase_tests : (widths : Widths) (sizes : Sizes) (v : Volume) (slots : List ℕ) → simple_erase_answer widths sizes v slots ≡ 0 → SimpleEraseTests sizes v slots
unfolding simple_erase_answer
simple_erase_tests widths sizes v slots z =
    let a = held (volume_fits_in FourWords widths sizes v) _ _ z in
    let b = held (table_sound sizes.pages sizes.slots (slot_in FourWords v.flash.words)) _ _ a.1 in
    let c = held (state_sound sizes.pages (state_at v.state)) _ _ b.1 in
    let d = held (list_ok sizes.slots slots) _ _ c.1 in
    let f = held (simple_may_erase_all (slot_in FourWords v.flash.words) (state_at v.state) slots) _ _ d.1 in
    record { listed = d.0; permitted = f.0 }

pub record SimpleRecoverTests (P S : ℕ) (t : ℕ → Slot) : Type 0 where
  pub sound : table_sound P S t ≡ true
  pub none_clash : some_clash S t ≡ false
  pub none_astray : some_below P (λ p. is_astray (simple_walk_of P S t p).end) ≡ false

pub simple_recover_tests : (widths : Widths) (sizes : Sizes) (words state : List ℕ) → simple_recover_answer widths sizes words state ≡ 0 → SimpleRecoverTests sizes.pages sizes.slots (slot_in FourWords words)
unfolding simple_recover_answer
simple_recover_tests widths sizes words state z =
    let P = sizes.pages in
    let S = sizes.slots in
    let t = slot_in FourWords words in
    let a = held (sizes_ok widths sizes && (words_fit_in FourWords S words && state_fits P state)) _ _ z in
    let b = held (table_sound P S t) _ _ a.1 in
    let c = passed (some_clash S t || not (all_below P (has_record S t))) _ _ b.1 in
    let d = passed (some_below P (λ p. is_astray (simple_walk_of P S t p).end)) _ _ c.1 in
    record { sound = b.0; none_clash = neither_left (some_clash S t) (not (all_below P (has_record S t))) c.0; none_astray = d.0 }

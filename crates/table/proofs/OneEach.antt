-- A table with one record for each of P pages, page k's in slot k, and no other: what it holds, and what is found in it.
use Rattle.std.specs.Prelude.{ℕ, ◌*◌, ◌≤◌, ◌<◌, ◌≡◌, true, false, cond, ltb, length}
use Rattle.std.proofs.Common.{arith, sym, ◌∙◌, lt-ltb, le-ltb}
use Rattle.std.proofs.Math.Path.{ap}
use Rattle.bounded.specs.Below.{all_below}
use Rattle.bounded.specs.BelowLaws.{all_of}
use Rattle.bounded.specs.Choice.{on_lt, on_test}
use Rattle.bounded.specs.PartsLaws.{part_join_parts, length_join_parts}
use Rattle.sizes.specs.declared.Layout.{Layout}
use Rattle.sizes.specs.Sizes.{stride_of}
use Rattle.record.specs.declared.Record.{Record}
use Rattle.record.specs.Slot.{Slot}
use Rattle.std.specs.Prelude.{None, Some}
use Rattle.record.specs.Slot.{encoded, slot_from, slot_in, blank_record, record_sound, slot_sound}
use Rattle.record.specs.SlotLaws.{encoded_length, Storable, slot_decoded, slot_of_none}
use Rattle.table.specs.Given.{one_each}
use Rattle.table.specs.Table.{table_sound, some_clash, has_record, highest}
use Rattle.table.proofs.TableLaws.{blank_holds, some_clash_lem, has_record_lem, highest_exists, highest_is, highest_held, highest_page}

-- ---- the words

module _ (layout : Layout) (P S : ℕ) (records : ℕ → Record) where
  pub length_one_each : length (one_each layout P S records) ≡ stride_of layout * S
  unfolding one_each
  length_one_each = length_join_parts (stride_of layout) S (λ k. encoded layout (cond (ltb k P) (records k) blank_record)) (λ j. encoded_length layout (cond (ltb j P) (records j) blank_record))

  slot_is : (k : ℕ) → k < S → slot_in layout (one_each layout P S records) k ≡ slot_from layout (encoded layout (cond (ltb k P) (records k) blank_record))
  unfolding slot_in one_each
  slot_is k h = ap (slot_from layout) (part_join_parts (stride_of layout) S k (λ k. encoded layout (cond (ltb k P) (records k) blank_record)) (λ j. encoded_length layout (cond (ltb j P) (records j) blank_record)) h)

  pub slot_of_page : (k : ℕ) → k < S → k < P → Storable layout (records k) → slot_in layout (one_each layout P S records) k ≡ Some (records k)
  slot_of_page k h l most = slot_is k h ∙ rw (lt-ltb k P l) (slot_decoded layout (records k) most)

  pub slot_beyond : (k : ℕ) → k < S → P ≤ k → slot_in layout (one_each layout P S records) k ≡ None
  slot_beyond k h l = slot_is k h ∙ rw (le-ltb k P l) (slot_of_none layout)

-- ---- the table

-- slot k below P holds record k, which is of page k; the others are blank
pub record OneEach (P S : ℕ) (t : ℕ → Slot) (records : ℕ → Record) : Type 0 where
  pub room : P ≤ S
  pub each : (k : ℕ) → k < P → t k ≡ Some (records k)
  pub others : (k : ℕ) → k < S → P ≤ k → t k ≡ None
  pub own_page : (k : ℕ) → k < P → (records k).p ≡ k

pub words_one_each : (layout : Layout) (P S : ℕ) (records : ℕ → Record) → P ≤ S → ((k : ℕ) → k < P → (records k).p ≡ k) → ((k : ℕ) → k < P → Storable layout (records k)) → OneEach P S (slot_in layout (one_each layout P S records)) records
words_one_each layout P S records room own most =
    record { room = room; each = λ k h. slot_of_page layout P S records k (omega arith) h (most k h); others = slot_beyond layout P S records; own_page = own }

module _ {P S : ℕ} {t : ℕ → Slot} {records : ℕ → Record} (given : OneEach P S t records) where
  open given use {room, each, others, own_page}

  -- a record that a slot holds is that of its page, and the page is the slot's number
  pub held_is : (k : ℕ) (r : Record) → k < S → t k ≡ Some r → (k < P) × (r ≡ records k)
  held_is k r h e = on_lt k P (λ l. (l, let f = each k l in cc)) (λ l. absurd (blank_holds (others k h l) e))

  pub held_page : (k : ℕ) (r : Record) → k < S → t k ≡ Some r → r.p ≡ k
  held_page k r h e = let w = held_is k r h e in ap (λ (x : Record). x.p) w.1 ∙ own_page k w.0

  pub each_sound : ((k : ℕ) → k < P → record_sound P (records k) ≡ true) → table_sound P S t ≡ true
  unfolding table_sound slot_sound
  each_sound sound =
      all_of (λ k. slot_sound P (t k)) S (λ k h. on_lt k P (λ l. rw (each k l) (sound k l)) (λ l. rw (others k h l)))

  pub none_clash : some_clash S t ≡ false
  none_clash =
      on_test (some_clash S t)
      (λ e. let w = (some_clash_lem t S).0 e in
      let l = w.4 in
      let i = held_page w.0 w.2 (let m = w.5 in omega arith) w.6 in
      let j = held_page w.1 w.3 w.5 w.7 in
      let q = w.8 in
      absurd (omega arith))
      (λ e. e)

  has_own : (p : ℕ) → p < P → has_record S t p ≡ true
  has_own p h = let m = room in (has_record_lem t p S).1 (p, records p, omega arith, each p h, own_page p h)

  pub all_have : all_below P (has_record S t) ≡ true
  all_have = all_of (has_record S t) P has_own

  -- a page's only record is its highest
  pub highest_own : (p : ℕ) → p < P → highest S t p ≡ Some (records p)
  highest_own p h =
      let w = (highest_exists t p S).0 (has_own p h) in
      let k = highest_held t p S (highest_is t p S) w.1 in
      let i = held_is k.0 w.0 k.1 k.2 in
      let q : k.0 ≡ p = sym (held_page k.0 w.0 k.1 k.2) ∙ highest_page t p S (highest_is t p S) w.1 in
      w.1 ∙ ap Some (i.1 ∙ ap records q)

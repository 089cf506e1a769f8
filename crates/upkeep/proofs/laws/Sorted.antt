-- Where a sweep leaves no obsolete record, the slots that it blanked, sorted by their old record, are its three erasures.
use Rattle.std.specs.Prelude.{ℕ, ◌<◌, ◌≡◌, refl, Bool, true, false, ◌&&◌}
use Rattle.std.proofs.Common.{arith, ap, ◌∙◌}
use Rattle.std.proofs.Math.Bool.{not}
use borrow.Author.Tests.{not-true}
use Rattle.bounded.specs.Limits.{Widths}
use Rattle.bounded.specs.Choice.{on_test, same_test, never, both, both_left, both_right, not_no}
use Rattle.sizes.specs.declared.Layout.TheVariants.{FiveWords}
use Rattle.sizes.specs.declared.Sizes.{Sizes}
use Rattle.record.specs.declared.Record.{Record}
use Rattle.record.specs.Slot.{Slot}
use Rattle.std.specs.Prelude.{None, Some}
use Rattle.record.specs.Slot.{holds, slot_at, is_blank}
use Rattle.record.specs.SlotLaws.{is_blank_exactly, not_blank_exactly, holds_exactly, holds_one}
use Rattle.record.specs.Flash.{Flash}
use Rattle.record.specs.FlashLaws.{SizedIn}
use Rattle.state.specs.declared.PageState.{PageState}
use Rattle.state.specs.State.{state_at}
use Rattle.table.proofs.TableLaws.{blank_holds, holds_of}
use Rattle.twins.specs.Twins.{twins}
use Rattle.twins.proofs.TwinsLaws.{twins_hold}
use Rattle.rules.specs.Permission.{is_obsolete, is_exposed, is_current, scene}
use Rattle.rules.specs.Volume.{Volume}
use Rattle.rules.proofs.laws.Permission.{obsolete_exactly, exposed_spare_exactly}
use Rattle.upkeep.specs.Sweep.{is_spare_exposed, is_obsolete_at, is_erasable_obsolete, is_higher_twin, swept_exposed, without_exposed, swept_obsolete, without_obsolete, swept_twins, sweep_answer}
use Rattle.upkeep.specs.Swept.{is_blanked, Sorted}
use Rattle.upkeep.proofs.laws.Fronts.{list_same}
use Rattle.upkeep.proofs.laws.Sweep.{without, without_same, without_held, sweep_fits, fits1, fits2, left, lowest_twin, stays_somewhere}

blank_or_holds : {C : Type 0} (s : Slot) → (s ≡ None → C) → ((r : Record) → s ≡ Some r → C) → C
blank_or_holds None f g = f refl
blank_or_holds (Some r) f g = g r refl

-- ---- one erasure

module _ (w S : ℕ) (f : Flash) (size : SizedIn FiveWords w S f) (q : ℕ → Bool) (k : ℕ) (h : k < S) where
  -- what passes is blank then,
  pub blank_then : q k ≡ true → slot_at (without w S f size q).words k ≡ None
  blank_then e = blank_or_holds (slot_at (without w S f size q).words k) (λ b. b) (λ r x. absurd (never e (without_held w S f size q k r h x).0))

  -- and what was blank stays so
  pub blank_still : slot_at f.words k ≡ None → slot_at (without w S f size q).words k ≡ None
  blank_still e = blank_or_holds (slot_at (without w S f size q).words k) (λ b. b) (λ r x. absurd (blank_holds e (without_held w S f size q k r h x).1))

-- ---- the three

-- no record is obsolete and spare exposed
not_both : (t : ℕ → Slot) (st : ℕ → PageState) (k : ℕ) → is_obsolete_at t st k ≡ true → is_spare_exposed t st k ≡ false
unfolding is_obsolete_at is_spare_exposed
not_both t st k o =
    on_test (holds (λ r. is_exposed st r && not (is_current st r)) (t k))
    (λ y. let a = (holds_exactly (is_obsolete st) (t k)).0 o in
    let b = (holds_exactly (λ r. is_exposed st r && not (is_current st r)) (t k)).0 y in
    let l = (obsolete_exactly st a.0).0 a.2 in
    let x = ((exposed_spare_exactly st b.0).0 b.2).0 in
    absurd (apart a.0 b.0 (holds_one a.1 b.1) l x))
    (λ n. n)
  where
    apart : (a b : Record) → a ≡ b → a.v < (st a.p).committed → (st b.p).committed < b.v → ⊥
    apart a b e l x = let v = ap (λ (r : Record). r.v) e in let c = ap (λ (r : Record). (st r.p).committed) e in omega arith

module _ (widths : Widths) (sizes : Sizes) (v : Volume) (accepted : sweep_answer widths sizes v ≡ 0)
    (none : (k : ℕ) (r : Record) → k < sizes.slots → slot_at (left widths sizes v accepted).words k ≡ Some r → r.v < (state_at v.state r.p).committed → ⊥) where
  abbrev S : ℕ
  S = sizes.slots

  abbrev w : ℕ
  w = sizes.width

  abbrev st : ℕ → PageState
  st = state_at v.state

  -- the slots before, after the first erasure, after the second, and then
  abbrev t0 : ℕ → Slot
  t0 = slot_at v.flash.words

  abbrev t1 : ℕ → Slot
  t1 = slot_at (without_exposed sizes v).words

  abbrev t2 : ℕ → Slot
  t2 = slot_at (without_obsolete sizes v).words

  abbrev t3 : ℕ → Slot
  t3 = slot_at (left widths sizes v accepted).words

  abbrev q1 : ℕ → Bool
  q1 = is_spare_exposed t0 st

  abbrev q2 : ℕ → Bool
  q2 = is_erasable_obsolete (scene S t1 st (twins w (without_exposed sizes v)))

  abbrev q3 : ℕ → Bool
  q3 = is_higher_twin (twins w (without_obsolete sizes v))

  size0 : SizedIn FiveWords w S v.flash
  size0 = (sweep_fits widths sizes v accepted).flash_sized

  size1 : SizedIn FiveWords w S (without_exposed sizes v)
  size1 = (fits1 widths sizes v accepted).flash_sized

  size2 : SizedIn FiveWords w S (without_obsolete sizes v)
  size2 = (fits2 widths sizes v accepted).flash_sized

  module _ (k : ℕ) (h : k < S) where
    -- ---- blank from an erasure on

    blank1 : q1 k ≡ true → t1 k ≡ None
    unfolding without_exposed swept_exposed
    blank1 e = blank_then w S v.flash size0 q1 k h e

    blank2 : q2 k ≡ true → t2 k ≡ None
    unfolding without_obsolete swept_obsolete
    blank2 e = blank_then w S (without_exposed sizes v) size1 q2 k h e

    blank3 : q3 k ≡ true → t3 k ≡ None
    unfolding swept_twins
    blank3 e = blank_then w S (without_obsolete sizes v) size2 q3 k h e

    still2 : t1 k ≡ None → t2 k ≡ None
    unfolding without_obsolete swept_obsolete
    still2 e = blank_still w S (without_exposed sizes v) size1 q2 k h e

    still3 : t2 k ≡ None → t3 k ≡ None
    unfolding swept_twins
    still3 e = blank_still w S (without_obsolete sizes v) size2 q3 k h e

    -- ---- held up to one

    held1 : (r : Record) → t1 k ≡ Some r → (q1 k ≡ false) × (t0 k ≡ Some r)
    unfolding without_exposed swept_exposed
    held1 r e = without_held w S v.flash size0 q1 k r h e

    held2 : (r : Record) → t2 k ≡ Some r → (q2 k ≡ false) × (t1 k ≡ Some r)
    unfolding without_obsolete swept_obsolete
    held2 r e = without_held w S (without_exposed sizes v) size1 q2 k r h e

    kept1 : q1 k ≡ false → t1 k ≡ t0 k
    unfolding without_exposed swept_exposed
    kept1 e = (without_same w S v.flash size0 q1 k e).same_slot

    kept2 : q2 k ≡ false → t2 k ≡ t1 k
    unfolding without_obsolete swept_obsolete
    kept2 e = (without_same w S (without_exposed sizes v) size1 q2 k e).same_slot

    kept3 : q3 k ≡ false → t3 k ≡ t2 k
    unfolding swept_twins
    kept3 e = (without_same w S (without_obsolete sizes v) size2 q3 k e).same_slot

    -- ---- which are obsolete

    -- the second erasure takes none but obsolete records,
    obsolete_before : q2 k ≡ true → (r : Record) × (t0 k ≡ Some r) × (is_obsolete st r ≡ true)
    unfolding is_erasable_obsolete is_obsolete_at
    obsolete_before e =
        let o = (holds_exactly (is_obsolete st) (t1 k)).0 (both_left (holds (is_obsolete st) (t1 k)) _ e) in
        (o.0, (held1 o.0 o.1).1, o.2)

    -- and all of them
    none_behind : (r : Record) → t2 k ≡ Some r → is_obsolete st r ≡ true → ⊥
    none_behind r e o = let s = stays_somewhere widths sizes v accepted k r h e in none s.0 r s.1 s.2 ((obsolete_exactly st r).0 o)

    obsolete_then : (r : Record) → t0 k ≡ Some r → is_obsolete st r ≡ true → q2 k ≡ true
    unfolding is_obsolete_at
    obsolete_then r e o =
        on_test (q2 k)
        (λ y. y)
        (λ n. absurd (none_behind r (kept2 n ∙ kept1 (not_both t0 st k (holds_of (is_obsolete st) e o)) ∙ e) o))

    -- ---- each test, by what was blanked

    blanked : (r : Record) → t0 k ≡ Some r → t3 k ≡ None → is_blanked t0 t3 k ≡ true
    unfolding is_blanked
    blanked r e b = both (not_no ((not_blank_exactly (t0 k)).1 (r, e))) ((is_blank_exactly (t3 k)).1 b)

    was_blanked : is_blanked t0 t3 k ≡ true → ((r : Record) × (t0 k ≡ Some r)) × (t3 k ≡ None)
    unfolding is_blanked
    was_blanked e = (
      (not_blank_exactly (t0 k)).0 (not-true (is_blank (t0 k)) (both_left (not (is_blank (t0 k))) (is_blank (t3 k)) e)),
      (is_blank_exactly (t3 k)).0 (both_right (not (is_blank (t0 k))) (is_blank (t3 k)) e),
    )

    first : q1 k ≡ (is_blanked t0 t3 k && is_spare_exposed t0 st k)
    unfolding is_spare_exposed
    first =
        same_test (q1 k) (is_blanked t0 t3 k && q1 k)
        (λ e. let x = (holds_exactly (λ r. is_exposed st r && not (is_current st r)) (t0 k)).0 e in both (blanked x.0 x.1 (still3 (still2 (blank1 e)))) e)
        (λ e. both_right (is_blanked t0 t3 k) (q1 k) e)

    second : q2 k ≡ (is_blanked t0 t3 k && is_obsolete_at t0 st k)
    unfolding is_obsolete_at
    second =
        same_test (q2 k) (is_blanked t0 t3 k && is_obsolete_at t0 st k)
        (λ e. let o = obsolete_before e in both (blanked o.0 o.1 (still3 (blank2 e))) (holds_of (is_obsolete st) o.1 o.2))
        (λ e. let o = (holds_exactly (is_obsolete st) (t0 k)).0 (both_right (is_blanked t0 t3 k) (is_obsolete_at t0 st k) e) in obsolete_then o.0 o.1 o.2)

    third : q3 k ≡ (is_blanked t0 t3 k && (not (is_spare_exposed t0 st k) && not (is_obsolete_at t0 st k)))
    unfolding is_obsolete_at
    third =
        same_test (q3 k) (is_blanked t0 t3 k && (not (q1 k) && not (is_obsolete_at t0 st k)))
        (λ e. let j = lowest_twin w S (without_obsolete sizes v) st k e in
        let t = twins_hold w (without_obsolete sizes v) j.0 k j.2 in
        let b = held2 t.0 t.2 in
        let a = held1 t.0 b.1 in
        both (blanked t.0 a.1 (blank3 e))
        (both (not_no a.0)
        (not_no (on_test (is_obsolete_at t0 st k)
        (λ y. let o = (holds_exactly (is_obsolete st) (t0 k)).0 y in absurd (never (obsolete_then o.0 o.1 o.2) b.0))
        (λ n. n)))))
        (λ e. let b = was_blanked (both_left (is_blanked t0 t3 k) _ e) in
        let n = both_right (is_blanked t0 t3 k) (not (q1 k) && not (is_obsolete_at t0 st k)) e in
        let n1 = not-true (q1 k) (both_left (not (q1 k)) (not (is_obsolete_at t0 st k)) n) in
        let no = not-true (is_obsolete_at t0 st k) (both_right (not (q1 k)) (not (is_obsolete_at t0 st k)) n) in
        on_test (q3 k)
        (λ y. y)
        (λ n3. on_test (q2 k)
        (λ y. let o = obsolete_before y in absurd (never (holds_of (is_obsolete st) o.1 o.2) no))
        (λ n2. absurd (blank_holds b.1 (kept3 n3 ∙ kept2 n2 ∙ kept1 n1 ∙ b.0.1)))))

  pub sorted : Sorted sizes v (left widths sizes v accepted)
  unfolding swept_exposed swept_obsolete swept_twins
  sorted =
      record {
        exposed_first = list_same S q1 _ first;
        obsolete_second = list_same S q2 _ second;
        others_last = list_same S q3 _ third;
      }

-- Laws of the figures: each page and each record is counted once.
use Rattle.std.specs.Prelude.{ℕ, zero, suc, ◌+◌, ◌≡◌, [], ◌∷◌, Bool, cond, not, ◌&&◌, eqb, length}
use Rattle.std.proofs.Common.{arith, sym, ap, ◌∙◌, length-append}
use Rattle.std.proofs.Math.Path.{refl}
use Rattle.std.proofs.Math.Bool.{true, false}
use borrow.Author.Tests.{lt-ltb, le-ltb, eq-eqb, ne_eqb}
use Rattle.bounded.specs.Limits.{Widths}
use Rattle.bounded.specs.Below.{list_below}
use Rattle.bounded.specs.Choice.{on_lt, on_eq, on_test}
use Rattle.bounded.specs.Members.{list_none, count_more, count_stays}
use Rattle.record.specs.declared.Record.{Record}
use Rattle.record.specs.Slot.{Slot}
use Rattle.std.specs.Prelude.{None, Some}
use Rattle.record.specs.Slot.{is_blank, holds}
use Rattle.state.specs.declared.PageState.{PageState}
use Rattle.state.specs.State.{is_set}
use Rattle.rules.specs.Permission.{is_obsolete, is_exposed, is_needed, may_erase_record, untwinned}
use Rattle.rules.proofs.laws.Permission.{by_kind}
use Rattle.upkeep.specs.Doubtful.{recovery_of}
use Rattle.upkeep.proofs.laws.Doubtful.{any_sheet_answer, any_sheet_left}
use Rattle.fleet.specs.Figures.{is_needed_straddler, slots_with, set_pages, figures_of, entry_of}
use Rattle.fleet.specs.Shown.{FiguresShown, EntriesShown}

-- 1 where it is so
abbrev pub one : Bool → ℕ
one b = cond b 1 0

-- one number more
count_step : (n : ℕ) (f : ℕ → Bool) → length (list_below (suc n) f) ≡ length (list_below n f) + one (f n)
count_step n f = on_test (f n) (λ e. let c = count_more f n e in rw e (omega arith)) (λ e. let c = count_stays f n e in rw e (omega arith))

-- where each number passes as often as it does in three, their counts add up
parted : (n : ℕ) (f g e h : ℕ → Bool) → ((k : ℕ) → one (f k) + one (g k) + one (e k) ≡ one (h k)) → length (list_below n f) + length (list_below n g) + length (list_below n e) ≡ length (list_below n h)
unfolding list_below
parted zero f g e h p = refl
parted (suc n) f g e h p = omega (arith, count_step n f, count_step n g, count_step n e, count_step n h, p n, parted n f g e h p)

-- … in two
parted_two : (n : ℕ) (f g h : ℕ → Bool) → ((k : ℕ) → one (f k) + one (g k) ≡ one (h k)) → length (list_below n f) + length (list_below n g) ≡ length (list_below n h)
parted_two n f g h p =
    let e = parted n f g (λ k. false) h (λ k. let q = p k in omega arith) in
    let z = ap length (list_none (λ k. false) n (λ k h. refl)) in
    omega arith

always_passes : (n : ℕ) → length (list_below n (λ k. true)) ≡ n
unfolding list_below
always_passes zero = refl
always_passes (suc n) = let e = always_passes n in let l = length-append (list_below n (λ k. true)) (n ∷ []) in omega arith

-- ---- pages and records

page_parted : (s : PageState) → one (is_set s) + one (eqb s.committed 0) ≡ one true
unfolding is_set
page_parted s = on_test (eqb s.committed 0) (λ e. rw e) (λ e. rw e)

module _ (S : ℕ) (t : ℕ → Slot) (st : ℕ → PageState) where
  record_parted : (r : Record) → one (is_obsolete st r) + one (is_exposed st r) + one (eqb r.v (st r.p).committed) ≡ one true
  unfolding is_obsolete is_exposed
  record_parted r =
      let c = (st r.p).committed in
      on_lt r.v c
      (λ h. rw (lt-ltb r.v c h, le-ltb c r.v (omega arith), ne_eqb r.v c (λ e. omega arith)))
      (λ h. on_eq r.v c
      (λ e. rw (le-ltb r.v c h, le-ltb c r.v (omega arith), eq-eqb r.v c e))
      (λ d. rw (le-ltb r.v c h, lt-ltb c r.v (omega arith), ne_eqb r.v c d)))

  slot_parted : (s : Slot) → one (holds (is_obsolete st) s) + one (holds (is_exposed st) s) + one (holds (λ r. eqb r.v (st r.p).committed) s) ≡ one (not (is_blank s))
  unfolding holds is_blank
  slot_parted None = refl
  slot_parted (Some r) = record_parted r

  -- an obsolete record may be erased unless it is needed
  pub erased_unless_needed : (r : Record) → is_obsolete st r ≡ true → may_erase_record (untwinned S t st) r ≡ not (is_needed (untwinned S t st) r)
  erased_unless_needed r o = by_kind (untwinned S t st) r ∙ rw o

  needed_parted : (r : Record) → one (is_needed_straddler S t st r) + one (is_obsolete st r && may_erase_record (untwinned S t st) r) ≡ one (is_obsolete st r)
  unfolding is_needed_straddler
  needed_parted r = on_test (is_obsolete st r) (λ o. rw (erased_unless_needed r o, o) (by (is_needed (untwinned S t st) r))) (λ o. rw o)
    where
      by : (b : Bool) → one b + one (not b) ≡ 1
      by true = refl
      by false = refl

  slot_needed : (s : Slot) → one (holds (is_needed_straddler S t st) s) + one (holds (λ r. is_obsolete st r && may_erase_record (untwinned S t st) r) s) ≡ one (holds (is_obsolete st) s)
  unfolding holds
  slot_needed None = refl
  slot_needed (Some r) = needed_parted r

pub figures_shown : (P S : ℕ) (t : ℕ → Slot) (st : ℕ → PageState) → FiguresShown P S t st
unfolding figures_of set_pages slots_with
figures_shown P S t st =
    record {
      set_or_empty = parted_two P (λ p. is_set (st p)) (λ p. eqb (st p).committed 0) (λ p. true) (λ p. page_parted (st p)) ∙ always_passes P;
      exposed = refl;
      each_record = parted S _ _ _ _ (λ k. slot_parted S t st (t k));
      needed_stay = parted_two S _ _ _ (λ k. slot_needed S t st (t k));
    }

-- recovery on any state of the right length says what it says on one of zeros
pub entries_shown : (widths : Widths) → EntriesShown widths
unfolding entry_of
entries_shown widths =
    record {
      counted_by = λ z v l e.
          let a = any_sheet_answer widths z v.flash v.state l ∙ e in
          rw (eq-eqb (recovery_of widths z v.flash).answer 0 a, any_sheet_left widths z v.flash v.state l a);
      refused_by = λ z v l n.
          let a = any_sheet_answer widths z v.flash v.state l in
          rw (ne_eqb (recovery_of widths z v.flash).answer 0 (λ e. n (sym a ∙ e)), a);
    }

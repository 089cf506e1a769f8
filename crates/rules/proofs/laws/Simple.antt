-- What the rules for records without a back pointer say as propositions: the second highest version, what may be erased, what a write would bury.
use Rattle.std.specs.Prelude.{ℕ, ◌≤◌, ◌<◌, ◌≡◌, refl, List, ◌⊎◌, ◌↔◌, true, cond, ◌&&◌, ◌||◌, ltb, eqb, length, get_or}
use Rattle.std.proofs.Common.{sym, subst, ltb-true, lt-ltb}
use Rattle.std.proofs.Math.Bool.{not}
use Rattle.bounded.specs.Choice.{on_test, conjoined, disjoined, below_test, equal_test}
use Rattle.bounded.specs.BelowLaws.{all_each}
use Rattle.record.specs.declared.Record.{Record}
use Rattle.record.specs.Slot.{Slot}
use Rattle.std.specs.Prelude.{None, Some}
use Rattle.record.specs.Slot.{holds}
use Rattle.record.specs.SlotLaws.{holds_exactly, some_record_lem}
use Rattle.state.specs.declared.PageState.{PageState}
use Rattle.table.specs.Table.{highest_version_of}
use Rattle.table.proofs.TableLaws.{blank_holds, highest_is, highest_held, highest_page, highest_above, highest_exists, has_record_lem}
use Rattle.rules.specs.Permission.{is_obsolete, is_exposed, is_current}
use Rattle.rules.specs.Simple.{under, second, simple_may_erase_record, simple_may_erase, simple_may_erase_all, buried_by, would_bury}
use Rattle.rules.specs.laws.Permission.{Obsolete, ExposedSpare}
use Rattle.rules.proofs.laws.Permission.{obsolete_exactly, exposed_exactly, exposed_spare_exactly}
use Rattle.rules.specs.laws.Simple.{BelowHighest, BuriedBy}

-- ---- the second highest version

-- the table of the records below n holds exactly those
pub under_exactly : (n : ℕ) (t : ℕ → Slot) (k : ℕ) (r : Record) → (under n t k ≡ Some r) ↔ ((t k ≡ Some r) × (r.v < n))
unfolding under holds
under_exactly n t k r = by (t k)
  where
    by : (s : Slot) → (cond (holds (λ a. ltb a.v n) s) s None ≡ Some r) ↔ ((s ≡ Some r) × (r.v < n))
    by None = (λ e. absurd (blank_holds refl e), λ w. w.0)
    by (Some a) = (
      λ e. on_test (ltb a.v n)
          (λ c. let f : Some a ≡ Some r = rw c at e in let same : a ≡ r = cc in (f, subst (λ (x : Record). x.v < n) same (ltb-true a.v n c)))
          (λ c. absurd (blank_holds refl (rw c at e))),
      λ w. let f = w.0 in let same : a ≡ r = cc in let c = lt-ltb a.v n (subst (λ (x : Record). x.v < n) (sym same) w.1) in rw c f,
    )

module _ (S : ℕ) (t : ℕ → Slot) (p : ℕ) where
  -- the second highest is such a record,
  pub second_held : (r : Record) → second S t p ≡ Some r → BelowHighest S t p r
  unfolding second
  second_held r e =
      let i = highest_is (under (highest_version_of S t p) t) p S in
      let h = highest_held (under (highest_version_of S t p) t) p S i e in
      let u = (under_exactly (highest_version_of S t p) t h.0 r).0 h.2 in
      (h.0, h.1, u.0, highest_page (under (highest_version_of S t p) t) p S i e, u.1)

  -- the highest of them,
  pub second_above : (r s : Record) → second S t p ≡ Some r → BelowHighest S t p s → s.v ≤ r.v
  unfolding second
  second_above r s e w =
      highest_above (under (highest_version_of S t p) t) p S (highest_is (under (highest_version_of S t p) t) p S) e
      w.0 s w.1 ((under_exactly (highest_version_of S t p) t w.0 s).1 (w.2, w.4)) w.3

  -- and there is a second highest exactly where there is such a record
  pub second_exists : ((r : Record) × (second S t p ≡ Some r)) ↔ ((r : Record) × BelowHighest S t p r)
  unfolding second
  second_exists = (
    λ w. (w.0, second_held w.0 w.1),
    λ w. let b = w.1 in
        (highest_exists (under (highest_version_of S t p) t) p S).0
        ((has_record_lem (under (highest_version_of S t p) t) p S).1
        (b.0, w.0, b.1, (under_exactly (highest_version_of S t p) t b.0 w.0).1 (b.2, b.4), b.3)),
  )

  -- it is blank exactly where there is none
  pub second_blank : (second S t p ≡ None) ↔ ((r : Record) → BelowHighest S t p r → ⊥)
  second_blank = (λ e r w. let x = second_exists.1 (r, w) in blank_holds e x.1, λ none. by (second S t p) refl none)
    where
      by : (s : Slot) → second S t p ≡ s → ((r : Record) → BelowHighest S t p r → ⊥) → s ≡ None
      by None e none = refl
      by (Some r) e none = absurd (none r (second_held r e))

-- ---- erasing

module _ (t : ℕ → Slot) (st : ℕ → PageState) where
  -- the test of a record is exactly the sentence
  simple_erasable_exactly : (r : Record) → (simple_may_erase_record st r ≡ true) ↔ (Obsolete st r ⊎ ExposedSpare st r)
  unfolding simple_may_erase_record
  simple_erasable_exactly r = disjoined (is_obsolete st r) (is_exposed st r && not (is_current st r)) (obsolete_exactly st r) (exposed_spare_exactly st r)

  -- a slot may be erased if it holds an obsolete record, or "an exposed record other than one whose page is in flight with v = used"
  pub simple_may_erase_exactly : (k : ℕ) → (simple_may_erase t st k ≡ true) ↔ ((r : Record) × (t k ≡ Some r) × (Obsolete st r ⊎ ExposedSpare st r))
  unfolding simple_may_erase
  simple_may_erase_exactly k = (
    λ e. let h = (holds_exactly (simple_may_erase_record st) (t k)).0 e in (h.0, h.1, (simple_erasable_exactly h.0).0 h.2),
    λ w. (holds_exactly (simple_may_erase_record st) (t k)).1 (w.0, w.1, (simple_erasable_exactly w.0).1 w.2),
  )

  -- each listed slot may be erased
  pub simple_may_erase_all_lem : (slots : List ℕ) → (simple_may_erase_all t st slots ≡ true) ↔ ((i : ℕ) → i < length slots → simple_may_erase t st (get_or slots i 0) ≡ true)
  unfolding simple_may_erase_all
  simple_may_erase_all_lem slots = all_each (λ i. simple_may_erase t st (get_or slots i 0)) (length slots)

-- ---- writing

-- "a record would be buried": some record of the table is
pub buried_exactly :
    (S : ℕ) (t : ℕ → Slot) (st : ℕ → PageState) (p : ℕ)
    → (would_bury S t st p ≡ true) ↔ ((k : ℕ) × (J : Record) × (k < S) × (t k ≡ Some J) × BuriedBy st p (st p).used J)
unfolding would_bury buried_by
buried_exactly S t st p = some_record_lem S t (buried_by st p (st p).used) buried
  where
    v : ℕ
    v = (st p).used

    buried : (J : Record) → (buried_by st p v J ≡ true) ↔ BuriedBy st p v J
    buried J =
        conjoined (is_exposed st J) ((eqb J.p p && ltb J.v v) || (eqb J.np p && ltb J.nv v)) (exposed_exactly st J)
        (disjoined (eqb J.p p && ltb J.v v) (eqb J.np p && ltb J.nv v)
        (conjoined (eqb J.p p) (ltb J.v v) (equal_test J.p p) (below_test J.v v))
        (conjoined (eqb J.np p) (ltb J.nv v) (equal_test J.np p) (below_test J.nv v)))

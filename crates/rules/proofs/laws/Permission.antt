-- "May be erased" is exactly document 01's sentence, as a proposition; and so is what document 02 says of a slot with twins.
use Rattle.std.specs.Prelude.{ℕ, ◌<◌, ◌≡◌, List, ◌⊎◌, ◌↔◌, Bool, true, false, cond, ◌&&◌, eqb, length, get_or}
use Rattle.std.proofs.Common.{arith, ap}
use Rattle.std.proofs.Math.Path.{refl}
use Rattle.std.proofs.Math.Bool.{not}
use Rattle.std.proofs.Math.Dec.{ltb}
use borrow.Author.Tests.{not-true, ltb-true, le-ltb}
use Rattle.bounded.specs.Choice.{on_test, or_false, both, both_left, both_right, negated, conjoined, disjoined, below_test, equal_test}
use Rattle.bounded.specs.BelowLaws.{all_each, some_at, some_of}
use Rattle.sizes.specs.Sizes.{listed}
use Rattle.record.specs.declared.Record.{Record}
use Rattle.record.specs.Slot.{Slot}
use Rattle.std.specs.Prelude.{Some}
use Rattle.record.specs.Slot.{some_record, straddles}
use Rattle.record.specs.SlotLaws.{Straddles, straddles_exactly, holds_exactly, some_record_lem}
use Rattle.state.specs.declared.PageState.{PageState}
use Rattle.state.specs.State.{in_flight}
use Rattle.rules.specs.Permission.{is_obsolete, is_exposed, is_current, Scene, scene, outdone_by, is_needed, may_erase_record, may_erase, twin_outside, may_erase_from, may_erase_all}
use Rattle.rules.specs.laws.Permission.{Obsolete, Exposed, ExposedSpare, Needed, Erasable, ErasableAt, TwinOutside}

module _ (st : ℕ → PageState) (r : Record) where
  -- the tests say just this
  pub obsolete_exactly : (is_obsolete st r ≡ true) ↔ Obsolete st r
  unfolding is_obsolete
  obsolete_exactly = below_test r.v (st r.p).committed

  pub exposed_exactly : (is_exposed st r ≡ true) ↔ Exposed st r
  unfolding is_exposed
  exposed_exactly = below_test (st r.p).committed r.v

  -- no record is both
  pub obsolete_unexposed : is_obsolete st r ≡ true → is_exposed st r ≡ false
  unfolding is_obsolete is_exposed
  obsolete_unexposed e = let h = ltb-true r.v (st r.p).committed e in le-ltb (st r.p).committed r.v (omega arith)

  pub exposed_spare_exactly : ((is_exposed st r && not (is_current st r)) ≡ true) ↔ ExposedSpare st r
  unfolding is_current
  exposed_spare_exactly =
      conjoined (is_exposed st r) (not (is_current st r)) exposed_exactly
      (negated (is_current st r) (conjoined (in_flight (st r.p)) (eqb r.v (st r.p).used) (λ e. e, λ e. e) (equal_test r.v (st r.p).used)))

module _ (S : ℕ) (t : ℕ → Slot) (st : ℕ → PageState) (twin : ℕ → ℕ → Bool) where
  pub needed_exactly : (K : Record) → (is_needed (scene S t st twin) K ≡ true) ↔ Needed S t st K
  unfolding is_needed outdone_by
  needed_exactly K = (
    λ e. let w = i.0 e in record { furthest = λ k r h f p c v. w.0 (k, r, h, f, (p, (c, v))); supports = w.1 },
    λ n. i.1 (λ w. n.furthest w.0 w.1 w.2 w.3 w.4.0 w.4.1.0 w.4.1.1, n.supports),
  )
    where
      out : (r : Record) → (outdone_by K r ≡ true) ↔ ((r.p ≡ K.p) × ((r.c ≡ K.c) × (K.v < r.v)))
      out r =
          conjoined (eqb r.p K.p) (eqb r.c K.c && ltb K.v r.v) (equal_test r.p K.p)
          (conjoined (eqb r.c K.c) (ltb K.v r.v) (equal_test r.c K.c) (below_test K.v r.v))

      support : (r : Record) → ((is_exposed st r && straddles K r) ≡ true) ↔ (Exposed st r × Straddles K r)
      support r = conjoined (is_exposed st r) (straddles K r) (exposed_exactly st r) (straddles_exactly K r)

      i : (is_needed (scene S t st twin) K ≡ true) ↔ (¬ ((k : ℕ) × (r : Record) × (k < S) × (t k ≡ Some r) × ((r.p ≡ K.p) × ((r.c ≡ K.c) × (K.v < r.v)))) × ((k : ℕ) × (r : Record) × (k < S) × (t k ≡ Some r) × (Exposed st r × Straddles K r)))
      i =
          conjoined (not (some_record S t (outdone_by K))) (some_record S t (λ r. is_exposed st r && straddles K r))
          (negated (some_record S t (outdone_by K)) (some_record_lem S t (outdone_by K) out))
          (some_record_lem S t (λ r. is_exposed st r && straddles K r) support)

  erasable_exactly : (r : Record) → (may_erase_record (scene S t st twin) r ≡ true) ↔ Erasable S t st r
  unfolding may_erase_record
  erasable_exactly r =
      disjoined (is_obsolete st r && not (is_needed (scene S t st twin) r)) (is_exposed st r && not (is_current st r))
      (conjoined (is_obsolete st r) (not (is_needed (scene S t st twin) r)) (obsolete_exactly st r) (negated (is_needed (scene S t st twin) r) (needed_exactly r)))
      (exposed_spare_exactly st r)

  -- "A slot may be erased if it holds …"
  pub may_erase_exactly : (k : ℕ) → (may_erase (scene S t st twin) k ≡ true) ↔ ErasableAt S t st k
  unfolding may_erase
  may_erase_exactly k = (
    λ e. let h = (holds_exactly (may_erase_record (scene S t st twin)) (t k)).0 e in (h.0, h.1, (erasable_exactly h.0).0 h.2),
    λ w. (holds_exactly (may_erase_record (scene S t st twin)) (t k)).1 (w.0, w.1, (erasable_exactly w.0).1 w.2),
  )

-- whatever is looked at
module _ (s : Scene) where
  -- an obsolete record is judged by whether it is needed, any other by whether it is exposed and not current
  pub by_kind : (r : Record) → may_erase_record s r ≡ cond (is_obsolete s.state r) (not (is_needed s r)) (is_exposed s.state r && not (is_current s.state r))
  unfolding may_erase_record
  by_kind r =
      on_test (is_obsolete s.state r)
      (λ e. rw (e, obsolete_unexposed s.state r e) (or_false (not (is_needed s r))))
      (λ e. rw e)

  -- which slots are twins plays no part in one slot's permission
  pub twins_apart : (twin : ℕ → ℕ → Bool) (k : ℕ) → may_erase (record { slots = s.slots; table = s.table; state = s.state; twin = twin; some_exposed = s.some_exposed }) k ≡ may_erase s k
  unfolding may_erase may_erase_record is_needed
  twins_apart twin k = refl

  pub twin_outside_exactly : (in_list : ℕ → Bool) (k : ℕ) → (twin_outside s in_list k ≡ true) ↔ TwinOutside s in_list k
  unfolding twin_outside
  twin_outside_exactly in_list k = (
    λ e. let w = some_at (λ j. s.twin j k && not (in_list j)) s.slots e in (w.0, w.1, both_left (s.twin w.0 k) (not (in_list w.0)) w.2, not-true (in_list w.0) (both_right (s.twin w.0 k) (not (in_list w.0)) w.2)),
    λ w. some_of (λ j. s.twin j k && not (in_list j)) s.slots w.0 w.1 (both w.2 (ap not w.3)),
  )

  -- "A slot whose twin is outside the erase list may always be erased, and if all twins are listed the old rule judges them"
  pub may_erase_from_lem : (in_list : ℕ → Bool) (k : ℕ) → (may_erase_from s in_list k ≡ true) ↔ (TwinOutside s in_list k ⊎ (may_erase s k ≡ true))
  unfolding may_erase_from
  may_erase_from_lem in_list k = disjoined (twin_outside s in_list k) (may_erase s k) (twin_outside_exactly in_list k) (λ e. e, λ e. e)

  -- each listed slot may be erased
  pub may_erase_all_lem : (slots : List ℕ) → (may_erase_all s slots ≡ true) ↔ ((i : ℕ) → i < length slots → may_erase_from s (listed slots) (get_or slots i 0) ≡ true)
  unfolding may_erase_all
  may_erase_all_lem slots = all_each (λ i. may_erase_from s (listed slots) (get_or slots i 0)) (length slots)

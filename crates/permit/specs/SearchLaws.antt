-- The permission as the code decides it: what one slot, one straddler and one record settle.
use Rattle.std.specs.Prelude.{ℕ, ◌<◌, ◌≡◌, List, Bool, not, ◌&&◌, ltb, eqb, length, get_or}
use Rattle.std.proofs.Math.Path.{refl}
use Rattle.std.proofs.Common.{◌∙◌, eqb-true, eq-eqb}
use Rattle.std.proofs.Math.Bool.{true, false}
use Rattle.bounded.specs.Choice.{both_left, both_right}
use Rattle.bounded.specs.Below.{some_below}
use Rattle.bounded.specs.BelowLaws.{some_of}
use Rattle.record.specs.declared.Record.{Record}
use Rattle.record.specs.Slot.{Slot}
use Rattle.std.specs.Prelude.{None, Some}
use Rattle.record.specs.Slot.{holds, some_record, straddles}
use Rattle.state.specs.declared.PageState.{PageState}
use Rattle.record.specs.SlotLaws.{holds_exactly}
use Rattle.table.proofs.TableLaws.{holds_of}
use Rattle.rules.specs.Permission.{is_obsolete, is_exposed, is_current, untwinned, outdone_by, is_needed, may_erase_record}
use Rattle.rules.specs.Found.{by_found}
use Rattle.rules.proofs.laws.Permission.{by_kind}
use Rattle.chain.specs.declared.Key.TheVariants.{Pointer}
use Rattle.chain.specs.Chain.{chain_of, in_chain}

-- ---- what a slot holds

pub holds_none : (f : Record → Bool) {s : Slot} → s ≡ None → holds f s ≡ false
unfolding holds
holds_none f e = rw e

pub holds_record : (f : Record → Bool) {s : Slot} {r : Record} → s ≡ Some r → holds f s ≡ f r
unfolding holds
holds_record f e = rw e

-- ---- a straddler, judged by what was found

-- a better straddler is in its chain
pub outdone_in_chain : (t : ℕ → Slot) (K : Record) (k : ℕ) → holds (outdone_by K) (t k) ≡ true → in_chain Pointer t (chain_of Pointer K) k ≡ true
unfolding in_chain outdone_by chain_of
outdone_in_chain t K k e =
    let h = (holds_exactly (outdone_by K) (t k)).0 e in
    holds_of (λ r. eqb (chain_of Pointer r) (chain_of Pointer K)) h.1 (same_chain h.0 h.2)
  where
    same_chain : (r : Record) → outdone_by K r ≡ true → eqb (chain_of Pointer r) (chain_of Pointer K) ≡ true
    same_chain r q =
        let p = eqb-true r.p K.p (both_left (eqb r.p K.p) (eqb r.c K.c && ltb K.v r.v) q) in
        let c = eqb-true r.c K.c (both_left (eqb r.c K.c) (ltb K.v r.v) (both_right (eqb r.p K.p) (eqb r.c K.c && ltb K.v r.v) q)) in
        eq-eqb (chain_of Pointer r) (chain_of Pointer K) (rw (p, c))

module _ (S : ℕ) (t : ℕ → Slot) (found : List ℕ) (K : Record) (st : ℕ → PageState) where
  -- a better straddler settles it
  pub outdone_not_needed : some_below S (λ k. holds (outdone_by K) (t k)) ≡ true → is_needed (by_found (untwinned S t st) found) K ≡ false
  unfolding by_found is_needed some_record
  outdone_not_needed e = rw e

  -- an exposed link settles it, where there is no better straddler
  pub straddled_needed :
      (i : ℕ) → i < length found → holds (straddles K) (t (get_or found i 0)) ≡ true → some_below S (λ k. holds (outdone_by K) (t k)) ≡ false → is_needed (by_found (untwinned S t st) found) K ≡ true
  unfolding by_found is_needed some_record
  straddled_needed i h e none = rw (none, some_of (λ j. holds (straddles K) (t (get_or found j 0))) (length found) i h e)

  -- no exposed link
  pub nothing_straddled : some_below (length found) (λ i. holds (straddles K) (t (get_or found i 0))) ≡ false → is_needed (by_found (untwinned S t st) found) K ≡ false
  unfolding by_found is_needed
  nothing_straddled e = rw e (never_both (not (some_record S t (outdone_by K))))
    where
      never_both : (b : Bool) → (b && false) ≡ false
      never_both true = refl
      never_both false = refl

-- ---- a record

module _ (S : ℕ) (t : ℕ → Slot) (st : ℕ → PageState) (found : List ℕ) (r : Record) where
  pub obsolete_by : is_obsolete st r ≡ true → may_erase_record (by_found (untwinned S t st) found) r ≡ not (is_needed (by_found (untwinned S t st) found) r)
  unfolding by_found
  obsolete_by e = by_kind (by_found (untwinned S t st) found) r ∙ rw e

  -- a committed record is neither
  pub spare_by : is_obsolete st r ≡ false → may_erase_record (by_found (untwinned S t st) found) r ≡ (is_exposed st r && not (is_current st r))
  unfolding may_erase_record by_found
  spare_by e = rw e

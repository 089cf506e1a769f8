-- The slot of a page's highest record, as a number. "No slot" is a number too, the table's count of slots.
use Prim.Native.Nat.{ℕ, zero, suc, ◌+◌, ◌≤◌, ◌<◌}
use Rattle.std.proofs.Common.{arith, add-one, sym, ap, ◌∙◌, subst, lt-ltb, le-ltb, ltb-true, eq-eqb, ne_eqb, length-set, get_or-set_same, get_or-set_other}
use Rattle.std.proofs.lemmas.List.{length-replicate, get_or-replicate, get_or_past}
use Rattle.std.proofs.lemmas.Option.{none-some}
use Rattle.std.specs.Prelude.{◌≡◌, ◌⊎◌, List, Bool, true, false, ltb, is_some, get_or, set, replicate, Option}
use Rattle.std.proofs.Math.Path.{refl}
use Rattle.std.proofs.Math.Logic.{inl, inr}
use Rattle.bounded.specs.Limits.{no_number}
use Rattle.bounded.specs.Choice.{on_lt, on_eq, on_test, same_test}
use Rattle.record.specs.declared.Record.{Record}
use Rattle.record.specs.Slot.{Slot}
use Rattle.std.specs.Prelude.{None, Some}
use Rattle.record.specs.Slot.{holds}
use Rattle.record.specs.SlotLaws.{sound_facts, holds_exactly}
use Rattle.table.specs.Table.{table_sound, of_page, above, better, raised, highest, has_record}
use Rattle.table.proofs.TableLaws.{blank_holds, sound_at, highest_is, highest_held, highest_page, highest_exists}
use Rattle.table.specs.HighestSlot.{named, highest_slot, entry_of, HighestBelow}

pub named_slot : (S : ℕ) (t : ℕ → Slot) (k : ℕ) → k < S → named S t k ≡ t k
unfolding named
named_slot S t k h = rw (lt-ltb k S h)

pub named_none : (S : ℕ) (t : ℕ → Slot) (k : ℕ) → S ≤ k → named S t k ≡ None
unfolding named
named_none S t k h = rw (le-ltb k S h)

module _ (S : ℕ) (t : ℕ → Slot) (p : ℕ) where
  -- the slot that it names holds the highest record
  pub highest_named : (n : ℕ) → n ≤ S → named S t (highest_slot S n t p) ≡ highest n t p
  unfolding highest_slot highest raised
  highest_named zero h = named_none S t S (omega arith)
  highest_named (suc n) h =
      on_test (holds (better p (highest n t p)) (t n))
      (λ e. rw (highest_slot, e) (named_slot S t n (omega arith)))
      (λ e. rw (highest_slot, e) (highest_named n (omega arith)))

  -- a slot below n, or none
  pub highest_slot_below : (n : ℕ) → n ≤ S → (highest_slot S n t p < n) ⊎ (highest_slot S n t p ≡ S)
  unfolding highest_slot
  highest_slot_below zero h = inr refl
  highest_slot_below (suc n) h =
      on_test (holds (better p (highest n t p)) (t n)) (λ e. rw e (inl (omega arith))) (λ e. rw e (later (highest_slot_below n (omega arith))))
    where
      later : (highest_slot S n t p < n) ⊎ (highest_slot S n t p ≡ S) → (highest_slot S n t p < suc n) ⊎ (highest_slot S n t p ≡ S)
      later (inl l) = inl (omega arith)
      later (inr e) = inr e

  -- the named slot holds a record
  slot_holds_record : (n : ℕ) → highest_slot S n t p < S → (r : Record) × (highest n t p ≡ Some r)
  unfolding highest_slot highest raised
  slot_holds_record zero l = absurd (omega arith)
  slot_holds_record (suc n) l =
      on_test (holds (better p (highest n t p)) (t n))
      (λ e. let h = (holds_exactly (better p (highest n t p)) (t n)).0 e in (h.0, rw (highest, e) h.1))
      (λ e. rw (highest, e) (slot_holds_record n (rw (highest_slot, e) at l)))

  -- "a page with no record": exactly where no slot is named
  pub highest_slot_exists : has_record S t p ≡ ltb (highest_slot S S t p) S
  highest_slot_exists =
      same_test (has_record S t p) (ltb (highest_slot S S t p) S)
      (λ e. let w = (highest_exists t p S).0 e in
      on_lt (highest_slot S S t p) S (λ l. lt-ltb _ _ l)
      (λ l. absurd (blank_holds (named_none S t (highest_slot S S t p) l) (highest_named S (omega arith) ∙ w.1))))
      (λ e. (highest_exists t p S).1 (slot_holds_record S (ltb-true _ _ e)))

  -- ---- one slot more

  -- it holds no record: nothing changes
  pub highest_slot_blank : (n : ℕ) → t n ≡ None → highest_slot S (n + 1) t p ≡ highest_slot S n t p
  unfolding highest_slot holds
  highest_slot_blank n e = rw (add-one, highest_slot, e)

  -- a record of another page, or one no higher: nothing changes
  pub highest_slot_stays : (n : ℕ) {r : Record} → t n ≡ Some r → better p (highest n t p) r ≡ false → highest_slot S (n + 1) t p ≡ highest_slot S n t p
  unfolding highest_slot holds
  highest_slot_stays n e b = rw (add-one, highest_slot, e, holds, b)

  pub highest_slot_taken : (n : ℕ) {r : Record} → t n ≡ Some r → better p (highest n t p) r ≡ true → highest_slot S (n + 1) t p ≡ n
  unfolding highest_slot holds
  highest_slot_taken n e b = rw (add-one, highest_slot, e, holds, b)

-- In a sound table a record's page is below P,
pub page_below : (P S : ℕ) (t : ℕ → Slot) (k : ℕ) (r : Record) → table_sound P S t ≡ true → k < S → t k ≡ Some r → r.p < P
page_below P S t k r sound h e = (sound_facts P r (sound_at t P S k sound h e)).page_below

-- and no page from P on has a record.
pub beyond_blank : (P S : ℕ) (t : ℕ → Slot) → table_sound P S t ≡ true → (p : ℕ) → P ≤ p → highest S t p ≡ None
beyond_blank P S t sound p h = by (highest S t p) refl
  where
    by : (s : Slot) → highest S t p ≡ s → highest S t p ≡ None
    by None e = e
    by (Some r) e =
        let k = highest_held t p S (highest_is t p S) e in
        let f = page_below P S t k.0 r sound k.1 k.2 in
        let q = highest_page t p S (highest_is t p S) e in
        absurd (omega arith)

-- A slot of a sound table whose record would have no page is blank.
pub no_page_blank : (P S : ℕ) (t : ℕ → Slot) (k : ℕ) → table_sound P S t ≡ true → k < S → P ≤ 256 → ((r : Record) → t k ≡ Some r → r.p ≡ no_number) → t k ≡ None
no_page_blank P S t k sound h m f = by (t k) refl
  where
    by : (s : Slot) → t k ≡ s → t k ≡ None
    by None e = e
    by (Some r) e =
        let l = page_below P S t k r sound h e in
        let n = f r e in
        absurd (omega arith)

-- ---- the table of all pages' highest slots

-- no slot is looked at yet
pub none_below : (S : ℕ) (t : ℕ → Slot) → HighestBelow S 0 t (replicate 256 None)
unfolding highest_slot
none_below S t = record {
  sized = length-replicate {A = Option ℕ} 256 None;
  entry = λ p h. ap (entry_of S) (get_or-replicate 256 p None None h);
  inside = λ p k e. absurd (on_lt p 256
      (λ h. none-some k (sym (get_or-replicate 256 p None None h) ∙ e))
      (λ h. none-some k (sym (get_or_past (replicate 256 None) p None (let l = length-replicate {A = Option ℕ} 256 None in omega arith)) ∙ e)));
}

module _ (S : ℕ) (t : ℕ → Slot) (k : ℕ) (top : List (Option ℕ)) (b : HighestBelow S k t top) where
  -- the entry of page p names p's highest record
  pub highest_read : k ≤ S → (p : ℕ) → p < 256 → named S t (entry_of S (get_or top p None)) ≡ highest k t p
  highest_read l p h = ap (named S t) (b.entry p h) ∙ highest_named S t p k l

  -- ---- one slot more

  -- a record that is not above its page's highest changes nothing
  other_page : (p : ℕ) (r : Record) → ¬ (r.p ≡ p) → better p (highest k t p) r ≡ false
  unfolding better of_page
  other_page p r d = rw (ne_eqb r.p p d)

  own_page : (p : ℕ) (r : Record) {b : Bool} → r.p ≡ p → above (highest k t r.p) r ≡ b → better p (highest k t p) r ≡ b
  unfolding better of_page
  own_page p r {b} e h = rw (eq-eqb r.p p e) (subst (λ (x : ℕ). above (highest k t x) r ≡ b) e h)

  pub highest_blank : t k ≡ None → HighestBelow S (k + 1) t top
  highest_blank e = record { sized = b.sized; entry = λ p h. b.entry p h ∙ sym (highest_slot_blank S t p k e); inside = b.inside }

  pub highest_kept : (r : Record) → t k ≡ Some r → above (highest k t r.p) r ≡ false → HighestBelow S (k + 1) t top
  highest_kept r e a = record {
    sized = b.sized;
    entry = λ p h. b.entry p h ∙ sym (highest_slot_stays S t p k e (on_eq r.p p (λ q. own_page p r q a) (λ d. other_page p r d)));
    inside = b.inside;
  }

  -- a record that is above its page's highest takes its place
  pub highest_raised : (r : Record) → t k ≡ Some r → k < S → r.p < 256 → above (highest k t r.p) r ≡ true → HighestBelow S (k + 1) t (set top r.p (Some k))
  highest_raised r e l h a = record {
    sized = length-set top r.p (Some k) ∙ b.sized;
    entry = λ p q. on_eq p r.p
        (λ i. ap (entry_of S) (at_page p i) ∙ sym (highest_slot_taken S t p k e (own_page p r (sym i) a)))
        (λ d. ap (entry_of S) (get_or-set_other top r.p p (Some k) None d) ∙ b.entry p q ∙ sym (highest_slot_stays S t p k e (other_page p r (λ i. d (sym i)))));
    inside = λ p j q. on_eq p r.p
        (λ i. subst (λ (x : ℕ). x < S) (ap (entry_of S) (sym (at_page p i) ∙ q)) l)
        (λ d. b.inside p j (sym (get_or-set_other top r.p p (Some k) None d) ∙ q));
  }
    where
      at_page : (p : ℕ) → p ≡ r.p → get_or (set top r.p (Some k)) p None ≡ Some k
      at_page p i = ap (λ (x : ℕ). get_or (set top r.p (Some k)) x None) i ∙ get_or-set_same top r.p (Some k) None (let z = b.sized in omega arith)

-- "a page with no record": exactly where its entry is none
pub has_entry : (S : ℕ) (t : ℕ → Slot) (top : List (Option ℕ)) → HighestBelow S S t top → (p : ℕ) → p < 256 → is_some (get_or top p None) ≡ has_record S t p
has_entry S t top b p h = by (get_or top p None) refl
  where
    by : (e : Option ℕ) → get_or top p None ≡ e → is_some e ≡ has_record S t p
    by None e = let n = sym (b.entry p h) ∙ ap (entry_of S) e in sym (highest_slot_exists S t p ∙ le-ltb _ _ (omega arith))
    by (Some k) e =
        let n = sym (b.entry p h) ∙ ap (entry_of S) e in
        let i = b.inside p k e in
        sym (highest_slot_exists S t p ∙ lt-ltb _ _ (omega arith))

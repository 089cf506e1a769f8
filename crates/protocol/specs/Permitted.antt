-- When a record may be erased, over the set of records; a slot that may be erased holds such a record.
use Rattle.std.specs.Prelude.{ℕ, ◌<◌, ◌≡◌, refl, List, ◌⊎◌, Bool, true}
use Rattle.std.proofs.Common.{subst, inl, inr}
use Rattle.record.specs.declared.Record.{Record}
use Rattle.record.specs.Slot.{Slot}
use Rattle.std.specs.Prelude.{Some}
use Rattle.record.specs.SlotLaws.{Straddles}
use Rattle.state.specs.declared.PageState.{PageState}
use Rattle.state.specs.State.{in_flight}
use Rattle.rules.specs.Permission.{may_erase, scene}
use Rattle.rules.specs.laws.Permission as slots
use Rattle.rules.proofs.laws.Permission as slot_laws
use Rattle.protocol.specs.View.{View, record_view, InSlots, Exposed, Obsolete}
use Rattle.protocol.specs.Shared.{comm_of}

module _ {X : Type 0} (view : View X) (st : ℕ → PageState) where
  -- an exposed record other than one whose page is in flight with v = used
  abbrev pub ExposedSpare : X → Type 0
  ExposedSpare r = Exposed view (comm_of st) r × ¬ ((in_flight (st (view.page r)) ≡ true) × (view.version r ≡ (st (view.page r)).used))

  -- a record that is obsolete, or exposed and so: neither the committed one nor the current one of a page in flight
  abbrev pub Spare : X → Type 0
  Spare r = Obsolete view (comm_of st) r ⊎ ExposedSpare r

module _ (R : Record → List ℕ → Type 0) where
  -- K is a needed straddler: no record has the same page and c with a higher v, and it straddles the link of some exposed record
  pub record Needed (comm : ℕ → ℕ) (K : Record) : Type 0 where
    pub furthest : (r : Record) (b : List ℕ) → R r b → r.p ≡ K.p → r.c ≡ K.c → K.v < r.v → ⊥
    pub supports : (r : Record) × (b : List ℕ) × R r b × Exposed record_view comm r × Straddles K r

  -- an obsolete record that is no needed straddler, or an exposed record other than one whose page is in flight with v = used
  abbrev pub Permitted : (ℕ → PageState) → Record → Type 0
  Permitted st r = (Obsolete record_view (comm_of st) r × ¬ (Needed (comm_of st) r)) ⊎ ExposedSpare record_view st r

-- the permission sees the set alone
pub permitted_same :
    {R R' : Record → List ℕ → Type 0}
    → ((r : Record) (b : List ℕ) → R r b → R' r b)
    → ((r : Record) (b : List ℕ) → R' r b → R r b)
    → (st : ℕ → PageState) (r : Record)
    → Permitted R st r
    → Permitted R' st r
permitted_same forth back st r (inl o) =
    inl (o.0, λ n. o.1 (record { furthest = λ s b h. n.furthest s b (forth s b h); supports = let x = n.supports in (x.0, x.1, back x.0 x.1 x.2, x.3, x.4) }))
permitted_same forth back st r (inr x) = inr x

-- the permission of a slot is that of its record over the set
pub may_erase_permitted :
    (S : ℕ) (t : ℕ → Slot) (bytes : ℕ → List ℕ) (st : ℕ → PageState) (twin : ℕ → ℕ → Bool) (k : ℕ) (r : Record)
    → may_erase (scene S t st twin) k ≡ true
    → t k ≡ Some r
    → Permitted (InSlots S t bytes) st r
may_erase_permitted S t bytes st twin k r e h =
    let w = (slot_laws.may_erase_exactly S t st twin k).0 e in
    let same : w.0 ≡ r = cc w.1 in
    subst (Permitted (InSlots S t bytes) st) same (over w.0 w.2)
  where
    needed : (K : Record) → Needed (InSlots S t bytes) (comm_of st) K → slots.Needed S t st K
    needed K n =
        record {
          furthest = λ j s l f. n.furthest s (bytes j) (j, l, f, refl);
          supports = let x = n.supports in let u = x.2 in (u.0, x.0, u.1, u.2, (x.3, x.4));
        }

    over : (s : Record) → slots.Erasable S t st s → Permitted (InSlots S t bytes) st s
    over s (inl o) = inl (o.0, λ n. o.1 (needed s n))
    over s (inr x) = inr x

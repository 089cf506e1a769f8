-- What may be erased still may once some records that may be erased are gone and recovery has found the state again: no page is in flight then, and of straddlers the furthest stays.
use Rattle.std.specs.Prelude.{ℕ, ◌≤◌, ◌<◌, ◌≡◌, refl, List, Bool, true, false}
use Rattle.std.proofs.Common.{arith, ap, ◌∙◌, inl, inr, ⊎_elim}
use Rattle.std.proofs.Math.Decide.{ℕ_discrete}
use Rattle.bounded.specs.Choice.{on_lt, never}
use Rattle.bounded.specs.Limits.{highest_version}
use Rattle.record.specs.declared.Record.{Record}
use Rattle.record.specs.Slot.{Slot}
use Rattle.std.specs.Prelude.{Some}
use Rattle.record.specs.SlotLaws.{Straddles, sound_facts}
use Rattle.state.specs.declared.PageState.{PageState}
use Rattle.state.specs.State.{in_flight}
use Rattle.rules.specs.Permission.{scene, may_erase}
use Rattle.rules.specs.laws.Permission as slots
use Rattle.rules.proofs.laws.Permission as slot_laws
use Rattle.protocol.specs.View.{InSlots, Exposed, record_view, greatest}
use Rattle.protocol.specs.Shared.{comm_of}
use Rattle.protocol.specs.BackPointer.{Core}
use Rattle.protocol.specs.Permitted.{Needed, Permitted}
use Rattle.atomicity.proofs.steps.Sparing.{Pairs, ErasedBy}

-- a slot whose record may be erased, over the set, may be
pub permitted_may_erase : (S : ℕ) (t : ℕ → Slot) (bytes : ℕ → List ℕ) (st : ℕ → PageState) (twin : ℕ → ℕ → Bool) (k : ℕ) (r : Record) → t k ≡ Some r → Permitted (InSlots S t bytes) st r → may_erase (scene S t st twin) k ≡ true
permitted_may_erase S t bytes st twin k r e p = (slot_laws.may_erase_exactly S t st twin k).1 (r, e, over p)
  where
    needed : (K : Record) → slots.Needed S t st K → Needed (InSlots S t bytes) (comm_of st) K
    needed K n =
        record {
          furthest = λ s b h. n.furthest h.0 s h.1 h.2;
          supports = let x = n.supports in (x.1, bytes x.0, (x.0, x.2, x.3, refl), x.4.0, x.4.1);
        }

    over : Permitted (InSlots S t bytes) st r → slots.Erasable S t st r
    over (inl o) = inl (o.0, λ n. o.1 (needed r n))
    over (inr x) = inr x

-- from R to R' no record is lost but such as may be erased
module _ {P : ℕ} {R R' : Pairs} {st : ℕ → PageState} {kept : ℕ → List ℕ} (erased : ErasedBy Permitted R R' st) (core : Core R (comm_of st) P kept) where
  page_below : (r : Record) (b : List ℕ) → R r b → r.p < P
  page_below r b w = (sound_facts P r (core.shared.all_sound r b w)).page_below

  -- an obsolete record that was not needed is not then: where it straddles an exposed link, the furthest with its page and c does too, and stays
  module _ (K : Record) (d : List ℕ) (u : R K d) (old : K.v < (st K.p).committed) (free : ¬ (Needed R (comm_of st) K)) where
    abbrev Alike : Record → Type 0
    Alike r = (r.p ≡ K.p) × (r.c ≡ K.c)

    decide : (r : Record) → Dec (Alike r)
    decide r =
        elim (ℕ_discrete r.p K.p) [
          | yes p ↦ elim (ℕ_discrete r.c K.c) [ yes c ↦ yes (p, c) | no c ↦ no (λ z. c z.1) ]
          | no p ↦ no (λ z. p z.0)
        ]

    not_needed : Needed R' (comm_of st) K → ⊥
    not_needed n =
        on_lt K.v M.v
        (λ l. n.furthest M g.1 stays like.0 like.1 l)
        (λ l. free (record {
          furthest = λ r b w p c a. g.5 r b w (p, c) (omega arith);
          supports = (x.0, x.1, erased.fewer x.0 x.1 x.2, x.3, x.4);
        }))
      where
        g : (m : Record) × (e : List ℕ) × R m e × Alike m × (K.v ≤ m.v) × ((s : Record) (b : List ℕ) → R s b → Alike s → m.v < s.v → ⊥)
        g = greatest erased.finds_before Alike decide (λ r. r.v) highest_version (λ r c w. (sound_facts P r (core.shared.all_sound r c w)).v_most) K d u (refl, refl)

        M : Record
        M = g.0

        like : (M.p ≡ K.p) × (M.c ≡ K.c)
        like = g.3

        x : (r : Record) × (b : List ℕ) × R' r b × Exposed record_view (comm_of st) r × Straddles K r
        x = n.supports

        straddles : Straddles M x.0
        straddles =
            let s = x.4 in
            let c = like.1 in
            let more = g.4 in
            record { at_next = like.0 ∙ s.at_next; above_c = (let a = s.above_c in omega arith); below_v = (let a = s.below_v in omega arith) }

        within : M.v ≤ (st M.p).committed
        within =
            on_lt (st M.p).committed M.v
            (λ l. absurd (let c = core.own.exposed_back M g.1 g.2 l in let e = ap (λ (p : ℕ). (st p).committed) like.0 in let k = like.1 in let a = x.4.above_c in let z = x.4.below_v in omega arith))
            (λ l. l)

        barred : Permitted R st M → ⊥
        barred (inl o) = o.1 (record {
          furthest = λ r b w p c l. g.5 r b w (p ∙ like.0, c ∙ like.1) l;
          supports = (x.0, x.1, erased.fewer x.0 x.1 x.2, x.3, straddles);
        })
        barred (inr z) = let l = z.0 in let h = within in omega arith

        stays : R' M g.1
        stays = ⊎_elim (λ h. h) (λ p. absurd (barred p)) (erased.stays_or_permitted M g.1 g.2)

  -- and st' has the same committed versions, and no page in flight
  module _ (st' : ℕ → PageState) (same_committed : (p : ℕ) → p < P → (st' p).committed ≡ (st p).committed) (at_rest_lem : (p : ℕ) → p < P → in_flight (st' p) ≡ false) where
    -- the same records are exposed by both
    needed_before : (K : Record) → Needed R' (comm_of st') K → Needed R' (comm_of st) K
    needed_before K n =
        let x = n.supports in
        let c = same_committed x.0.p (page_below x.0 x.1 (erased.fewer x.0 x.1 x.2)) in
        record { furthest = n.furthest; supports = (x.0, x.1, x.2, (let l = x.3 in omega arith), x.4) }

    pub still_permitted : (r : Record) (b : List ℕ) → R' r b → Permitted R st r → Permitted R' st' r
    still_permitted r b w (inl o) =
        let before = erased.fewer r b w in
        let c = same_committed r.p (page_below r b before) in
        inl ((let l = o.0 in omega arith), λ n. not_needed r b before o.0 o.1 (needed_before r n))
    still_permitted r b w (inr x) =
        let below = page_below r b (erased.fewer r b w) in
        let c = same_committed r.p below in
        inr ((let l = x.0 in omega arith), λ q. never q.0 (at_rest_lem r.p below))

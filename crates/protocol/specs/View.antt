-- What the invariant sees of the flash: the set of (record, contents) pairs that the slots hold, and of a record its page, version and link.
use Prim.Native.Nat.{ℕ, zero, suc, ◌+◌, ◌≤◌, ◌<◌}
use native.Mathlib.Omega.{arith}
use Rattle.std.proofs.Math.Decide.{dec_lt, ℕ_discrete}
use Rattle.std.proofs.Math.Path.{◌≡◌, refl}
use Rattle.std.proofs.Common.{sym, ap, ◌∙◌, subst}
use Rattle.std.specs.Prelude.{List, ◌⊎◌, Bool, true}
use Rattle.std.proofs.Math.Logic.{inl, inr}
use Rattle.bounded.specs.BelowLaws.{below_suc}
use Rattle.record.specs.declared.Record.{Record}
use Rattle.record.specs.Slot.{Slot}
use Rattle.std.specs.Prelude.{None, Some}
use Rattle.record.specs.Slot.{record_sound, planned_record}
use Rattle.record.specs.SlotLaws.{sound_facts}

-- A family's view of its records: each has a page and version, and links to a page and version; when a record is sound among P pages, which both pages are then;
-- and the record planned for a page in flight, which is of that page at its used version and links to the next page's.
pub record View (X : Type 0) : Type 0 where
  pub page : X → ℕ
  pub version : X → ℕ
  pub next_page : X → ℕ
  pub next_version : X → ℕ
  pub sound : ℕ → X → Bool
  pub sound_page : (P : ℕ) (r : X) → sound P r ≡ true → page r < P
  pub sound_next : (P : ℕ) (r : X) → sound P r ≡ true → next_page r < P
  pub planned : (page used committed next used_of_next : ℕ) → X
  pub planned_page : (p u c q n : ℕ) → page (planned p u c q n) ≡ p
  pub planned_version : (p u c q n : ℕ) → version (planned p u c q n) ≡ u
  pub planned_next_page : (p u c q n : ℕ) → next_page (planned p u c q n) ≡ q
  pub planned_next_version : (p u c q n : ℕ) → next_version (planned p u c q n) ≡ n

-- A record is exposed if its version is above its page's committed version, obsolete if below, committed if it is that version.
abbrev pub Exposed : {X : Type 0} → View X → (ℕ → ℕ) → X → Type 0
Exposed view comm r = comm (view.page r) < view.version r

abbrev pub Obsolete : {X : Type 0} → View X → (ℕ → ℕ) → X → Type 0
Obsolete view comm r = view.version r < comm (view.page r)

abbrev pub IsCommitted : {X : Type 0} → View X → (ℕ → ℕ) → X → Type 0
IsCommitted view comm r = view.version r ≡ comm (view.page r)

-- r is the record of page p at version v
abbrev pub IsAt : {X : Type 0} → View X → X → (p v : ℕ) → Type 0
IsAt view r p v = (view.page r ≡ p) × (view.version r ≡ v)

-- r links to t
abbrev pub LinksTo : {X : Type 0} → View X → (r t : X) → Type 0
LinksTo view r t = (view.page t ≡ view.next_page r) × (view.version t ≡ view.next_version r)

pub decide_links : {X : Type 0} (view : View X) (r t : X) → Dec (LinksTo view r t)
decide_links view r t =
    elim (ℕ_discrete (view.page t) (view.next_page r)) [
      | yes p ↦ elim (ℕ_discrete (view.version t) (view.next_version r)) [ yes v ↦ yes (p, v) | no v ↦ no (λ w. v w.1) ]
      | no p ↦ no (λ w. p w.0)
    ]

-- a record of the set that passes, or none does
abbrev pub Search : {X : Type 0} → (X → List ℕ → Type 0) → (X → Type 0) → Type 0
Search {X} R Q = ((r : X) × (b : List ℕ) × R r b × Q r) ⊎ ((r : X) (b : List ℕ) → R r b → Q r → ⊥)

-- the set can be searched for any decidable property of a record
abbrev pub Finds : {X : Type 0} → (X → List ℕ → Type 0) → Type 1
Finds {X} R = (Q : X → Type 0) → ((r : X) → Dec (Q r)) → Search R Q

-- in a set that can be searched, among the records that pass and whose size is bounded one has the greatest
module _ {X : Type 0} {R : X → List ℕ → Type 0} (finds : Finds R) (Q : X → Type 0) (decide : (r : X) → Dec (Q r)) (size : X → ℕ) (bound : ℕ) (bounded : (r : X) (b : List ℕ) → R r b → size r ≤ bound) where
  abbrev pub Greatest : X → Type 0
  Greatest r = (m : X) × (d : List ℕ) × R m d × Q m × (size r ≤ size m) × ((s : X) (b : List ℕ) → R s b → Q s → size m < size s → ⊥)

  both_decided : (n : ℕ) (s : X) → Dec (Q s × (n < size s))
  both_decided n s =
      elim (decide s) [
        | yes q ↦ elim (dec_lt n (size s)) [ yes l ↦ yes (q, l) | no l ↦ no (λ w. l w.1) ]
        | no q ↦ no (λ w. q w.0)
      ]

  greatest_within : (fuel : ℕ) (r : X) (b : List ℕ) → R r b → Q r → bound ≤ size r + fuel → Greatest r
  greatest_within zero r b w q l =
      (r, b, w, q, omega arith, λ s d u z g. let m = bounded s d u in omega arith)
  greatest_within (suc n) r b w q l = go (finds (λ s. Q s × (size r < size s)) (both_decided (size r))) (λ s d. greatest_within n s d)
    where
      go : Search R (λ s. Q s × (size r < size s)) → ((s : X) (d : List ℕ) → R s d → Q s → bound ≤ size s + n → Greatest s) → Greatest r
      go (inl f) rest =
          let more = f.3.1 in
          let g = rest f.0 f.1 f.2 f.3.0 (omega arith) in
          (g.0, g.1, g.2, g.3, (let h = g.4 in omega arith), g.5)
      go (inr none) rest = (r, b, w, q, omega arith, λ s d u z g. none s d u (z, g))

  pub greatest : (r : X) (b : List ℕ) → R r b → Q r → Greatest r
  greatest r b w q = greatest_within bound r b w q (omega arith)

-- ---- records in slots

pub planned_record_page : (p u c q n : ℕ) → (planned_record p u c q n).p ≡ p
unfolding planned_record
planned_record_page p u c q n = refl

pub planned_record_version : (p u c q n : ℕ) → (planned_record p u c q n).v ≡ u
unfolding planned_record
planned_record_version p u c q n = refl

pub planned_record_next : (p u c q n : ℕ) → (planned_record p u c q n).np ≡ q
unfolding planned_record
planned_record_next p u c q n = refl

pub planned_record_next_version : (p u c q n : ℕ) → (planned_record p u c q n).nv ≡ n
unfolding planned_record
planned_record_next_version p u c q n = refl

pub planned_record_back : (p u c q n : ℕ) → (planned_record p u c q n).c ≡ c
unfolding planned_record
planned_record_back p u c q n = refl

-- the view of records whose planned one points back at a version given by its page's used and committed versions
abbrev pub pointing_view : (back : (used committed : ℕ) → ℕ) → View Record
pointing_view back =
    record {
      page = λ r. r.p;
      version = λ r. r.v;
      next_page = λ r. r.np;
      next_version = λ r. r.nv;
      sound = record_sound;
      sound_page = λ P r e. (sound_facts P r e).page_below;
      sound_next = λ P r e. (sound_facts P r e).next_below;
      planned = λ p u c q n. planned_record p u (back u c) q n;
      planned_page = λ p u c q n. planned_record_page p u (back u c) q n;
      planned_version = λ p u c q n. planned_record_version p u (back u c) q n;
      planned_next_page = λ p u c q n. planned_record_next p u (back u c) q n;
      planned_next_version = λ p u c q n. planned_record_next_version p u (back u c) q n;
    }

-- five-word records: the planned one points back at the committed version
abbrev pub record_view : View Record
record_view = pointing_view (λ u c. c)

-- the pairs in the S slots of the table t: some slot holds the record and has those bytes
abbrev pub InSlots : (S : ℕ) (t : ℕ → Slot) (bytes : ℕ → List ℕ) → Record → List ℕ → Type 0
InSlots S t bytes r b = (k : ℕ) × (k < S) × (t k ≡ Some r) × (bytes k ≡ b)

-- no two slots hold records of equal page and version
abbrev pub NoTwins : (S : ℕ) (t : ℕ → Slot) → Type 0
NoTwins S t =
    (j k : ℕ) (a b : Record) → j < S → k < S → t j ≡ Some a → t k ≡ Some b → a.p ≡ b.p → a.v ≡ b.v → j ≡ k

module _ (t : ℕ → Slot) (bytes : ℕ → List ℕ) (Q : Record → Type 0) (decide : (r : Record) → Dec (Q r)) where
  SlotSearch : Slot → Type 0
  SlotSearch s = ((r : Record) × (s ≡ Some r) × Q r) ⊎ ((r : Record) → s ≡ Some r → Q r → ⊥)

  search_slot : (s : Slot) → SlotSearch s
  unfolding SlotSearch
  search_slot None = inr (λ r e q. let z : ◌≡◌ {A = ℕ} 0 1 = cc in omega arith)
  search_slot (Some r) =
      elim (decide r) [
        | yes q ↦ inl (r, refl, q)
        | no n ↦ inr (λ s e q. let w : s ≡ r = cc in n (subst Q w q))
      ]

  search_slots : (n : ℕ) → Search (InSlots n t bytes) Q
  unfolding SlotSearch
  search_slots zero = inr (λ r b w q. absurd (let l = w.1 in omega arith))
  search_slots (suc n) = go (search_slots n) (search_slot (t n))
    where
      go : Search (InSlots n t bytes) Q → SlotSearch (t n) → Search (InSlots (suc n) t bytes) Q
      go (inl w) here = inl (w.0, w.1, (w.2.0, (let l = w.2.1 in omega arith), w.2.2, w.2.3), w.3)
      go (inr none) (inl w) = inl (w.0, bytes n, (n, omega arith, w.1, refl), w.2)
      go (inr none) (inr not) =
          inr (λ r b w q. below_suc w.0 n w.1
          (λ l. none r b (w.0, l, w.2, w.3) q)
          (λ e. not r (ap t (sym e) ∙ w.2) q))

pub finds_in_slots : (S : ℕ) (t : ℕ → Slot) (bytes : ℕ → List ℕ) → Finds (InSlots S t bytes)
finds_in_slots S t bytes Q decide = search_slots t bytes Q decide S

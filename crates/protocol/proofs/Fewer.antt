-- Fewer records, each removed one permitted, keep the invariant: an erasure, whole or cut short.
use Prim.Native.Nat.{ℕ, zero, suc, ◌≤◌, ◌<◌}
use Rattle.std.proofs.Common.{arith, ap, ◌∙◌, ⊎_elim}
use Rattle.std.proofs.Math.Decide.{ℕ_discrete}
use Rattle.std.specs.Prelude.{◌≡◌, refl, List, ◌⊎◌, true}
use Rattle.std.proofs.Math.Path.{sym, subst}
use Rattle.std.proofs.Math.Logic.{inl, inr}
use Rattle.bounded.specs.Choice.{on_lt}
use Rattle.bounded.specs.Limits.{highest_version}
use Rattle.record.specs.declared.Record.{Record}
use Rattle.record.specs.SlotLaws.{Straddles, sound_facts}
use Rattle.state.specs.declared.PageState.{PageState}
use Rattle.state.specs.State.{in_flight}
use Rattle.state.specs.StateLaws.{StateFacts}
use Rattle.protocol.specs.View.{View, Finds, Search, record_view, LinksTo, decide_links, IsCommitted, Exposed, greatest}
use Rattle.protocol.specs.Shared.{SharedCore, SharedLive, OpenAtOnce, OpenWithin, plan, comm_of}
use Rattle.protocol.specs.BackPointer.{Core}
use Rattle.protocol.specs.Permitted.{Spare, Permitted}

-- fewer records, and the committed ones among them
pub record FewerRecords {X : Type 0} (view : View X) (R R' : X → List ℕ → Type 0) (comm : ℕ → ℕ) : Type 1 where
  pub fewer : (r : X) (b : List ℕ) → R' r b → R r b
  pub finds : Finds R'
  pub committed_stays : (r : X) (b : List ℕ) → R r b → IsCommitted view comm r → R' r b

module _ {X : Type 0} (view : View X) {P : ℕ} {R R' : X → List ℕ → Type 0} {comm : ℕ → ℕ} {kept : ℕ → List ℕ}
    (records : FewerRecords view R R' comm) (core : SharedCore view R comm P kept) where
  open records use {fewer, finds, committed_stays}
  open core use {all_sound, one_record, committed_kept, committed_link, links_apart, exposed_open}

  at_once_fewer : (r : X) → OpenAtOnce view R comm r → OpenAtOnce view R' comm r
  at_once_fewer r (inl l) = inl l
  at_once_fewer r (inr none) = inr (λ t d w. none t d (fewer t d w))

  -- what is open stays open: where a link's record is gone, the link leads to none
  open_fewer : (k : ℕ) (r : X) → OpenWithin view R comm k r → OpenWithin view R' comm k r
  unfolding OpenWithin
  open_fewer zero r o = at_once_fewer r o
  open_fewer (suc k) r (inl o) = inl (at_once_fewer r o)
  open_fewer (suc k) r (inr o) = by (finds (LinksTo view r) (decide_links view r)) (open_fewer k o.0 o.4)
    where
      by : Search R' (LinksTo view r) → OpenWithin view R' comm k o.0 → OpenWithin view R' comm (suc k) r
      by (inl f) h =
          let l = f.3 in
          let m = o.3 in
          let same = one_record o.0 f.0 o.1 f.1 o.2 (fewer f.0 f.1 f.2) (m.0 ∙ sym l.0) (m.1 ∙ sym l.1) in
          inr (f.0, f.1, f.2, l, subst (λ (x : X). OpenWithin view R' comm k x) same.0 h)
      by (inr none) h = inl (inr none)

  pub shared_core_fewer : SharedCore view R' comm P kept
  shared_core_fewer =
      record {
        all_sound = λ r b w. all_sound r b (fewer r b w);
        one_record = λ r s b d w u. one_record r s b d (fewer r b w) (fewer s d u);
        committed_kept = λ p h. let c = committed_kept p h in
            (c.0, committed_stays c.0 (kept p) c.1 (c.2.1 ∙ ap comm (sym c.2.0)), c.2);
        committed_link = λ r b w. committed_link r b (fewer r b w);
        links_apart = λ r s b d w u. links_apart r s b d (fewer r b w) (fewer s d u);
        exposed_open = λ r b w l. let o = exposed_open r b (fewer r b w) l in (o.0, open_fewer o.0 r o.1);
      }

-- the records at the used versions of pages in flight stay
module _ {X : Type 0} (view : View X) {P : ℕ} {R R' : X → List ℕ → Type 0} {st : ℕ → PageState} {Entered : ℕ → List ℕ → Type 0}
    (fewer : (r : X) (b : List ℕ) → R' r b → R r b)
    (current_stays : (p : ℕ) → p < P → in_flight (st p) ≡ true → (r : X) (b : List ℕ) → R r b → view.page r ≡ p → view.version r ≡ (st p).used → R' r b)
    (live : SharedLive view P R st Entered) where
  open live use {within_used, written_stored, unwritten_absent, link_planned}

  pub live_fewer : SharedLive view P R' st Entered
  live_fewer =
      record {
        within_used = record {
          version_used = λ r b w. within_used.version_used r b (fewer r b w);
          link_used = λ r b w. within_used.link_used r b (fewer r b w);
        };
        written_stored = λ p h f w. let s = written_stored p h f w in (
          s.0,
          current_stays p h f (plan view st p) s.0 s.1
              (view.planned_page p (st p).used (st p).committed (st p).next (st (st p).next).used)
              (view.planned_version p (st p).used (st p).committed (st p).next (st (st p).next).used),
          s.2,
        );
        unwritten_absent = λ p h f w r b v. unwritten_absent p h f w r b (fewer r b v);
        link_planned = λ p h f r b v. link_planned p h f r b (fewer r b v);
      }

-- ---- an erasure

-- every record stays or may be erased
pub record Erases {X : Type 0} (R R' : X → List ℕ → Type 0) (MayGo : (ℕ → PageState) → X → Type 0) (st : ℕ → PageState) : Type 1 where
  pub fewer : (r : X) (b : List ℕ) → R' r b → R r b
  pub finds_before : Finds R
  pub finds : Finds R'
  pub stays_or_permitted : (r : X) (b : List ℕ) → R r b → R' r b ⊎ MayGo st r

-- what may not be erased stays
pub stays :
    {X : Type 0} {R R' : X → List ℕ → Type 0} {MayGo : (ℕ → PageState) → X → Type 0} {st : ℕ → PageState}
    → Erases R R' MayGo st
    → (r : X) (b : List ℕ)
    → R r b
    → ¬ (MayGo st r)
    → R' r b
stays erases r b w bar = ⊎_elim (λ u. u) (λ g. absurd (bar g)) (erases.stays_or_permitted r b w)

-- where only spare records may be erased, the committed ones stay, and those of pages in flight
module _ {X : Type 0} (view : View X) {R R' : X → List ℕ → Type 0} {st : ℕ → PageState} {MayGo : (ℕ → PageState) → X → Type 0}
    (erases : Erases R R' MayGo st) (spare : (r : X) → MayGo st r → Spare view st r) where
  open erases use {fewer, finds}

  -- a committed record is not spare
  committed_barred : (r : X) → IsCommitted view (comm_of st) r → Spare view st r → ⊥
  committed_barred r e (inl l) = omega arith
  committed_barred r e (inr x) = let l = x.0 in omega arith

  pub fewer_records : FewerRecords view R R' (comm_of st)
  fewer_records = record { fewer = fewer; finds = finds; committed_stays = λ r b w e. stays erases r b w (λ g. committed_barred r e (spare r g)) }

  module _ {P : ℕ} {Entered : ℕ → List ℕ → Type 0} (state : StateFacts P st) (live : SharedLive view P R st Entered) where
    -- nor is the record of a page in flight at its used version
    current_barred : (p : ℕ) → p < P → in_flight (st p) ≡ true → (r : X) → view.page r ≡ p → view.version r ≡ (st p).used → Spare view st r → ⊥
    current_barred p h f r e u (inl l) =
        let a = ap (λ (x : ℕ). (st x).committed) e in
        let c = (state.page p h).committed_used in
        omega arith
    current_barred p h f r e u (inr x) =
        x.1 (ap (λ (y : ℕ). in_flight (st y)) e ∙ f, u ∙ ap (λ (y : ℕ). (st y).used) (sym e))

    pub live_spared : SharedLive view P R' st Entered
    live_spared = live_fewer view fewer (λ p h f r b w e u. stays erases r b w (λ g. current_barred p h f r e u (spare r g))) live

-- ---- five-word records

-- every record stays or is permitted to go
abbrev pub Erased : (R R' : Record → List ℕ → Type 0) → (ℕ → PageState) → Type 1
Erased R R' st = Erases R R' (Permitted R) st

-- only spare records are permitted to go
pub permitted_spare : (R : Record → List ℕ → Type 0) (st : ℕ → PageState) (r : Record) → Permitted R st r → Spare record_view st r
permitted_spare R st r (inl o) = inl o.0
permitted_spare R st r (inr x) = inr x

module _ {P : ℕ} {R R' : Record → List ℕ → Type 0} {st : ℕ → PageState} {kept : ℕ → List ℕ}
    (erased : Erased R R' st) (core : Core R (comm_of st) P kept) where
  open erased use {fewer, finds_before}
  open core use {shared, own}
  open shared use {all_sound}
  open own use {exposed_back}

  -- a straddler of an exposed link, not above the committed version, leaves one behind: of those with its page and c the furthest is needed
  pub straddler_stays :
      (x : Record) (b : List ℕ)
      → R' x b
      → Exposed record_view (comm_of st) x
      → (K : Record) (d : List ℕ)
      → R K d
      → K.v ≤ (st x.np).committed
      → Straddles K x
      → (M : Record) × (e : List ℕ) × R' M e × (M.v ≤ (st x.np).committed) × Straddles M x
  straddler_stays x b w exposed K d u low s =
      let g = greatest finds_before Q decide (λ r. r.v) highest_version (λ r c v. (sound_facts P r (all_sound r c v)).v_most) K d u (refl, refl) in
      let M = g.0 in
      let like = g.3 in
      let at : M.p ≡ x.np = like.0 ∙ s.at_next in
      let comm_at : (st M.p).committed ≡ (st x.np).committed = ap (λ (p : ℕ). (st p).committed) at in
      let straddles : Straddles M x = record { at_next = at; above_c = (let a = s.above_c in let c = like.1 in omega arith); below_v = (let a = s.below_v in let c = g.4 in omega arith) } in
      let within : M.v ≤ (st x.np).committed =
      on_lt (st x.np).committed M.v
      (λ l. absurd (let c = exposed_back M g.1 g.2 (omega arith) in let a = s.above_c in let z = s.below_v in let k = like.1 in omega arith))
      (λ l. l) in
      (M, g.1, stays erased M g.1 g.2 (barred M g.5 like straddles within comm_at), within, straddles)
    where
      Q : Record → Type 0
      Q r = (r.p ≡ K.p) × (r.c ≡ K.c)

      decide : (r : Record) → Dec (Q r)
      decide r =
          elim (ℕ_discrete r.p K.p) [
            | yes p ↦ elim (ℕ_discrete r.c K.c) [ yes c ↦ yes (p, c) | no c ↦ no (λ z. c z.1) ]
            | no p ↦ no (λ z. p z.0)
          ]

      barred :
          (M : Record)
          → ((r : Record) (c : List ℕ) → R r c → Q r → M.v < r.v → ⊥)
          → Q M
          → Straddles M x
          → M.v ≤ (st x.np).committed
          → (st M.p).committed ≡ (st x.np).committed
          → Permitted R st M
          → ⊥
      barred M top like straddles within e (inl o) =
          o.1 (record {
            furthest = λ r c v p q l. top r c v (p ∙ like.0, q ∙ like.1) l;
            supports = (x, b, fewer x b w, exposed, straddles);
          })
      barred M top like straddles within e (inr z) = let l = z.0 in omega arith

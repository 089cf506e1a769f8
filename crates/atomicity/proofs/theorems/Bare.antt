-- A volume whose state is known and of which no slot may be erased has one record for each page, and one more for each written page in flight.
use Prim.Native.Nat.{ℕ, zero, suc, ◌+◌, ◌≤◌, ◌<◌}
use native.Mathlib.Omega.{arith}
use Rattle.std.specs.Prelude.{◌≡◌, ◌⊎◌, List, [], ◌∷◌, Bool, ◌&&◌}
use Rattle.std.proofs.Math.Path.{refl, sym, ap}
use Rattle.std.proofs.Common.{◌∙◌, inl, inr}
use Rattle.std.proofs.Math.Bool.{true, false, not}
use Rattle.std.proofs.Math.Dec.{ltb, eqb}
use Rattle.std.proofs.Math.ListN.{length}
use borrow.Author.Tests.{eqb-true, eq-eqb, ne_eqb, lt-ltb, le-ltb}
use Rattle.bounded.specs.Choice.{on_lt, on_eq, on_test, never, both, both_left, both_right, neither_right, not_yes, not_no}
use Rattle.bounded.specs.Below.{some_below, list_below}
use Rattle.bounded.specs.Members.{list_none, count_more, count_stays, count_split, count_one, count_same}
use Rattle.sizes.specs.declared.Layout.TheVariants.{FiveWords}
use Rattle.sizes.specs.Sizes.{listed}
use Rattle.record.specs.declared.Record.{Record}
use Rattle.record.specs.Slot.{Slot}
use Rattle.std.specs.Prelude.{None, Some}
use Rattle.record.specs.Slot.{holds, slot_at, bytes_at, is_blank}
use Rattle.record.specs.SlotLaws.{sound_facts, holds_exactly, holds_one}
use Rattle.record.specs.Flash.{Flash}
use Rattle.record.specs.FlashLaws.{SizedIn}
use Rattle.state.specs.declared.PageState.{PageState}
use Rattle.state.specs.State.{in_flight, is_written}
use Rattle.state.specs.StateLaws.{StateFacts}
use Rattle.table.proofs.TableLaws.{holds_of}
use Rattle.twins.specs.Twins.{twins}
use Rattle.twins.proofs.TwinsLaws.{twins_exactly}
use Rattle.rules.specs.Permission.{twin_outside, may_erase, may_erase_from, may_erase_alone, scene, untwinned}
use Rattle.rules.proofs.laws.Volume.{bytes_whole}
use Rattle.rules.specs.laws.Permission.{Exposed}
use Rattle.rules.proofs.laws.Permission.{obsolete_exactly, may_erase_exactly, may_erase_from_lem}
use Rattle.upkeep.proofs.laws.Sweep.{obsolete_needed}
use Rattle.protocol.specs.View.{record_view, planned_record_page, planned_record_version, planned_record_next, planned_record_next_version}
use Rattle.protocol.specs.Shared.{SharedCore, SharedLive, plan, comm_of}
use Rattle.atomicity.specs.Companions.{records_in, written_pages}
use Rattle.atomicity.proofs.steps.Sparing.{HeldIn}

module _
    (w P S : ℕ) (f : Flash) (size : SizedIn FiveWords w S f) (st : ℕ → PageState) (sound : StateFacts P st) {kept : ℕ → List ℕ} {Entered : ℕ → List ℕ → Type 0}
    (core : SharedCore record_view (HeldIn FiveWords w S f) (comm_of st) P kept) (live : SharedLive record_view P (HeldIn FiveWords w S f) st Entered)
    (bare : (k : ℕ) → k < S → may_erase_alone (scene S (slot_at f.words) st (twins w f)) k ≡ false) where
  abbrev t : ℕ → Slot
  t = slot_at f.words

  -- a slot's record with its contents
  pair : (k : ℕ) (r : Record) → k < S → t k ≡ Some r → HeldIn FiveWords w S f r (bytes_at w f.contents k)
  pair k r h e = (k, h, e, refl)

  page_below : (k : ℕ) (r : Record) → k < S → t k ≡ Some r → r.p < P
  page_below k r h e = (sound_facts P r (core.all_sound r _ (pair k r h e))).page_below

  -- ---- which records there are

  unpermitted : (k : ℕ) → k < S → may_erase (scene S t st (twins w f)) k ≡ false
  unfolding may_erase_alone may_erase_from
  unpermitted k h = neither_right (twin_outside (scene S t st (twins w f)) (listed (k ∷ [])) k) (may_erase (scene S t st (twins w f)) k) (bare k h)

  -- an exposed one is of a page in flight at its used version,
  exposed_current : (k : ℕ) (r : Record) → k < S → t k ≡ Some r → Exposed st r → (in_flight (st r.p) ≡ true) × (r.v ≡ (st r.p).used)
  exposed_current k r h e x =
      on_test (in_flight (st r.p))
      (λ y. on_eq r.v (st r.p).used (λ q. (y, q)) (λ d. absurd (never ((may_erase_exactly S t st (twins w f) k).1 (r, e, inr (x, λ c. d c.1))) (unpermitted k h))))
      (λ n. absurd (never ((may_erase_exactly S t st (twins w f) k).1 (r, e, inr (x, λ c. never c.0 n))) (unpermitted k h)))

  -- which is written
  exposed_written : (k : ℕ) (r : Record) → k < S → t k ≡ Some r → Exposed st r → is_written (st r.p) ≡ true
  exposed_written k r h e x =
      let c = exposed_current k r h e x in
      on_test (is_written (st r.p))
      (λ y. y)
      (λ n. absurd (live.unwritten_absent r.p (page_below k r h e) c.0 n r _ (pair k r h e) (refl, c.1)))

  -- so it is the planned one,
  exposed_planned : (k : ℕ) (r : Record) → k < S → t k ≡ Some r → Exposed st r → r ≡ plan record_view st r.p
  exposed_planned k r h e x =
      let c = exposed_current k r h e x in
      let s = live.written_stored r.p (page_below k r h e) c.0 (exposed_written k r h e x) in
      (core.one_record r (plan record_view st r.p) _ s.0 (pair k r h e) s.1 (sym (planned_record_page r.p _ _ _ _)) (c.1 ∙ sym (planned_record_version r.p _ _ _ _))).0

  -- whose link no record straddles: no version is above the used one. So no obsolete record is needed, and there is none.
  pub none_obsolete : (k : ℕ) (r : Record) → k < S → t k ≡ Some r → r.v < (st r.p).committed → ⊥
  none_obsolete k r h e l =
      let n = obsolete_needed S t st (twins w f) k e ((obsolete_exactly st r).1 l) (unpermitted k h) in
      let s = n.supports in
      let J = s.1 in
      let x = s.4.0 in
      let straddled = s.4.1 in
      let q = exposed_planned s.0 J s.2 s.3 x in
      let next : J.np ≡ (st J.p).next = ap (λ (y : Record). y.np) q ∙ planned_record_next J.p _ _ _ _ in
      let version : J.nv ≡ (st (st J.p).next).used = ap (λ (y : Record). y.nv) q ∙ planned_record_next_version J.p _ _ _ _ in
      let most = live.within_used.version_used r _ (pair k r h e) in
      let same : (st r.p).used ≡ J.nv = ap (λ (p : ℕ). (st p).used) (straddled.at_next ∙ next) ∙ sym version in
      let above = straddled.below_v in
      omega arith

  -- every record is committed, or of a written page in flight, at its used version
  kinds : (k : ℕ) (r : Record) → k < S → t k ≡ Some r → (r.v ≡ (st r.p).committed) ⊎ ((in_flight (st r.p) ≡ true) × (is_written (st r.p) ≡ true) × (r.v ≡ (st r.p).used))
  kinds k r h e =
      on_lt r.v (st r.p).committed
      (λ l. absurd (none_obsolete k r h e l))
      (λ l. on_lt (st r.p).committed r.v
      (λ x. let c = exposed_current k r h e x in inr (c.0, exposed_written k r h e x, c.1))
      (λ g. inl (omega arith)))

  -- and no two slots hold one of the same page and version
  one_slot : (j k : ℕ) (a b : Record) → j < S → k < S → t j ≡ Some a → t k ≡ Some b → a.p ≡ b.p → a.v ≡ b.v → j ≡ k
  unfolding may_erase_alone listed some_below
  one_slot j k a b hj hk ea eb p v =
      on_eq j k
      (λ q. q)
      (λ d. let same = core.one_record a b _ _ (pair j a hj ea) (pair k b hk eb) p v in
      let whole = bytes_whole w S f size in
      let twin = (twins_exactly w f j k (whole j hj) (whole k hk)).1 (a, ea, eb ∙ ap Some (sym same.0), same.1) in
      absurd (never ((may_erase_from_lem (scene S t st (twins w f)) (listed (k ∷ [])) k).1 (inl (j, hj, twin, ne_eqb k j (λ q. d (sym q))))) (bare k hk)))

  -- ---- counted page by page

  -- the slot holds a record of page m; of a page below m
  of_page_at : (m k : ℕ) → Bool
  of_page_at m k = holds (λ r. eqb r.p m) (t k)

  below_page : (m k : ℕ) → Bool
  below_page m k = holds (λ r. ltb r.p m) (t k)

  committed_at : (k : ℕ) → Bool
  committed_at k = holds (λ r. eqb r.v (st r.p).committed) (t k)

  abbrev written : ℕ → Bool
  written p = in_flight (st p) && is_written (st p)

  count : (ℕ → Bool) → ℕ
  count g = length (list_below S g)

  -- of page m there is one committed record,
  one_committed : (m : ℕ) → m < P → count (λ k. of_page_at m k && committed_at k) ≡ 1
  unfolding count of_page_at committed_at
  one_committed m h =
      let c = core.committed_kept m h in
      let r = c.0 in
      let s = c.1 in
      let at = c.2 in
      count_one _ S s.0 s.1
      (both (holds_of (λ r. eqb r.p m) s.2 (eq-eqb r.p m at.0)) (holds_of (λ r. eqb r.v (st r.p).committed) s.2 (eq-eqb r.v _ (at.1 ∙ ap (λ (p : ℕ). (st p).committed) (sym at.0)))))
      (λ j l e.
      let x = (holds_exactly (λ r. eqb r.p m) (t j)).0 (both_left (holds (λ r. eqb r.p m) (t j)) _ e) in
      let y = (holds_exactly (λ r. eqb r.v (st r.p).committed) (t j)).0 (both_right (holds (λ r. eqb r.p m) (t j)) _ e) in
      let xp = eqb-true x.0.p m x.2 in
      let yv = eqb-true y.0.v (st y.0.p).committed y.2 in
      let same : x.0 ≡ y.0 = holds_one x.1 y.1 in
      one_slot j s.0 x.0 r l s.1 x.1 s.2 (xp ∙ sym at.0)
      (ap (λ (z : Record). z.v) same ∙ yv ∙ ap (λ (z : Record). (st z.p).committed) (sym same) ∙ ap (λ (p : ℕ). (st p).committed) xp ∙ sym at.1))

  -- and where the page is written and in flight one more; else none
  one_written : (m : ℕ) → m < P → written m ≡ true → count (λ k. of_page_at m k && not (committed_at k)) ≡ 1
  unfolding count of_page_at committed_at
  one_written m h e =
      let flies = both_left (in_flight (st m)) (is_written (st m)) e in
      let s = live.written_stored m h flies (both_right (in_flight (st m)) (is_written (st m)) e) in
      let k = s.1.0 in
      let l = s.1.1 in
      let held = s.1.2 in
      let r = plan record_view st m in
      let p : r.p ≡ m = planned_record_page m _ _ _ _ in
      let v : r.v ≡ (st m).used = planned_record_version m _ _ _ _ in
      let above = (sound.page m h).flies_below_used flies in
      count_one _ S k l
      (both (holds_of (λ r. eqb r.p m) held (eq-eqb r.p m p))
      (not_no (on_test (holds (λ r. eqb r.v (st r.p).committed) (t k))
      (λ y. absurd (let z = (holds_exactly (λ r. eqb r.v (st r.p).committed) (t k)).0 y in
      let same : z.0 ≡ r = holds_one z.1 held in
      let zv = eqb-true z.0.v (st z.0.p).committed z.2 in
      let q : (st m).used ≡ (st m).committed = sym v ∙ ap (λ (z : Record). z.v) (sym same) ∙ zv ∙ ap (λ (z : Record). (st z.p).committed) same ∙ ap (λ (p : ℕ). (st p).committed) p in
      omega arith))
      (λ n. n))))
      (λ j b f.
      let x = (holds_exactly (λ r. eqb r.p m) (t j)).0 (both_left (holds (λ r. eqb r.p m) (t j)) _ f) in
      let xp = eqb-true x.0.p m x.2 in
      one_slot j k x.0 r b l x.1 held (xp ∙ sym p) (of_used m x.0 xp (uncommitted j x.0 x.1 (both_right (holds (λ r. eqb r.p m) (t j)) _ f)) (kinds j x.0 b x.1) ∙ sym v))
    where
      uncommitted : (j : ℕ) (r : Record) → t j ≡ Some r → not (holds (λ r. eqb r.v (st r.p).committed) (t j)) ≡ true → ¬ (r.v ≡ (st r.p).committed)
      uncommitted j r e n q = never n (not_yes (holds_of (λ r. eqb r.v (st r.p).committed) e (eq-eqb r.v _ q)))

      of_used : (m : ℕ) (r : Record) → r.p ≡ m → ¬ (r.v ≡ (st r.p).committed) → (r.v ≡ (st r.p).committed) ⊎ ((in_flight (st r.p) ≡ true) × (is_written (st r.p) ≡ true) × (r.v ≡ (st r.p).used)) → r.v ≡ (st m).used
      of_used m r p n (inl q) = absurd (n q)
      of_used m r p n (inr x) = x.2 ∙ ap (λ (p : ℕ). (st p).used) p

  none_written : (m : ℕ) → m < P → written m ≡ false → count (λ k. of_page_at m k && not (committed_at k)) ≡ 0
  unfolding count of_page_at committed_at
  none_written m h e =
      ap length (list_none _ S (λ j l. on_test (holds (λ r. eqb r.p m) (t j))
      (λ y. let x = (holds_exactly (λ r. eqb r.p m) (t j)).0 y in rw (y, by j x.0 x.1 (eqb-true x.0.p m x.2) (kinds j x.0 l x.1)))
      (λ n. rw n)))
    where
      by : (j : ℕ) (r : Record) → t j ≡ Some r → r.p ≡ m → (r.v ≡ (st r.p).committed) ⊎ ((in_flight (st r.p) ≡ true) × (is_written (st r.p) ≡ true) × (r.v ≡ (st r.p).used)) → holds (λ r. eqb r.v (st r.p).committed) (t j) ≡ true
      by j r f p (inl q) = holds_of (λ r. eqb r.v (st r.p).committed) f (eq-eqb r.v _ q)
      by j r f p (inr x) = absurd (never (both (ap (λ (p : ℕ). in_flight (st p)) (sym p) ∙ x.0) (ap (λ (p : ℕ). is_written (st p)) (sym p) ∙ x.1)) e)

  -- one page more
  one_more_lem : (m : ℕ) → count (below_page (suc m)) ≡ count (below_page m) + count (of_page_at m)
  unfolding count below_page of_page_at holds
  one_more_lem m =
      let split = count_split (below_page (suc m)) (below_page m) S in
      let a = count_same _ (below_page m) S (λ k h. below_too (t k)) in
      let b = count_same _ (of_page_at m) S (λ k h. just_of (t k)) in
      omega arith
    where
      below_too : (s : Slot) → (holds (λ r. ltb r.p (suc m)) s && holds (λ r. ltb r.p m) s) ≡ holds (λ r. ltb r.p m) s
      below_too None = refl
      below_too (Some r) = on_lt r.p m (λ l. rw (lt-ltb r.p m l, lt-ltb r.p (suc m) (omega arith))) (λ l. rw (le-ltb r.p m l) (on_test (ltb r.p (suc m)) (λ e. rw e) (λ e. rw e)))

      just_of : (s : Slot) → (holds (λ r. ltb r.p (suc m)) s && not (holds (λ r. ltb r.p m) s)) ≡ holds (λ r. eqb r.p m) s
      just_of None = refl
      just_of (Some r) =
          on_lt r.p m
          (λ l. rw (lt-ltb r.p m l, lt-ltb r.p (suc m) (omega arith), ne_eqb r.p m (λ q. omega arith)))
          (λ l. on_eq r.p m
          (λ q. rw (le-ltb r.p m l, lt-ltb r.p (suc m) (omega arith), eq-eqb r.p m q))
          (λ d. rw (le-ltb r.p m l, le-ltb r.p (suc m) (omega arith), ne_eqb r.p m d)))

  up_to : (m : ℕ) → m ≤ P → count (below_page m) ≡ m + length (list_below m written)
  unfolding count below_page list_below holds
  up_to zero h = ap length (list_none _ S (λ k l. none (t k)))
    where
      none : (s : Slot) → holds (λ r. ltb r.p 0) s ≡ false
      none None = refl
      none (Some r) = le-ltb r.p 0 (omega arith)
  up_to (suc m) h =
      let rest = up_to m (omega arith) in
      let more = one_more_lem m in
      let split = count_split (of_page_at m) committed_at S in
      let c = one_committed m (omega arith) in
      on_test (written m)
      (λ e. let x = one_written m (omega arith) e in let y = count_more written m e in omega arith)
      (λ e. let x = none_written m (omega arith) e in let y = count_stays written m e in omega arith)

  pub bare_count : records_in S t ≡ P + written_pages P st
  unfolding records_in written_pages count below_page is_blank holds
  bare_count = count_same _ (below_page P) S (λ k h. all_below_lem (t k) (λ r e. page_below k r h e)) ∙ up_to P (omega arith)
    where
      all_below_lem : (s : Slot) → ((r : Record) → s ≡ Some r → r.p < P) → not (is_blank s) ≡ holds (λ r. ltb r.p P) s
      all_below_lem None g = refl
      all_below_lem (Some r) g = sym (lt-ltb r.p P (g r refl))

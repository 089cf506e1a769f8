-- Verdicts and committed versions of either layout of records, in the form in which the code computes them, and that they are the rules'.
use Rattle.std.specs.Prelude.{ℕ, zero, suc, ◌+◌, ◌%◌, ◌≤◌, ◌<◌, max, ◌≡◌, Bool, false, cond, ◌&&◌, ltb, eqb}
use Rattle.std.proofs.Common.{arith, sym, ◌∙◌, lt-ltb, le-ltb, ne_eqb}
use Rattle.std.proofs.Math.Path.{refl, ap}
use Rattle.std.proofs.Math.Bool.{true, not}
use Rattle.bounded.specs.Limits.{no_number}
use Rattle.bounded.specs.Choice.{on_test, on_lt, on_eq, never}
use Rattle.bounded.specs.Below.{max_below}
use Rattle.sizes.specs.declared.Layout.{Layout}
use Rattle.sizes.specs.declared.Layout.TheVariants.{FiveWords, FourWords}
use Rattle.record.specs.declared.Record.{Record}
use Rattle.record.specs.Slot.{Slot}
use Rattle.std.specs.Prelude.{Option, None, Some}
use Rattle.std.specs.Option.{unwrap_or, option_cmp}
use Rattle.std.specs.Ordering.{ord_max, nat_cmp}
use Rattle.record.specs.Slot.{holds, is_blank}
use Rattle.record.specs.SlotLaws.{sound_facts}
use Rattle.table.specs.Table.{table_sound, has_version, of_page, above, better, raised, highest, highest_version_of, version_in}
use Rattle.table.proofs.TableLaws.{sound_at, has_version_lem, highest_is, highest_held, highest_page}
use Rattle.chain.specs.declared.Key.TheVariants.{Page}
use Rattle.chain.specs.Chain.{in_chain}
use Rattle.chain.proofs.ChainLaws.{page_in_chain}
use Rattle.follow.specs.declared.Verdict.{Verdict}
use Rattle.follow.specs.declared.Verdict.TheVariants.{Committed, Uncommitted, On}
use Rattle.follow.specs.declared.End.{End}
use Rattle.follow.specs.declared.End.TheVariants as ends
use Rattle.follow.specs.declared.Walk.{Walk}
use Rattle.follow.specs.Follow.{follow, links_followed}
use Rattle.rules.specs.Verdict.{is_straddled, link_verdict, slot_verdict, verdict}
use Rattle.rules.specs.Recover.{walk_of, back_pointer, committed_by, committed_of}
use Rattle.rules.specs.Simple.{simple_link_verdict, simple_slot_verdict, simple_verdict, simple_walk_of, under, second, simple_committed_slot, committed_slot_of, has_committed}
use Rattle.rules.proofs.laws.Simple.{second_held}
use Rattle.rules.specs.laws.Families.{link_verdict_in, verdict_in}

-- ---- verdicts

-- what a link to a version below the next page's highest says
unfoldable pub passed_in : Layout → ℕ → (ℕ → Slot) → Record → Verdict
passed_in FiveWords S t J = cond (is_straddled S t J) Uncommitted Committed
passed_in FourWords S t J = Committed

pub link_by_cases :
    (layout : Layout) (S : ℕ) (t : ℕ → Slot) (J : Record)
    → link_verdict_in layout S t J
    ≡ cond (ltb J.nv (highest_version_of S t J.np)) (passed_in layout S t J) (cond (ltb (highest_version_of S t J.np) J.nv) Uncommitted (On J.np))
unfolding link_verdict simple_link_verdict passed_in
link_by_cases FiveWords S t J = refl
link_by_cases FourWords S t J = refl

-- one link, by the highest version of its next page
module _ (layout : Layout) (S : ℕ) (t : ℕ → Slot) (J : Record) (hv : ℕ) (e : hv ≡ highest_version_of S t J.np) where
  pub link_passed : J.nv < hv → passed_in layout S t J ≡ link_verdict_in layout S t J
  link_passed h = sym (link_by_cases layout S t J ∙ rw (sym e, lt-ltb J.nv hv h))

  pub link_beyond : hv < J.nv → Uncommitted ≡ link_verdict_in layout S t J
  link_beyond h = sym (link_by_cases layout S t J ∙ rw (sym e, le-ltb J.nv hv (omega arith), lt-ltb hv J.nv h))

  pub link_equal : hv ≤ J.nv → J.nv ≤ hv → On J.np ≡ link_verdict_in layout S t J
  link_equal h l = sym (link_by_cases layout S t J ∙ rw (sym e, le-ltb J.nv hv h, le-ltb hv J.nv l))

-- the verdict of the record that a slot holds
unfoldable pub slot_verdict_in : Layout → ℕ → (ℕ → Slot) → Slot → Verdict
slot_verdict_in layout S t None = Uncommitted
slot_verdict_in layout S t (Some J) = link_verdict_in layout S t J

pub verdict_by_slot : (layout : Layout) (S : ℕ) (t : ℕ → Slot) (p : ℕ) → verdict_in layout S t p ≡ slot_verdict_in layout S t (highest S t p)
unfolding verdict slot_verdict simple_verdict simple_slot_verdict slot_verdict_in
verdict_by_slot FiveWords S t p = by (highest S t p)
  where
    by : (s : Slot) → slot_verdict S t s ≡ slot_verdict_in FiveWords S t s
    by None = refl
    by (Some J) = refl
verdict_by_slot FourWords S t p = by (highest S t p)
  where
    by : (s : Slot) → simple_slot_verdict S t s ≡ slot_verdict_in FourWords S t s
    by None = refl
    by (Some J) = refl

-- in a sound table every verdict that goes on goes on at a page below P
on_next_in : (layout : Layout) (S : ℕ) (t : ℕ → Slot) (J : Record) (r : ℕ) → link_verdict_in layout S t J ≡ On r → r ≡ J.np
unfolding passed_in
on_next_in layout S t J r e = by layout (ltb J.nv (highest_version_of S t J.np)) (is_straddled S t J) (ltb (highest_version_of S t J.np) J.nv) (sym (link_by_cases layout S t J) ∙ e)
  where
    by : (l : Layout) (a b c : Bool) → cond a (passed_in l S t J) (cond c Uncommitted (On J.np)) ≡ On r → r ≡ J.np
    by FiveWords true b c h = on_test (is_straddled S t J) (λ s. let k : Uncommitted ≡ On r = rw s at h in let z : ◌≡◌ {A = ℕ} 0 1 = cc in absurd (omega arith)) (λ s. let k : Committed ≡ On r = rw s at h in let z : ◌≡◌ {A = ℕ} 0 1 = cc in absurd (omega arith))
    by FourWords true b c h = let z : ◌≡◌ {A = ℕ} 0 1 = cc in absurd (omega arith)
    by l false b true h = let z : ◌≡◌ {A = ℕ} 0 1 = cc in absurd (omega arith)
    by l false b false h = cc

pub verdict_in_inside : (layout : Layout) (S : ℕ) (t : ℕ → Slot) (P : ℕ) → table_sound P S t ≡ true → (q r : ℕ) → q < P → verdict_in layout S t q ≡ On r → r < P
unfolding slot_verdict_in
verdict_in_inside layout S t P sound q r h e = by (highest S t q) refl (sym (verdict_by_slot layout S t q) ∙ e)
  where
    by : (s : Slot) → highest S t q ≡ s → slot_verdict_in layout S t s ≡ On r → r < P
    by None f g = let z : ◌≡◌ {A = ℕ} 0 1 = cc in absurd (omega arith)
    by (Some J) f g =
        let k = highest_held t q S (highest_is t q S) f in
        let u = sound_at t P S k.0 sound k.1 k.2 in
        let i = on_next_in layout S t J r g in
        let l = (sound_facts P J u).next_below in
        omega arith

unfoldable pub walk_in : Layout → (P S : ℕ) → (ℕ → Slot) → ℕ → Walk
walk_in layout P S t p = follow P (verdict_in layout S t) p

unfoldable pub links_in : Layout → (P S : ℕ) → (ℕ → Slot) → ℕ
links_in layout P S t = links_followed P (verdict_in layout S t)

-- ---- the highest version below a version

-- the version in a slot; a number that is no version where it is blank
unfoldable pub version_or_none : Slot → ℕ
version_or_none None = no_number
version_or_none (Some r) = r.v

-- the version in a slot, if it holds a record
abbrev pub held_version : Slot → Option ℕ
held_version None = None
held_version (Some r) = Some r.v

pub held_or_none : (s : Slot) → unwrap_or (held_version s) no_number ≡ version_or_none s
unfolding version_or_none
held_or_none None = refl
held_or_none (Some r) = refl

-- 1 more than a version; 0 where there is none
abbrev pub mark : Option ℕ → ℕ
mark None = 0
mark (Some v) = v + 1

-- of two versions, or none, the higher has the higher mark
pub mark_max : (a b : Option ℕ) → mark (ord_max (option_cmp nat_cmp) a b) ≡ max (mark a) (mark b)
mark_max None None = refl
mark_max None (Some y) = omega arith
mark_max (Some x) None = omega arith
mark_max (Some x) (Some y) = on_lt y x (λ h. rw (lt-ltb y x h) (omega arith)) (λ h. rw (le-ltb y x h) (on_test (eqb y x) (λ e. rw e (omega arith)) (λ e. rw e (omega arith))))

-- 1 more than the version of a record of page p below version v; 0 of any other slot
unfoldable pub mark_under : (p v : ℕ) → Slot → ℕ
mark_under p v None = 0
mark_under p v (Some r) = cond (eqb r.p p && ltb r.v v) (r.v + 1) 0

-- the highest of them is that of page p's highest record below version v,
marks : (p v n : ℕ) (t : ℕ → Slot) → mark (held_version (highest n (under v t) p)) ≡ max_below n (λ k. mark_under p v (t k))
unfolding mark_under highest max_below raised better of_page above under holds
marks p v zero t = refl
marks p v (suc n) t = one_more_lem (highest n (under v t) p) (t n) ∙ ap (λ (m : ℕ). max m (mark_under p v (t n))) (marks p v n t)
  where
    higher : (b : Slot) (r : Record) → mark (held_version (cond (above b r) (Some r) b)) ≡ max (mark (held_version b)) (r.v + 1)
    higher None r = omega arith
    higher (Some q) r = on_lt q.v r.v (λ l. rw (lt-ltb q.v r.v l) (omega arith)) (λ l. rw (le-ltb q.v r.v l) (omega arith))

    one_more_lem : (b s : Slot) → mark (held_version (raised p b (cond (holds (λ r. ltb r.v v) s) s None))) ≡ max (mark (held_version b)) (mark_under p v s)
    one_more_lem b None = omega arith
    one_more_lem b (Some r) = on_test (ltb r.v v)
        (λ l. on_test (eqb r.p p) (λ e. rw (l, e) (higher b r)) (λ e. rw (l, e) (omega arith)))
        (λ l. on_test (eqb r.p p) (λ e. rw (l, e) (omega arith)) (λ e. rw (l, e) (omega arith)))

-- so that it tells the version, if there is one
pub marked_version : (p v S : ℕ) (t : ℕ → Slot) (best : Option ℕ) → max_below S (λ k. mark_under p v (t k)) ≡ mark best → best ≡ held_version (highest S (under v t) p)
marked_version p v S t best e = same best (held_version (highest S (under v t) p)) (sym (marks p v S t ∙ e))
  where
    same : (a b : Option ℕ) → mark a ≡ mark b → a ≡ b
    same None None f = refl
    same None (Some y) f = absurd (omega arith)
    same (Some x) None f = absurd (omega arith)
    same (Some x) (Some y) f = ap Some (omega arith)

-- only slots of the page's chain have one
pub marked_in_chain : (t : ℕ → Slot) (p v k : ℕ) → in_chain Page t (p % 256) k ≡ false → mark_under p v (t k) ≡ 0
unfolding mark_under
marked_in_chain t p v k e = by (t k) refl
  where
    by : (s : Slot) → t k ≡ s → mark_under p v s ≡ 0
    by None f = refl
    by (Some r) f = on_eq r.p p (λ q. absurd (never (page_in_chain t p k r f q) e)) (λ d. rw (ne_eqb r.p p d))

-- ---- committed versions

-- the version before the highest record, r, if there is one
unfoldable pub earlier_in : Layout → ℕ → (ℕ → Slot) → Record → Option ℕ
earlier_in FiveWords S t r = Some r.c
earlier_in FourWords S t r = held_version (highest S (under r.v t) r.p)

-- the committed version where the highest record, r, is uncommitted
unfoldable pub before_in : Layout → ℕ → (ℕ → Slot) → Record → ℕ
before_in FiveWords S t r = r.c
before_in FourWords S t r = version_or_none (highest S (under r.v t) r.p)

pub earlier_or_none : (layout : Layout) (S : ℕ) (t : ℕ → Slot) (r : Record) → unwrap_or (earlier_in layout S t r) no_number ≡ before_in layout S t r
unfolding earlier_in before_in
earlier_or_none FiveWords S t r = refl
earlier_or_none FourWords S t r = held_or_none (highest S (under r.v t) r.p)

unfoldable pub committed_by_in : Layout → ℕ → (ℕ → Slot) → End → Slot → ℕ
committed_by_in layout S t e None = 0
committed_by_in layout S t ends.Committed (Some r) = r.v
committed_by_in layout S t ends.Uncommitted (Some r) = before_in layout S t r
committed_by_in layout S t ends.Astray (Some r) = before_in layout S t r

unfoldable pub committed_in : Layout → (P S : ℕ) → (ℕ → Slot) → ℕ → ℕ
committed_in layout P S t p = committed_by_in layout S t (walk_in layout P S t p).end (highest S t p)

-- of five words they are the rules'
pub committed_five : (P S : ℕ) (t : ℕ → Slot) (p : ℕ) → committed_in FiveWords P S t p ≡ committed_of P S t p
unfolding committed_in committed_by_in before_in committed_of committed_by walk_in walk_of version_in back_pointer
committed_five P S t p = by (follow P (verdict S t) p).end (highest S t p)
  where
    by : (e : End) (s : Slot) → committed_by_in FiveWords S t e s ≡ committed_by e s
    by ends.Committed None = refl
    by ends.Uncommitted None = refl
    by ends.Astray None = refl
    by ends.Committed (Some r) = refl
    by ends.Uncommitted (Some r) = refl
    by ends.Astray (Some r) = refl

-- of four, where the page has a record, the version in the rules' slot
module _ (P S : ℕ) (t : ℕ → Slot) (p : ℕ) where
  pub committed_four : (r : Record) → highest S t p ≡ Some r → committed_in FourWords P S t p ≡ version_or_none (committed_slot_of P S t p)
  unfolding committed_in walk_in committed_slot_of simple_walk_of second highest_version_of version_in committed_by_in simple_committed_slot before_in version_or_none
  committed_four r e = by (follow P (simple_verdict S t) p).end
    where
      same : highest S (under r.v t) r.p ≡ second S t p
      same =
          ap (highest S (under r.v t)) (highest_page t p S (highest_is t p S) e)
          ∙ ap (λ (s : Slot). highest S (under (version_in s) t) p) (sym e)

      by : (x : End) → committed_by_in FourWords S t x (highest S t p) ≡ version_or_none (simple_committed_slot x S t p)
      by ends.Committed = ap (committed_by_in FourWords S t ends.Committed) e ∙ sym (ap version_or_none e)
      by ends.Uncommitted = ap (committed_by_in FourWords S t ends.Uncommitted) e ∙ ap version_or_none same
      by ends.Astray = ap (committed_by_in FourWords S t ends.Astray) e ∙ ap version_or_none same

  -- the rules' slot holds a record of the page
  slot_held : (q : Record) → committed_slot_of P S t p ≡ Some q → (k : ℕ) × (k < S) × (t k ≡ Some q) × (q.p ≡ p)
  unfolding committed_slot_of simple_committed_slot
  slot_held q e = by (simple_walk_of P S t p).end e
    where
      lower : second S t p ≡ Some q → (k : ℕ) × (k < S) × (t k ≡ Some q) × (q.p ≡ p)
      lower f = let w = second_held S t p q f in (w.0, w.1, w.2, w.3)

      by : (x : End) → simple_committed_slot x S t p ≡ Some q → (k : ℕ) × (k < S) × (t k ≡ Some q) × (q.p ≡ p)
      by ends.Committed f = let i = highest_is t p S in let k = highest_held t p S i f in (k.0, k.1, k.2, highest_page t p S i f)
      by ends.Uncommitted f = lower f
      by ends.Astray f = lower f

  -- a number that is no version is no record's
  none_absent : table_sound P S t ≡ true → has_version S t p no_number ≡ false
  none_absent sound =
      on_test (has_version S t p no_number)
      (λ h. let w = (has_version_lem t S p no_number).0 h in
      let u = (sound_facts P w.1 (sound_at t P S w.0 sound w.2 w.3)).v_most in
      let v = w.5 in absurd (omega arith))
      (λ h. h)

  -- the committed version is there exactly where the rules' slot holds a record, and is then that record's
  pub four_there : table_sound P S t ≡ true → has_version S t p (version_or_none (committed_slot_of P S t p)) ≡ has_committed P S t p
  unfolding has_committed is_blank version_or_none
  four_there sound = by (committed_slot_of P S t p) refl
    where
      by : (s : Slot) → committed_slot_of P S t p ≡ s → has_version S t p (version_or_none s) ≡ not (is_blank s)
      by None e = none_absent sound
      by (Some q) e = let w = slot_held q e in (has_version_lem t S p q.v).1 (w.0, q, w.1, w.2, w.3, refl)

  pub four_version : has_committed P S t p ≡ true → version_or_none (committed_slot_of P S t p) ≡ version_in (committed_slot_of P S t p)
  unfolding has_committed is_blank version_or_none version_in
  four_version h = by (committed_slot_of P S t p) h
    where
      by : (s : Slot) → not (is_blank s) ≡ true → version_or_none s ≡ version_in s
      by None e = absurd (never e refl)
      by (Some q) e = refl

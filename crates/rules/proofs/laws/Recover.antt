-- What recover's definitions say as propositions, and what its outcome depends on.
use Rattle.std.specs.Prelude.{ℕ, ◌<◌, List, ◌↔◌, Bool, not, ◌&&◌, ltb, length}
use native.Mathlib.Omega.{arith}
use Rattle.std.proofs.Math.Path.{◌≡◌, refl}
use Rattle.std.proofs.Common.{sym, ap}
use Rattle.std.proofs.Math.Bool.{true, false, cond}
use Rattle.bounded.specs.Limits.{Widths}
use Rattle.bounded.specs.Below.{some_below}
use Rattle.bounded.specs.Choice.{never, on_test}
use Rattle.bounded.specs.BelowLaws.{some_at, some_of, some_none, some_not_at}
use Rattle.outcome.specs.OutcomeLaws.{settled_refused, settled_done}
use Rattle.sizes.specs.declared.Sizes.{Sizes}
use Rattle.sizes.specs.Sizes.{contents_fit, state_fits}
use Rattle.record.specs.declared.Record.{Record}
use Rattle.record.specs.Slot.{Slot}
use Rattle.std.specs.Prelude.{None, Some}
use Rattle.record.specs.Slot.{slot_at, straddles}
use Rattle.record.specs.Flash.{Flash, flash}
use Rattle.record.specs.SlotLaws.{sound_facts, Straddles, straddles_exactly, some_record_lem}
use Rattle.state.specs.State.{state_words}
use Rattle.table.specs.Table.{table_sound, clash, some_clash, highest, highest_version_of}
use Rattle.table.proofs.TableLaws.{highest_is, highest_held, sound_at, clash_exactly}
use Rattle.follow.specs.declared.Verdict.{Verdict}
use Rattle.follow.specs.declared.Verdict.TheVariants as says
use Rattle.follow.specs.declared.End.{End}
use Rattle.follow.specs.declared.End.TheVariants as ends
use Rattle.follow.specs.Astray.{RunsIntoRing}
use Rattle.follow.proofs.Astray.{astray_exactly}
use Rattle.follow.specs.Follow.{follow, is_astray, StaysInside}
use Rattle.twins.specs.Twins.{twins, some_conflict}
use Rattle.rules.specs.Volume.{Volume, volume, volume_fits_in}
use Rattle.rules.specs.Verdict.{is_straddled, link_verdict, slot_verdict, verdict}
use Rattle.rules.specs.Recover.{walk_of, links_of, recovered, recover_answer, recover_outcome}

-- ---- straddlers

-- "any record straddles J's link", as a proposition: obsolete, committed and exposed records alike
pub straddled_exactly :
    (S : ℕ) (t : ℕ → Slot) (J : Record) → (is_straddled S t J ≡ true) ↔ ((k : ℕ) × (K : Record) × (k < S) × (t k ≡ Some K) × Straddles K J)
unfolding is_straddled
straddled_exactly S t J = some_record_lem S t (λ K. straddles K J) (λ K. straddles_exactly K J)

-- ---- verdicts lead to pages

module _ (S : ℕ) (t : ℕ → Slot) where
  -- a link that goes on goes on at np
  pub on_next : (J : Record) (r : ℕ) → link_verdict S t J ≡ says.On r → r ≡ J.np
  unfolding link_verdict
  on_next J r e = by (ltb J.nv (highest_version_of S t J.np)) (is_straddled S t J) (ltb (highest_version_of S t J.np) J.nv) e
    where
      by : (a b c : Bool) → cond a (cond b says.Uncommitted says.Committed) (cond c says.Uncommitted (says.On J.np)) ≡ says.On r → r ≡ J.np
      by true true c h = let z : ◌≡◌ {A = ℕ} 0 1 = cc in absurd (omega arith)
      by true false c h = let z : ◌≡◌ {A = ℕ} 0 1 = cc in absurd (omega arith)
      by false b true h = let z : ◌≡◌ {A = ℕ} 0 1 = cc in absurd (omega arith)
      by false b false h = cc

  -- in a sound table every verdict that goes on goes on at a page below P
  pub verdict_inside : (P : ℕ) → table_sound P S t ≡ true → (q r : ℕ) → q < P → verdict S t q ≡ says.On r → r < P
  unfolding verdict slot_verdict
  verdict_inside P sound q r h e = by (highest S t q) refl e
    where
      by : (s : Slot) → highest S t q ≡ s → slot_verdict S t s ≡ says.On r → r < P
      by None f g = let z : ◌≡◌ {A = ℕ} 0 1 = cc in absurd (omega arith)
      by (Some J) f g =
          let k = highest_held t q S (highest_is t q S) f in
          let u = sound_at t P S k.0 sound k.1 k.2 in
          let i = on_next J r g in
          let l = (sound_facts P J u).next_below in
          omega arith

-- ---- answer 4

pub is_astray_exactly : (e : End) → (is_astray e ≡ true) ↔ (e ≡ ends.Astray)
unfolding is_astray
is_astray_exactly ends.Committed = (λ h. absurd (never refl (sym h)), λ h. let z : ◌≡◌ {A = ℕ} 0 1 = cc in absurd (omega arith))
is_astray_exactly ends.Uncommitted = (λ h. absurd (never refl (sym h)), λ h. let z : ◌≡◌ {A = ℕ} 0 1 = cc in absurd (omega arith))
is_astray_exactly ends.Astray = (λ h. refl, λ h. refl)

-- "the links run into a ring that lacks the start", for the links of some page, by whatever verdicts
pub astray_some :
    (P : ℕ) (v : ℕ → Verdict)
    → StaysInside P v
    → (some_below P (λ p. is_astray (follow P v p).end) ≡ true) ↔ ((p : ℕ) × (p < P) × RunsIntoRing v p)
astray_some P v inside = (
  λ e. let w = some_at (λ p. is_astray (follow P v p).end) P e in
      (w.0, w.1, (astray_exactly v w.0 P w.1 inside).0 ((is_astray_exactly (follow P v w.0).end).0 w.2)),
  λ w. some_of (λ p. is_astray (follow P v p).end) P w.0 w.1
      ((is_astray_exactly (follow P v w.0).end).1 ((astray_exactly v w.0 P w.1 inside).1 w.2)),
)

-- of each page's highest record: exactly the condition of answer 4
pub astray_means :
    (P S : ℕ) (t : ℕ → Slot)
    → table_sound P S t ≡ true
    → (some_below P (λ p. is_astray (walk_of P S t p).end) ≡ true) ↔ ((p : ℕ) × (p < P) × RunsIntoRing (verdict S t) p)
unfolding walk_of
astray_means P S t sound = astray_some P (verdict S t) (verdict_inside S t P sound)

-- ---- twins

-- where no two records have equal page and version, no two conflict
pub unclashed : (S : ℕ) (t : ℕ → Slot) (twin : ℕ → ℕ → Bool) → some_clash S t ≡ false → some_conflict S t twin ≡ false
unfolding some_clash some_conflict
unclashed S t twin e =
    some_none (λ k. some_below k (λ j. clash (t j) (t k) && not (twin j k))) S
    (λ k h. some_none (λ j. clash (t j) (t k) && not (twin j k)) k
    (λ j l. ap (λ (b : Bool). b && not (twin j k)) (some_not_at (λ j. clash (t j) (t k)) k j (some_not_at (λ k. some_below k (λ j. clash (t j) (t k))) S k e h) l)))

-- "for equal page and version recovery gives 3 only if the two are no twins": where all such records are twins, none conflict
pub twins_agree :
    (S : ℕ) (t : ℕ → Slot) (twin : ℕ → ℕ → Bool)
    → ((j k : ℕ) (a b : Record) → j < k → k < S → t j ≡ Some a → t k ≡ Some b → a.p ≡ b.p → a.v ≡ b.v → twin j k ≡ true)
    → some_conflict S t twin ≡ false
unfolding some_conflict
twins_agree S t twin agree =
    some_none (λ k. some_below k (λ j. clash (t j) (t k) && not (twin j k))) S
    (λ k h. some_none (λ j. clash (t j) (t k) && not (twin j k)) k
    (λ j l. on_test (clash (t j) (t k)) (λ e. let c = (clash_exactly (t j) (t k)).0 e in rw (e, agree j k c.0 c.1 l h c.2 c.3 c.4 c.5)) (λ e. rw e)))

-- ---- what recovery reads

-- The answer depends on P, S, the width, the flash and the state's length alone,
pub recover_answer_reads : (widths : Widths) (sizes : Sizes) (f : Flash) (a b : List ℕ) → length a ≡ length b → recover_answer widths sizes (record { flash = f; state = a }) ≡ recover_answer widths sizes (record { flash = f; state = b })
unfolding recover_answer volume_fits_in state_fits
recover_answer_reads widths sizes f a b e = rw (recover_answer, volume_fits_in, state_fits, e)

-- the words that an accepted recover fills, and the number of links that it returns, on the slot table alone,
pub recover_fills :
    (widths : Widths) (sizes : Sizes) (v : Volume)
    → recover_answer widths sizes v ≡ 0
    → recover_outcome widths sizes v
    ≡ record {
      answer = 0;
      second = links_of sizes.pages sizes.slots (slot_at v.flash.words);
      left = state_words sizes.pages (recovered sizes.pages sizes.slots (slot_at v.flash.words));
    }
unfolding recover_outcome
recover_fills widths sizes v e =
    settled_done (recover_answer widths sizes v) 0 (links_of sizes.pages sizes.slots (slot_at v.flash.words)) v.state (state_words sizes.pages (recovered sizes.pages sizes.slots (slot_at v.flash.words))) e

-- and of the contents it sees only which records of equal page and version are twins.
pub recover_reads_twins :
    (widths : Widths) (sizes : Sizes) (words a b state : List ℕ)
    → length a ≡ length b
    → twins sizes.width (flash words a) ≡ twins sizes.width (flash words b)
    → recover_outcome widths sizes (volume words a state) ≡ recover_outcome widths sizes (volume words b state)
unfolding recover_outcome recover_answer volume_fits_in contents_fit
recover_reads_twins widths sizes words a b state e same = rw (recover_outcome, recover_answer, volume_fits_in, contents_fit, e, same)

-- A refused recover leaves the state as it was, and its second number is 0.
pub recover_refused : (widths : Widths) (sizes : Sizes) (v : Volume) → ¬ (recover_answer widths sizes v ≡ 0) → recover_outcome widths sizes v ≡ record { answer = recover_answer widths sizes v; second = 0; left = v.state }
unfolding recover_outcome
recover_refused widths sizes v h =
    settled_refused (recover_answer widths sizes v) 0 (links_of sizes.pages sizes.slots (slot_at v.flash.words)) v.state (state_words sizes.pages (recovered sizes.pages sizes.slots (slot_at v.flash.words))) h

-- The links that recover returns: at most P×P, which the one-ring table reaches; the steps of the walks; apart from all else. Shown once for both families of
-- records, of what the proofs need of a family.
use Prim.Native.Nat.{ℕ, suc, ◌*◌, ◌≤◌, ◌<◌, max}
use native.Mathlib.Omega.{arith}
use Rattle.std.proofs.Math.Decide.{ℕ_discrete}
use Rattle.std.proofs.Math.Path.{◌≡◌, refl, ap, ap₂}
use Rattle.std.proofs.Common.{◌∙◌, eq-eqb, ne_eqb}
use Rattle.std.proofs.Math.Logic.{inl}
use Rattle.std.specs.Prelude.{List, Bool, ltb, eqb, length}
use Rattle.std.proofs.Math.Bool.{true, false, cond}
use Rattle.bounded.specs.Limits.{Widths}
use Rattle.bounded.specs.Below.{all_below, some_below}
use Rattle.bounded.specs.BelowLaws.{all_of, some_none, some_not_at, sum_most, max_bound}
use Rattle.bounded.specs.Choice.{on_eq, on_lt, never}
use Rattle.outcome.specs.Outcome.{Outcome}
use Rattle.outcome.specs.OutcomeLaws.{settled_answer, settled_refused, settled_done}
use Rattle.sizes.specs.declared.Layout.{Layout}
use Rattle.sizes.specs.declared.Layout.TheVariants.{FiveWords, FourWords}
use Rattle.sizes.specs.declared.Sizes.{Sizes}
use Rattle.sizes.specs.Sizes.{sizes_ok, words_fit_in, contents_fit}
use Rattle.sizes.proofs.SizesLaws.{sizes_facts, words_fit_in_lem, state_fits_exactly}
use Rattle.record.specs.declared.Record.{Record}
use Rattle.record.specs.Slot.{Slot}
use Rattle.std.specs.Prelude.{None, Some}
use Rattle.record.specs.Slot.{slot_in, is_blank}
use Rattle.record.specs.Flash.{flash}
use Rattle.record.specs.SlotLaws.{Storable, sound_facts, sound_test}
use Rattle.state.specs.State.{state_words}
use Rattle.state.specs.StateLaws.{state_words_cong}
use Rattle.state.specs.Change.{at_rest}
use Rattle.table.specs.Table.{table_sound, has_version, highest, version_in, highest_version_of, mentioned, used_of}
use Rattle.table.proofs.TableLaws.{has_version_lem, highest_is, highest_held, sound_at}
use Rattle.table.proofs.UsedLaws.{used_above_version}
use Rattle.table.proofs.OneEach.{length_one_each, OneEach, words_one_each, each_sound, none_clash, all_have, highest_own}
use Rattle.follow.specs.declared.Verdict.TheVariants as says
use Rattle.follow.specs.declared.End.TheVariants as ends
use Rattle.follow.specs.declared.Walk.{Walk}
use Rattle.follow.specs.Follow.{follow, links_followed, is_astray, StaysInside}
use Rattle.follow.specs.Steps.{next_in_ring}
use Rattle.follow.proofs.Links.{followed_most, links_walked, walked_exactly, walked_most, followed_least, followed_sum, end_alone, ring_most, ring_walk, one_ring_walk, one_ring_followed}
use Rattle.twins.specs.Twins.{twins}
use Rattle.rules.specs.Volume.{Volume, volume, volume_fits_in}
use Rattle.rules.specs.Verdict.{link_verdict, slot_verdict, verdict}
use Rattle.rules.specs.Recover.{walk_of, links_of, committed_by, committed_of, recovered, recover_answer, recover_outcome}
use Rattle.rules.specs.Simple.{simple_link_verdict, simple_slot_verdict, simple_verdict, simple_walk_of, simple_committed_slot, committed_slot_of, has_committed, simple_recovered}
use Rattle.rules.specs.SimpleCalls.{simple_recover_answer, simple_links_of, simple_recover_outcome}
use Rattle.rules.specs.Links.{Following, back_pointing, simply, ring_record, one_ring, LinksAtMost, OneRingReaches, LinksAreSteps, LinksApart}
use Rattle.rules.proofs.laws.Accepted.{recover_tests_lem}
use Rattle.rules.proofs.laws.SimpleAccepted.{simple_recover_tests}
use Rattle.rules.proofs.laws.Recover.{verdict_inside, is_astray_exactly, unclashed, recover_fills, recover_refused}

-- what the proofs need of a family
record Follows (F : Following) : Type 0 where
  -- in a sound table every verdict that goes on goes on at a page below P
  inside : (S : ℕ) (t : ℕ → Slot) (P : ℕ) → table_sound P S t ≡ true → StaysInside P (F.verdict S t)
  -- what a recover that answers 0 has tested, and what it gives
  sound : (widths : Widths) (sizes : Sizes) (v : Volume) → F.answer widths sizes v ≡ 0 → table_sound sizes.pages sizes.slots (slot_in F.layout v.flash.words) ≡ true
  none_astray :
      (widths : Widths) (sizes : Sizes) (v : Volume)
      → F.answer widths sizes v ≡ 0
      → some_below sizes.pages (λ p. is_astray (follow sizes.pages (F.verdict sizes.slots (slot_in F.layout v.flash.words)) p).end) ≡ false
  fills :
      (widths : Widths) (sizes : Sizes) (v : Volume)
      → F.answer widths sizes v ≡ 0
      → F.outcome widths sizes v
      ≡ record {
        answer = 0;
        second = links_followed sizes.pages (F.verdict sizes.slots (slot_in F.layout v.flash.words));
        left = state_words sizes.pages (F.recovered sizes.pages sizes.slots (slot_in F.layout v.flash.words));
      }
  -- and what any other gives
  refuses : (widths : Widths) (sizes : Sizes) (v : Volume) → ¬ (F.answer widths sizes v ≡ 0) → F.outcome widths sizes v ≡ record { answer = F.answer widths sizes v; second = 0; left = v.state }
  answers : (widths : Widths) (sizes : Sizes) (v : Volume) → (F.outcome widths sizes v).answer ≡ F.answer widths sizes v

module _ {F : Following} (law : Follows F) where
  open law use {inside, sound, none_astray, fills, refuses, answers}

  -- an accepted table's walks are not astray
  not_astray :
      (widths : Widths) (sizes : Sizes) (v : Volume)
      → F.answer widths sizes v ≡ 0
      → (p : ℕ)
      → p < sizes.pages
      → ¬ ((follow sizes.pages (F.verdict sizes.slots (slot_in F.layout v.flash.words)) p).end ≡ ends.Astray)
  not_astray widths sizes v z p h e =
      let walk = follow sizes.pages (F.verdict sizes.slots (slot_in F.layout v.flash.words)) in
      never ((is_astray_exactly (walk p).end).1 e) (some_not_at (λ p. is_astray (walk p).end) sizes.pages p (none_astray widths sizes v z) h)

  -- ---- the steps

  are_steps : LinksAreSteps F
  unfolding follow
  are_steps =
      record {
        walked = λ P S t p sure. links_walked P (F.verdict S t) p sure;
        exactly = λ P S t sound p n e h w. walked_exactly P (F.verdict S t) p h (inside S t P sound) e n w;
        all_end = not_astray;
        summed = λ widths sizes v e end links walks.
            ap (λ (o : Outcome (List ℕ)). o.second) (fills widths sizes v e)
            ∙ followed_sum sizes.pages (F.verdict sizes.slots (slot_in F.layout v.flash.words)) (inside sizes.slots (slot_in F.layout v.flash.words) sizes.pages (sound widths sizes v e)) end links walks;
        least = λ widths sizes v e.
            rw (fills widths sizes v e) (followed_least sizes.pages (F.verdict sizes.slots (slot_in F.layout v.flash.words)) (not_astray widths sizes v e));
        refused = λ widths sizes v n. ap (λ (o : Outcome (List ℕ)). o.second) (refuses widths sizes v n);
        ring = λ P S t k page r inside i h. ring_walk r P i (ring_most r P inside) h;
      }

  -- ---- the bound

  at_most : LinksAtMost F
  at_most =
      record {
        walks = λ P S t sound p n e h w. walked_most P (F.verdict S t) p h (inside S t P sound) e n w;
        sums = λ P S t sound end links walks. sum_most P P (λ p h. walked_most P (F.verdict S t) p h (inside S t P sound) (end p) (links p) (walks p h));
        returned = λ widths sizes v.
            elim (ℕ_discrete (F.answer widths sizes v) 0) [
              | yes e ↦ rw (fills widths sizes v e) (followed_most sizes.pages (F.verdict sizes.slots (slot_in F.layout v.flash.words)))
              | no n ↦ rw (refuses widths sizes v n) (omega arith)
            ];
      }

  -- ---- all else

  apart : LinksApart F
  unfolding follow
  apart =
      record {
        ends_alone = λ P S t p. end_alone (F.verdict S t) p P p;
        answer = answers;
        filled = λ widths sizes v e. ap (λ (o : Outcome (List ℕ)). o.left) (fills widths sizes v e);
        unaltered = λ widths sizes v n. ap (λ (o : Outcome (List ℕ)). o.left) (refuses widths sizes v n);
      }

-- ---- the one-ring table

next_below : (P p : ℕ) → p < P → next_in_ring P p < P
unfolding next_in_ring
next_below P p h = on_eq (suc p) P (λ e. rw (eq-eqb (suc p) P e) (omega arith)) (λ d. rw (ne_eqb (suc p) P d) (omega arith))

ring_storable : (layout : Layout) (P k : ℕ) → Storable layout (ring_record P k)
unfolding ring_record
ring_storable FiveWords P k = omega arith
ring_storable FourWords P k = (omega arith, refl)

-- in either layout
module _ (layout : Layout) (P S : ℕ) (room : P ≤ S) where
  abbrev ring : ℕ → Slot
  ring = slot_in layout (one_ring layout P S)

  ring_each : OneEach P S ring (ring_record P)
  unfolding one_ring ring_record
  ring_each = words_one_each layout P S (ring_record P) room (λ k h. refl) (λ k h. ring_storable layout P k)

  ring_sound : table_sound P S ring ≡ true
  unfolding ring_record
  ring_sound =
      each_sound ring_each
      (λ k h. sound_test P (ring_record P k) (record {
        page_below = h;
        next_below = next_below P k h;
        v_most = omega arith;
        c_most = omega arith;
        nv_most = omega arith;
        c_before_v_lem = inl (omega arith);
        own_link = λ e. refl;
      }))

  -- each page's version is 1, so each link leads on
  ring_version : (p : ℕ) → p < P → highest_version_of S ring p ≡ 1
  unfolding highest_version_of version_in ring_record
  ring_version p h = ap version_in (highest_own ring_each p h)

  ring_used : (p : ℕ) → p < P → used_of S ring p ≡ 1
  unfolding used_of mentioned ring_record
  ring_used p h =
      let least = used_above_version S ring p (ring_record P p) (omega arith) (ring_each.each p h) in
      let most = max_bound (λ k. mentioned p (ring k)) S 1 (λ k b. on_lt k P (λ l. rw (ring_each.each k l) (one_at_most (eqb k p) (eqb (next_in_ring P k) p))) (λ l. rw (ring_each.others k b l) (omega arith))) in
      omega arith
    where
      one_at_most : (a b : Bool) → max (cond a 1 0) (cond b 1 0) ≤ 1
      one_at_most true true = omega arith
      one_at_most true false = omega arith
      one_at_most false true = omega arith
      one_at_most false false = omega arith

ring_fits : (layout : Layout) (P S : ℕ) → words_fit_in layout S (one_ring layout P S) ≡ true
unfolding one_ring
ring_fits layout P S = (words_fit_in_lem layout S (one_ring layout P S)).1 (length_one_each layout P S (ring_record P))

-- no walk is astray where each verdict leads on in the ring
ring_sure : (F : Following) (P S : ℕ) (t : ℕ → Slot) → ((p : ℕ) → p < P → F.verdict S t p ≡ says.On (next_in_ring P p)) → some_below P (λ p. is_astray (follow P (F.verdict S t) p).end) ≡ false
unfolding is_astray
ring_sure F P S t leads = some_none (λ p. is_astray (follow P (F.verdict S t) p).end) P (λ p h. rw (one_ring_walk P (F.verdict S t) leads p h))

-- what a family says of it: each link leads on, recover answers 0 and finds every page committed at 1
record Rings (F : Following) : Type 0 where
  leads : (P S : ℕ) → P ≤ S → (p : ℕ) → p < P → F.verdict S (slot_in F.layout (one_ring F.layout P S)) p ≡ says.On (next_in_ring P p)
  finds : (P S : ℕ) → P ≤ S → (p : ℕ) → p < P → F.recovered P S (slot_in F.layout (one_ring F.layout P S)) p ≡ at_rest 1 1
  accepts :
      (widths : Widths) (sizes : Sizes) (contents state : List ℕ)
      → sizes_ok widths sizes ≡ true
      → length contents ≡ sizes.width * sizes.slots
      → length state ≡ 4 * sizes.pages
      → F.answer widths sizes (volume (one_ring F.layout sizes.pages sizes.slots) contents state) ≡ 0

reaches : {F : Following} → Follows F → Rings F → OneRingReaches F
reaches {F} law rings widths sizes contents state ok full long =
    let P = sizes.pages in
    let S = sizes.slots in
    let t = slot_in F.layout (one_ring F.layout P S) in
    let room = (sizes_facts widths sizes ok).0.slots_least in
    law.fills widths sizes (volume (one_ring F.layout P S) contents state) (rings.accepts widths sizes contents state ok full long)
    ∙ ap₂ {C = Outcome (List ℕ)} (λ (n : ℕ) (l : List ℕ). record { answer = 0; second = n; left = l })
    (one_ring_followed P (F.verdict S t) (rings.leads P S room))
    (state_words_cong P (F.recovered P S t) (λ p. at_rest 1 1) (rings.finds P S room))

-- ---- document 01's records

back_pointing_follows : Follows back_pointing
unfolding walk_of links_of recover_outcome
back_pointing_follows =
    record {
      inside = verdict_inside;
      sound = λ widths sizes v e. (recover_tests_lem widths sizes v e).sound;
      none_astray = λ widths sizes v e. (recover_tests_lem widths sizes v e).none_astray;
      fills = recover_fills;
      refuses = recover_refused;
      answers = λ widths sizes v. settled_answer (recover_answer widths sizes v) _ _ _ _;
    }

module _ (P S : ℕ) (room : P ≤ S) where
  abbrev t : ℕ → Slot
  t = slot_in FiveWords (one_ring FiveWords P S)

  ring_verdict : (p : ℕ) → p < P → verdict S t p ≡ says.On (next_in_ring P p)
  unfolding verdict slot_verdict link_verdict ring_record
  ring_verdict p h = ap (slot_verdict S t) (highest_own (ring_each FiveWords P S room) p h) ∙ rw (ring_version FiveWords P S room (next_in_ring P p) (next_below P p h))

  ring_committed : (p : ℕ) → p < P → committed_of P S t p ≡ 1
  unfolding committed_of committed_by version_in ring_record walk_of
  ring_committed p h = ap₂ committed_by (ap (λ (w : Walk). w.end) (one_ring_walk P (verdict S t) ring_verdict p h)) (highest_own (ring_each FiveWords P S room) p h)

  ring_there : all_below P (λ p. has_version S t p (committed_of P S t p)) ≡ true
  unfolding ring_record
  ring_there =
      all_of (λ p. has_version S t p (committed_of P S t p)) P
      (λ p h. rw (ring_committed p h) ((has_version_lem t S p 1).1 (p, ring_record P p, omega arith, (ring_each FiveWords P S room).each p h, refl, refl)))

back_pointing_rings : Rings back_pointing
unfolding recovered recover_answer volume_fits_in contents_fit walk_of
back_pointing_rings =
    record {
      leads = ring_verdict;
      finds = λ P S room p h. ap₂ at_rest (ring_committed P S room p h) (ring_used FiveWords P S room p h);
      accepts = λ widths sizes contents state ok full long.
          let P = sizes.pages in
          let S = sizes.slots in
          let room = (sizes_facts widths sizes ok).0.slots_least in
          let one = ring_each FiveWords P S room in
          rw (recover_answer, volume_fits_in, ok, ring_fits FiveWords P S, eq-eqb (length contents) (sizes.width * S) full, (state_fits_exactly P state).1 long, ring_sound FiveWords P S room, unclashed S (t P S room) (twins sizes.width (flash (one_ring FiveWords P S) contents)) (none_clash one), all_have one, ring_sure back_pointing P S (t P S room) (ring_verdict P S room), ring_there P S room);
    }

pub links_are_steps : LinksAreSteps back_pointing
links_are_steps = are_steps back_pointing_follows

pub links_at_most : LinksAtMost back_pointing
links_at_most = at_most back_pointing_follows

pub links_apart : LinksApart back_pointing
links_apart = apart back_pointing_follows

pub one_ring_reaches : OneRingReaches back_pointing
one_ring_reaches = reaches back_pointing_follows back_pointing_rings

-- ---- records without a back pointer

module _ (S : ℕ) (t : ℕ → Slot) where
  -- a link that goes on goes on at np
  simple_on_next : (J : Record) (r : ℕ) → simple_link_verdict S t J ≡ says.On r → r ≡ J.np
  unfolding simple_link_verdict
  simple_on_next J r e = by (ltb J.nv (highest_version_of S t J.np)) (ltb (highest_version_of S t J.np) J.nv) e
    where
      by : (a b : Bool) → cond a says.Committed (cond b says.Uncommitted (says.On J.np)) ≡ says.On r → r ≡ J.np
      by true b h = let z : ◌≡◌ {A = ℕ} 0 1 = cc in absurd (omega arith)
      by false true h = let z : ◌≡◌ {A = ℕ} 0 1 = cc in absurd (omega arith)
      by false false h = cc

  pub simple_verdict_inside : (P : ℕ) → table_sound P S t ≡ true → (q r : ℕ) → q < P → simple_verdict S t q ≡ says.On r → r < P
  unfolding simple_verdict simple_slot_verdict
  simple_verdict_inside P sound q r h e = by (highest S t q) refl e
    where
      by : (s : Slot) → highest S t q ≡ s → simple_slot_verdict S t s ≡ says.On r → r < P
      by None f g = let z : ◌≡◌ {A = ℕ} 0 1 = cc in absurd (omega arith)
      by (Some J) f g =
          let k = highest_held t q S (highest_is t q S) f in
          let u = sound_at t P S k.0 sound k.1 k.2 in
          let i = simple_on_next J r g in
          let l = (sound_facts P J u).next_below in
          omega arith

simple_follows : Follows simply
unfolding simple_walk_of simple_links_of simple_recover_outcome
simple_follows =
    record {
      inside = simple_verdict_inside;
      sound = λ widths sizes v e. (simple_recover_tests widths sizes v.flash.words v.state e).sound;
      none_astray = λ widths sizes v e. (simple_recover_tests widths sizes v.flash.words v.state e).none_astray;
      fills = λ widths sizes v e. settled_done (simple_recover_answer widths sizes v.flash.words v.state) _ _ _ _ e;
      refuses = λ widths sizes v n. settled_refused (simple_recover_answer widths sizes v.flash.words v.state) _ _ _ _ n;
      answers = λ widths sizes v. settled_answer (simple_recover_answer widths sizes v.flash.words v.state) _ _ _ _;
    }

module _ (P S : ℕ) (room : P ≤ S) where
  abbrev u : ℕ → Slot
  u = slot_in FourWords (one_ring FourWords P S)

  simple_ring_verdict : (p : ℕ) → p < P → simple_verdict S u p ≡ says.On (next_in_ring P p)
  unfolding simple_verdict simple_slot_verdict simple_link_verdict ring_record
  simple_ring_verdict p h = ap (simple_slot_verdict S u) (highest_own (ring_each FourWords P S room) p h) ∙ rw (ring_version FourWords P S room (next_in_ring P p) (next_below P p h))

  -- each page's own record holds its committed version
  simple_ring_committed : (p : ℕ) → p < P → committed_slot_of P S u p ≡ Some (ring_record P p)
  unfolding committed_slot_of simple_committed_slot simple_walk_of
  simple_ring_committed p h =
      ap (λ (w : Walk). simple_committed_slot w.end S u p) (one_ring_walk P (simple_verdict S u) simple_ring_verdict p h) ∙ highest_own (ring_each FourWords P S room) p h

  simple_ring_there : all_below P (has_committed P S u) ≡ true
  unfolding has_committed is_blank
  simple_ring_there = all_of (has_committed P S u) P (λ p h. rw (simple_ring_committed p h))

simple_rings : Rings simply
unfolding simple_recovered simple_recover_answer simple_walk_of version_in ring_record
simple_rings =
    record {
      leads = simple_ring_verdict;
      finds = λ P S room p h. ap₂ at_rest (ap version_in (simple_ring_committed P S room p h)) (ring_used FourWords P S room p h);
      accepts = λ widths sizes contents state ok full long.
          let P = sizes.pages in
          let S = sizes.slots in
          let room = (sizes_facts widths sizes ok).0.slots_least in
          let one = ring_each FourWords P S room in
          rw (simple_recover_answer, ok, ring_fits FourWords P S, (state_fits_exactly P state).1 long, ring_sound FourWords P S room, none_clash one, all_have one, ring_sure simply P S (u P S room) (simple_ring_verdict P S room), simple_ring_there P S room);
    }

pub simple_links_are_steps : LinksAreSteps simply
simple_links_are_steps = are_steps simple_follows

pub simple_links_at_most : LinksAtMost simply
simple_links_at_most = at_most simple_follows

pub simple_links_apart : LinksApart simply
simple_links_apart = apart simple_follows

pub simple_one_ring_reaches : OneRingReaches simply
simple_one_ring_reaches = reaches simple_follows simple_rings

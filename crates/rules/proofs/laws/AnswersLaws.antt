-- The answers mean their sentences.
use Rattle.std.specs.Prelude.{ℕ, zero, suc, ◌<◌, ◌≡◌, refl, List, [], ◌∷◌, ◌⊎◌, ◌↔◌, Bool, true, false, ◌&&◌, ◌||◌, length, get_or}
use Rattle.std.proofs.Common.{arith, ap, ◌∙◌, inl, inr, ⊎_elim}
use Rattle.std.proofs.Math.Path.{sym, subst}
use Rattle.std.proofs.Math.Bool.{not}
use Rattle.std.proofs.Math.Dec.{ltb, eqb}
use borrow.Author.Tests.{not-true, not-false, ltb-true, lt-ltb, eqb-true, eq-eqb}
use Rattle.bounded.specs.Limits.{no_number, Widths}
use Rattle.bounded.specs.Choice.{never, on_test, and_true, both, both_left, both_right}
use Rattle.bounded.specs.Below.{all_below, some_below}
use Rattle.bounded.specs.BelowLaws.{all_at, some_at, some_of, some_not_at, some_cong}
use Rattle.outcome.specs.Outcome.{◌⇒◌otherwise◌, Outcome}
use Rattle.outcome.specs.OutcomeLaws.{past, past_test, met, met_test, met_or_done, settled_answer, settled_done, settled_refused}
use Rattle.sizes.specs.declared.Layout.{Layout}
use Rattle.sizes.specs.declared.Layout.TheVariants.{FiveWords, FourWords}
use Rattle.sizes.specs.declared.Sizes.{Sizes}
use Rattle.sizes.specs.Sizes.{sizes_ok, words_fit_in, contents_fit, state_fits, list_ok, listed}
use Rattle.sizes.proofs.SizesLaws.{sizes_facts, sizes_test, words_fit_in_lem, state_fits_exactly}
use Rattle.record.specs.declared.Record.{Record}
use Rattle.record.specs.Slot.{Slot}
use Rattle.std.specs.Prelude.{None, Some}
use Rattle.record.specs.Slot.{is_blank}
use Rattle.record.specs.SlotLaws.{is_blank_exactly, not_blank_exactly}
use Rattle.state.specs.State.{state_words, state_sound, in_flight, is_written}
use Rattle.state.specs.Change.{at_rest}
use Rattle.table.specs.Table.{table_sound, clash, some_clash, has_record, has_version, lowest_slot, highest, version_in, highest_version_of, used_of}
use Rattle.table.proofs.TableLaws.{clash_exactly, has_record_lem, has_version_lem, lowest_holds, lowest_first}
use Rattle.twins.specs.Twins.{twins, some_conflict}
use Rattle.follow.specs.declared.Verdict.{Verdict}
use Rattle.follow.specs.declared.Walk.{Walk}
use Rattle.follow.specs.declared.End.TheVariants as ends
use Rattle.follow.specs.Steps.{Walked}
use Rattle.follow.specs.Follow.{follow, is_astray, StaysInside}
use Rattle.follow.specs.Astray.{RunsIntoRing}
use Rattle.rules.specs.Volume.{Volume, volume_fits_in, slots_of, slots_in, pages_of}
use Rattle.rules.specs.Permission.{scene_of, no_twins, may_erase_from, may_erase_all, may_erase_alone}
use Rattle.rules.specs.Erase.{erase_answer, erase_outcome}
use Rattle.rules.specs.Suggest.{suggestible, suggest_answer, suggested_slot, suggest_outcome}
use Rattle.rules.specs.Verdict.{verdict}
use Rattle.rules.specs.Recover.{walk_of, back_pointer, committed_by, committed_of, recovered, recover_answer, recover_outcome}
use Rattle.rules.specs.Links.{LinksAreSteps, LinksApart}
use Rattle.rules.specs.Read.{read_slot_in, read_answer_in, read_outcome_in}
use Rattle.rules.specs.Simple.{simple_verdict, simple_walk_of, second, simple_committed_slot, committed_slot_of, has_committed, simple_recovered, simple_may_erase, simple_may_erase_all, would_bury}
use Rattle.rules.specs.SimpleCalls.{simple_write_answer, simple_write_outcome, simple_erase_answer, simple_erase_outcome, simple_recover_answer, simple_recover_outcome}
use Rattle.rules.proofs.laws.Permission.{may_erase_exactly, may_erase_from_lem, may_erase_all_lem}
use Rattle.rules.proofs.laws.Accepted.{erase_tests, suggested_lowest}
use Rattle.rules.proofs.laws.Outcomes.{read_done}
use Rattle.rules.proofs.laws.Recover.{verdict_inside, astray_some, recover_fills, recover_reads_twins}
use Rattle.rules.proofs.laws.Links.{simple_verdict_inside, links_are_steps, links_apart, simple_links_are_steps, simple_links_apart}
use Rattle.rules.proofs.laws.Simple.{simple_may_erase_exactly, simple_may_erase_all_lem, buried_exactly}
use Rattle.rules.proofs.laws.SimpleAccepted.{simple_erase_tests}
use Rattle.rules.specs.Answers.{Settles, SettledMeans, Judged, MayGo, EraseMeans, SuggestMeans, ReadMeans, PageMissing, TwoAlike, HasVersion, OneOfSix, RecoverMeans, TwinsAlone, SimplyFits, SimpleRecoverMeans, SimpleEraseMeans, WriteJudged, BuryMeans}

-- where not each passes, one does not
some_fails : (f : ℕ → Bool) (n : ℕ) → all_below n f ≡ false → (k : ℕ) × (k < n) × (f k ≡ false)
unfolding all_below
some_fails f zero e = absurd (never refl e)
some_fails f (suc n) e =
    on_test (f n)
    (λ y. let w = some_fails f n (by (all_below n f) (f n) y e) in (w.0, (let h = w.1 in omega arith), w.2))
    (λ n'. (n, omega arith, n'))
  where
    by : (a b : Bool) → b ≡ true → (a && b) ≡ false → a ≡ false
    by true b y e = absurd (never y e)
    by false b y e = refl

-- conditions 1, 2 and 5 of a call that tries them first, and another answer
judged_past :
    (layout : Layout) (widths : Widths) (sizes : Sizes) (v : Volume) (rest m : ℕ) → ¬ (1 ≡ m) → ¬ (2 ≡ m) → ¬ (5 ≡ m)
    → (not (volume_fits_in layout widths sizes v) ⇒ 1 otherwise not (table_sound sizes.pages sizes.slots (slots_in layout v)) ⇒ 2 otherwise not (state_sound sizes.pages (pages_of v)) ⇒ 5 otherwise rest) ≡ m
    → Judged layout widths sizes v × (rest ≡ m)
judged_past layout widths sizes v rest m d1 d2 d5 e =
    let a = past_test (volume_fits_in layout widths sizes v) 1 _ m d1 e in
    let b = past_test (table_sound sizes.pages sizes.slots (slots_in layout v)) 2 _ m d2 a.1 in
    let c = past_test (state_sound sizes.pages (pages_of v)) 5 rest m d5 b.1 in
    (record { fits = a.0; table = b.0; state = c.0 }, c.1)

judged_rest :
    (layout : Layout) (widths : Widths) (sizes : Sizes) (v : Volume) (rest : ℕ) → Judged layout widths sizes v
    → (not (volume_fits_in layout widths sizes v) ⇒ 1 otherwise not (table_sound sizes.pages sizes.slots (slots_in layout v)) ⇒ 2 otherwise not (state_sound sizes.pages (pages_of v)) ⇒ 5 otherwise rest) ≡ rest
judged_rest layout widths sizes v rest j = rw (j.fits, j.table, j.state)

-- ---- erase

module _ (sizes : Sizes) (v : Volume) (in_list : ℕ → Bool) (k : ℕ) where
  may_go : (may_erase_from (scene_of sizes v) in_list k ≡ true) ↔ MayGo sizes v in_list k
  may_go =
      let i = may_erase_from_lem (scene_of sizes v) in_list k in
      let r = may_erase_exactly sizes.slots (slots_of v) (pages_of v) (twins sizes.width v.flash) k in (
        λ e. ⊎_elim (λ w. inl w) (λ o. inr (r.0 o)) (i.0 e),
        λ m. i.1 (⊎_elim (λ w. inl w) (λ o. inr (r.1 o)) m),
      )

  may_not_go : may_erase_from (scene_of sizes v) in_list k ≡ false → ¬ (MayGo sizes v in_list k)
  may_not_go e m = never (may_go.1 m) e

module _ (widths : Widths) (sizes : Sizes) (v : Volume) (slots : List ℕ) where
  erase_answer_lem : (n : ℕ) → (erase_outcome widths sizes v slots).answer ≡ n → erase_answer widths sizes v slots ≡ n
  unfolding erase_outcome
  erase_answer_lem n e = sym (settled_answer _ _ _ _ _) ∙ e

  erase_past : (m : ℕ) → ¬ (1 ≡ m) → ¬ (2 ≡ m) → ¬ (5 ≡ m) → ¬ (6 ≡ m) → erase_answer widths sizes v slots ≡ m → Judged FiveWords widths sizes v × (list_ok sizes.slots slots ≡ true) × ((not (may_erase_all (scene_of sizes v) slots) ⇒ 12 otherwise 0) ≡ m)
  unfolding erase_answer
  erase_past m d1 d2 d5 d6 e =
      let a = judged_past FiveWords widths sizes v _ m d1 d2 d5 e in
      let b = past_test (list_ok sizes.slots slots) 6 _ m d6 a.1 in
      (a.0, b.0, b.1)

  erase_either : Judged FiveWords widths sizes v → list_ok sizes.slots slots ≡ true → ((erase_outcome widths sizes v slots).answer ≡ 0) ⊎ ((erase_outcome widths sizes v slots).answer ≡ 12)
  unfolding erase_outcome erase_answer
  erase_either j l =
      subst (λ (n : ℕ). (n ≡ 0) ⊎ (n ≡ 12)) (sym (settled_answer (erase_answer widths sizes v slots) _ _ _ _ ∙ judged_rest FiveWords widths sizes v _ j ∙ rw l refl))
      (met_or_done (not (may_erase_all (scene_of sizes v) slots)) 12)

pub erase_means_lem : EraseMeans
unfolding may_erase_all
erase_means_lem =
    record {
      either = erase_either;
      judged = λ widths sizes v slots e.
          ⊎_elim
          (λ z. let p = erase_past widths sizes v slots 0 (λ q. omega arith) (λ q. omega arith) (λ q. omega arith) (λ q. omega arith) (erase_answer_lem widths sizes v slots 0 z) in (p.0, p.1))
          (λ z. let p = erase_past widths sizes v slots 12 (λ q. omega arith) (λ q. omega arith) (λ q. omega arith) (λ q. omega arith) (erase_answer_lem widths sizes v slots 12 z) in (p.0, p.1))
          e;
      permitted = λ widths sizes v slots e i h.
          (may_go sizes v (listed slots) (get_or slots i 0)).0
          ((may_erase_all_lem (scene_of sizes v) slots).0 (erase_tests widths sizes v slots (erase_answer_lem widths sizes v slots 0 e)).permitted i h);
      barred = λ widths sizes v slots e.
          let p = erase_past widths sizes v slots 12 (λ q. omega arith) (λ q. omega arith) (λ q. omega arith) (λ q. omega arith) (erase_answer_lem widths sizes v slots 12 e) in
          let w = some_fails (λ i. may_erase_from (scene_of sizes v) (listed slots) (get_or slots i 0)) (length slots) (met_test (may_erase_all (scene_of sizes v) slots) 12 0 12 (λ q. omega arith) p.2) in
          (w.0, w.1, may_not_go sizes v (listed slots) (get_or slots w.0 0) w.2);
    }

-- ---- suggest

module _ (widths : Widths) (sizes : Sizes) (v : Volume) where
  suggest_answer_lem : (n : ℕ) → (suggest_outcome widths sizes v).answer ≡ n → suggest_answer widths sizes v ≡ n
  unfolding suggest_outcome
  suggest_answer_lem n e = sym (settled_answer _ _ _ _ _) ∙ e

  suggest_past : (m : ℕ) → ¬ (1 ≡ m) → ¬ (2 ≡ m) → ¬ (5 ≡ m) → suggest_answer widths sizes v ≡ m → Judged FiveWords widths sizes v × ((not (some_below sizes.slots (suggestible sizes v)) ⇒ 13 otherwise 0) ≡ m)
  unfolding suggest_answer
  suggest_past m d1 d2 d5 e = judged_past FiveWords widths sizes v _ m d1 d2 d5 e

  suggest_either : Judged FiveWords widths sizes v → ((suggest_outcome widths sizes v).answer ≡ 0) ⊎ ((suggest_outcome widths sizes v).answer ≡ 13)
  unfolding suggest_outcome suggest_answer
  suggest_either j =
      subst (λ (n : ℕ). (n ≡ 0) ⊎ (n ≡ 13)) (sym (settled_answer (suggest_answer widths sizes v) _ _ _ _ ∙ judged_rest FiveWords widths sizes v _ j))
      (met_or_done (not (some_below sizes.slots (suggestible sizes v))) 13)

pub suggest_means : SuggestMeans
unfolding suggestible may_erase_alone
suggest_means =
    record {
      either = suggest_either;
      judged = λ widths sizes v e.
          ⊎_elim
          (λ z. (suggest_past widths sizes v 0 (λ q. omega arith) (λ q. omega arith) (λ q. omega arith) (suggest_answer_lem widths sizes v 0 z)).0)
          (λ z. (suggest_past widths sizes v 13 (λ q. omega arith) (λ q. omega arith) (λ q. omega arith) (suggest_answer_lem widths sizes v 13 z)).0)
          e;
      lowest = λ widths sizes v e.
          let l = suggested_lowest widths sizes v (suggest_answer_lem widths sizes v 0 e) in (
            l.slot_below,
            (may_go sizes v _ _).0 l.permitted,
            λ k h. may_not_go sizes v _ k (l.none_lower k h),
          );
      none = λ widths sizes v e k h.
          let p = suggest_past widths sizes v 13 (λ q. omega arith) (λ q. omega arith) (λ q. omega arith) (suggest_answer_lem widths sizes v 13 e) in
          may_not_go sizes v _ k (some_not_at (suggestible sizes v) sizes.slots k (met_test (some_below sizes.slots (suggestible sizes v)) 13 0 13 (λ q. omega arith) p.1) h);
    }

-- ---- read

module _ (layout : Layout) (widths : Widths) (sizes : Sizes) (v : Volume) (page : ℕ) (out : List ℕ) where
  read_answer_lem : (n : ℕ) → (read_outcome_in layout widths sizes v page out).answer ≡ n → read_answer_in layout widths sizes v page out ≡ n
  unfolding read_outcome_in
  read_answer_lem n e = sym (settled_answer _ _ _ _ _) ∙ e

  abbrev there : Bool
  there = has_version sizes.slots (slots_in layout v) page (pages_of v page).committed

  read_past :
      (m : ℕ) → ¬ (1 ≡ m) → ¬ (2 ≡ m) → ¬ (5 ≡ m) → ¬ (6 ≡ m) → read_answer_in layout widths sizes v page out ≡ m
      → Judged layout widths sizes v × (length out ≡ sizes.width) × (page < sizes.pages) × ((not there ⇒ 14 otherwise 0) ≡ m)
  unfolding read_answer_in
  read_past m d1 d2 d5 d6 e =
      let a = past_test (volume_fits_in layout widths sizes v && eqb (length out) sizes.width) 1 _ m d1 e in
      let b = past_test (table_sound sizes.pages sizes.slots (slots_in layout v)) 2 _ m d2 a.1 in
      let c = past_test (state_sound sizes.pages (pages_of v)) 5 _ m d5 b.1 in
      let d = past_test (ltb page sizes.pages) 6 _ m d6 c.1 in (
        record { fits = both_left (volume_fits_in layout widths sizes v) (eqb (length out) sizes.width) a.0; table = b.0; state = c.0 },
        eqb-true (length out) sizes.width (both_right (volume_fits_in layout widths sizes v) (eqb (length out) sizes.width) a.0),
        ltb-true page sizes.pages d.0,
        d.1,
      )

  read_either : Judged layout widths sizes v → length out ≡ sizes.width → page < sizes.pages → ((read_outcome_in layout widths sizes v page out).answer ≡ 0) ⊎ ((read_outcome_in layout widths sizes v page out).answer ≡ 14)
  unfolding read_outcome_in read_answer_in
  read_either j l h =
      subst (λ (n : ℕ). (n ≡ 0) ⊎ (n ≡ 14))
      (sym (settled_answer (read_answer_in layout widths sizes v page out) _ _ _ _ ∙ rw (j.fits, eq-eqb (length out) sizes.width l, j.table, j.state, lt-ltb page sizes.pages h) refl))
      (met_or_done (not there) 14)

pub read_means : (layout : Layout) → ReadMeans layout
unfolding read_slot_in has_version
read_means layout =
    record {
      either = read_either layout;
      judged = λ widths sizes v page out e.
          ⊎_elim
          (λ z. let p = read_past layout widths sizes v page out 0 (λ q. omega arith) (λ q. omega arith) (λ q. omega arith) (λ q. omega arith) (read_answer_lem layout widths sizes v page out 0 z) in (p.0, p.1, p.2))
          (λ z. let p = read_past layout widths sizes v page out 14 (λ q. omega arith) (λ q. omega arith) (λ q. omega arith) (λ q. omega arith) (read_answer_lem layout widths sizes v page out 14 z) in (p.0, p.1, p.2))
          e;
      lowest = λ widths sizes v page out e.
          let z = read_answer_lem layout widths sizes v page out 0 e in
          let y = (past_test (there layout widths sizes v page out) 14 0 0 (λ q. omega arith) (read_past layout widths sizes v page out 0 (λ q. omega arith) (λ q. omega arith) (λ q. omega arith) (λ q. omega arith) z).3).0 in
          let t = slots_in layout v in
          let n = (pages_of v page).committed in
          let l = ltb-true (lowest_slot sizes.slots t page n) sizes.slots y in
          let w = lowest_holds t sizes.slots page n l in (
            lowest_slot sizes.slots t page n,
            w.0,
            l,
            w.1,
            w.2,
            w.3,
            λ j q h f g u. lowest_first t sizes.slots page n j q h f g u,
            ap (λ (o : Outcome (List ℕ)). o.left) (read_done layout widths sizes v page out z),
          );
      none = λ widths sizes v page out e k q h f g u.
          let z = (read_past layout widths sizes v page out 14 (λ x. omega arith) (λ x. omega arith) (λ x. omega arith) (λ x. omega arith) (read_answer_lem layout widths sizes v page out 14 e)).3 in
          never ((has_version_lem (slots_in layout v) sizes.slots page (pages_of v page).committed).1 (k, q, h, f, g, u)) (met_test (there layout widths sizes v page out) 14 0 14 (λ x. omega arith) z);
    }

-- ---- recover: its chain of conditions, over their values

abbrev chain : (fits sound alike pages astray there : Bool) → ℕ
chain fits sound alike pages astray there = not fits ⇒ 1 otherwise not sound ⇒ 2 otherwise (alike || not pages) ⇒ 3 otherwise astray ⇒ 4 otherwise not there ⇒ 14 otherwise 0

chain_some : (fits sound alike pages astray there : Bool) → OneOfSix (chain fits sound alike pages astray there)
chain_some false s c p a t = inr (inl refl)
chain_some true false c p a t = inr (inr (inl refl))
chain_some true true true p a t = inr (inr (inr (inl refl)))
chain_some true true false false a t = inr (inr (inr (inl refl)))
chain_some true true false true true t = inr (inr (inr (inr (inl refl))))
chain_some true true false true false false = inr (inr (inr (inr (inr refl))))
chain_some true true false true false true = inl refl

chain_lengths : (fits sound alike pages astray there : Bool) → chain fits sound alike pages astray there ≡ 1 → fits ≡ false
chain_lengths false s c p a t e = refl
chain_lengths true false c p a t e = absurd (omega arith)
chain_lengths true true true p a t e = absurd (omega arith)
chain_lengths true true false false a t e = absurd (omega arith)
chain_lengths true true false true true t e = absurd (omega arith)
chain_lengths true true false true false false e = absurd (omega arith)
chain_lengths true true false true false true e = absurd (omega arith)

chain_refused : (fits sound alike pages astray there : Bool) → fits ≡ false → chain fits sound alike pages astray there ≡ 1
chain_refused false s c p a t e = refl
chain_refused true s c p a t e = absurd (never refl e)

chain_sound : (fits sound alike pages astray there : Bool) → ¬ (chain fits sound alike pages astray there ≡ 1) → ¬ (chain fits sound alike pages astray there ≡ 2) → sound ≡ true
chain_sound false s c p a t d e = absurd (d refl)
chain_sound true false c p a t d e = absurd (e refl)
chain_sound true true c p a t d e = refl

chain_unsound : (fits sound alike pages astray there : Bool) → chain fits sound alike pages astray there ≡ 2 → (fits ≡ true) × (sound ≡ false)
chain_unsound false s c p a t e = absurd (omega arith)
chain_unsound true false c p a t e = (refl, refl)
chain_unsound true true true p a t e = absurd (omega arith)
chain_unsound true true false false a t e = absurd (omega arith)
chain_unsound true true false true true t e = absurd (omega arith)
chain_unsound true true false true false false e = absurd (omega arith)
chain_unsound true true false true false true e = absurd (omega arith)

chain_alike : (fits sound alike pages astray there : Bool) → chain fits sound alike pages astray there ≡ 3 → (fits ≡ true) × (sound ≡ true) × ((alike ≡ true) ⊎ (pages ≡ false))
chain_alike false s c p a t e = absurd (omega arith)
chain_alike true false c p a t e = absurd (omega arith)
chain_alike true true true p a t e = (refl, refl, inl refl)
chain_alike true true false false a t e = (refl, refl, inr refl)
chain_alike true true false true true t e = absurd (omega arith)
chain_alike true true false true false false e = absurd (omega arith)
chain_alike true true false true false true e = absurd (omega arith)

-- an answer behind 3: those up to it are not met, and what the last two say
chain_behind :
    (fits sound alike pages astray there : Bool) (m : ℕ) → ¬ (1 ≡ m) → ¬ (2 ≡ m) → ¬ (3 ≡ m)
    → chain fits sound alike pages astray there ≡ m
    → (sound ≡ true) × (alike ≡ false) × (pages ≡ true) × ((astray ⇒ 4 otherwise not there ⇒ 14 otherwise 0) ≡ m)
chain_behind false s c p a t m d1 d2 d3 e = absurd (d1 e)
chain_behind true false c p a t m d1 d2 d3 e = absurd (d2 e)
chain_behind true true true p a t m d1 d2 d3 e = absurd (d3 e)
chain_behind true true false false a t m d1 d2 d3 e = absurd (d3 e)
chain_behind true true false true a t m d1 d2 d3 e = (refl, refl, refl, e)

-- the six conditions of a recovery, as tests
record Tests : Type 0 where
  fits : Bool
  sound : Bool
  alike : Bool
  pages : Bool
  astray : Bool
  there : Bool

abbrev answer_by : Tests → ℕ
answer_by x = chain x.fits x.sound x.alike x.pages x.astray x.there

by_some : (x : Tests) → OneOfSix (answer_by x)
by_some x = chain_some x.fits x.sound x.alike x.pages x.astray x.there

by_lengths : (x : Tests) → answer_by x ≡ 1 → x.fits ≡ false
by_lengths x e = chain_lengths x.fits x.sound x.alike x.pages x.astray x.there e

by_refused : (x : Tests) → x.fits ≡ false → answer_by x ≡ 1
by_refused x e = chain_refused x.fits x.sound x.alike x.pages x.astray x.there e

by_sound : (x : Tests) (n : ℕ) → n ≡ answer_by x → ¬ (n ≡ 1) → ¬ (n ≡ 2) → x.sound ≡ true
by_sound x n q d e = chain_sound x.fits x.sound x.alike x.pages x.astray x.there (λ z. d (q ∙ z)) (λ z. e (q ∙ z))

by_unsound : (x : Tests) → answer_by x ≡ 2 → (x.fits ≡ true) × (x.sound ≡ false)
by_unsound x e = chain_unsound x.fits x.sound x.alike x.pages x.astray x.there e

by_alike : (x : Tests) → answer_by x ≡ 3 → (x.fits ≡ true) × (x.sound ≡ true) × ((x.alike ≡ true) ⊎ (x.pages ≡ false))
by_alike x e = chain_alike x.fits x.sound x.alike x.pages x.astray x.there e

behind :
    (x : Tests) (m : ℕ) → ¬ (1 ≡ m) → ¬ (2 ≡ m) → ¬ (3 ≡ m)
    → answer_by x ≡ m
    → (x.sound ≡ true) × (x.alike ≡ false) × (x.pages ≡ true) × ((x.astray ⇒ 4 otherwise not x.there ⇒ 14 otherwise 0) ≡ m)
behind x m d1 d2 d3 e = chain_behind x.fits x.sound x.alike x.pages x.astray x.there m d1 d2 d3 e

-- ---- what its tests say

module _ (sizes : Sizes) (t : ℕ → Slot) (twin : ℕ → ℕ → Bool) where
  alike_of : (some_conflict sizes.slots t twin ≡ true) ↔ TwoAlike sizes t twin
  unfolding some_conflict
  alike_of = (
    λ e. let a = some_at (λ k. some_below k (λ j. clash (t j) (t k) && not (twin j k))) sizes.slots e in
        let b = some_at (λ j. clash (t j) (t a.0) && not (twin j a.0)) a.0 a.2 in
        let c = (clash_exactly (t b.0) (t a.0)).0 (both_left (clash (t b.0) (t a.0)) (not (twin b.0 a.0)) b.2) in
        (b.0, a.0, c.0, c.1, b.1, a.1, c.2, c.3, c.4, c.5, not-true (twin b.0 a.0) (both_right (clash (t b.0) (t a.0)) (not (twin b.0 a.0)) b.2)),
    λ w. some_of (λ k. some_below k (λ j. clash (t j) (t k) && not (twin j k))) sizes.slots w.1 w.5
        (some_of (λ j. clash (t j) (t w.1) && not (twin j w.1)) w.1 w.0 w.4
        (both ((clash_exactly (t w.0) (t w.1)).1 (w.2, w.3, w.6, w.7, w.8, w.9)) (ap not w.10))),
  )

  not_alike : some_conflict sizes.slots t twin ≡ false → ¬ (TwoAlike sizes t twin)
  not_alike e w = never (alike_of.1 w) e

module _ (sizes : Sizes) (t : ℕ → Slot) where
  -- without twins a clash is a conflict
  clashes : some_clash sizes.slots t ≡ some_conflict sizes.slots t no_twins
  unfolding some_clash some_conflict
  clashes = some_cong sizes.slots (λ k h. some_cong k (λ j l. sym (and_true (clash (t j) (t k)))))

  page_missing : all_below sizes.pages (has_record sizes.slots t) ≡ false → PageMissing sizes t
  page_missing e =
      let w = some_fails (has_record sizes.slots t) sizes.pages e in
      (w.0, w.1, λ k r h f q. never ((has_record_lem t w.0 sizes.slots).1 (k, r, h, f, q)) w.2)

  none_missing : all_below sizes.pages (has_record sizes.slots t) ≡ true → ¬ (PageMissing sizes t)
  none_missing e w =
      let k = (has_record_lem t w.0 sizes.slots).0 (all_at (has_record sizes.slots t) sizes.pages w.0 e w.1) in
      w.2 k.0 k.1 k.2 k.3 k.4

  module _ (verdicts : ℕ → Verdict) (inside : StaysInside sizes.pages verdicts) where
    abbrev astray_test : Bool
    astray_test = some_below sizes.pages (λ p. is_astray (follow sizes.pages verdicts p).end)

    astray_at : (there : Bool) → (astray_test ⇒ 4 otherwise not there ⇒ 14 otherwise 0) ≡ 4 → (p : ℕ) × (p < sizes.pages) × RunsIntoRing verdicts p
    astray_at there e = (astray_some sizes.pages verdicts inside).0 (met _ 4 _ 4 (never_four there) e)
      where
        never_four : (b : Bool) → ¬ ((not b ⇒ 14 otherwise 0) ≡ 4)
        never_four true e = omega arith
        never_four false e = omega arith

    on_course : (there : Bool) (m : ℕ) → ¬ (4 ≡ m) → (astray_test ⇒ 4 otherwise not there ⇒ 14 otherwise 0) ≡ m → ((p : ℕ) → p < sizes.pages → ¬ (RunsIntoRing verdicts p)) × ((not there ⇒ 14 otherwise 0) ≡ m)
    on_course there m d e = let q = past _ 4 _ m d e in (λ p h r. never ((astray_some sizes.pages verdicts inside).1 (p, h, r)) q.0, q.1)

-- ---- recover

module _ (widths : Widths) (sizes : Sizes) (v : Volume) where
  abbrev t : ℕ → Slot
  t = slots_of v

  abbrev twin : ℕ → ℕ → Bool
  twin = twins sizes.width v.flash

  abbrev version_there : Bool
  version_there = all_below sizes.pages (λ p. has_version sizes.slots t p (committed_of sizes.pages sizes.slots t p))

  -- its conditions
  abbrev recover_tests : Tests
  recover_tests =
      record {
        fits = volume_fits_in FiveWords widths sizes v;
        sound = table_sound sizes.pages sizes.slots t;
        alike = some_conflict sizes.slots t twin;
        pages = all_below sizes.pages (has_record sizes.slots t);
        astray = some_below sizes.pages (λ p. is_astray (follow sizes.pages (verdict sizes.slots t) p).end);
        there = version_there;
      }

  recover_chain_lem : (recover_outcome widths sizes v).answer ≡ answer_by recover_tests
  unfolding recover_outcome recover_answer walk_of
  recover_chain_lem = settled_answer (recover_answer widths sizes v) _ _ _ _

  recover_behind :
      (m : ℕ) → ¬ (1 ≡ m) → ¬ (2 ≡ m) → ¬ (3 ≡ m)
      → (recover_outcome widths sizes v).answer ≡ m
      → ¬ (TwoAlike sizes t twin) × ¬ (PageMissing sizes t) × StaysInside sizes.pages (verdict sizes.slots t)
      × ((some_below sizes.pages (λ p. is_astray (follow sizes.pages (verdict sizes.slots t) p).end) ⇒ 4 otherwise not version_there ⇒ 14 otherwise 0) ≡ m)
  recover_behind m d1 d2 d3 e =
      let b = behind recover_tests m d1 d2 d3 (sym recover_chain_lem ∙ e) in
      (not_alike sizes t twin b.1, none_missing sizes t b.2, verdict_inside sizes.slots t sizes.pages b.0, b.3)

-- where the walk from a page ends, its committed version
committed_by_lem : (P S : ℕ) (t : ℕ → Slot) → table_sound P S t ≡ true → (p n : ℕ) → p < P → Walked (verdict S t) p ends.Committed n → committed_of P S t p ≡ highest_version_of S t p
unfolding committed_of walk_of committed_by highest_version_of
committed_by_lem P S t sound p n h w = ap (λ (x : Walk). committed_by x.end (highest S t p)) (links_are_steps.exactly P S t sound p n ends.Committed h w)

uncommitted_by : (P S : ℕ) (t : ℕ → Slot) → table_sound P S t ≡ true → (p n : ℕ) (J : Record) → p < P → Walked (verdict S t) p ends.Uncommitted n → highest S t p ≡ Some J → committed_of P S t p ≡ J.c
unfolding committed_of walk_of committed_by back_pointer
uncommitted_by P S t sound p n J h w e = ap (λ (x : Walk). committed_by x.end (highest S t p)) (links_are_steps.exactly P S t sound p n ends.Uncommitted h w) ∙ ap back_pointer e

recover_fills_so :
    (widths : Widths) (sizes : Sizes) (v : Volume)
    → (recover_outcome widths sizes v).answer ≡ 0
    → (recover_outcome widths sizes v).left
    ≡ state_words sizes.pages (λ p. record { committed = committed_of sizes.pages sizes.slots (slots_of v) p; used = used_of sizes.slots (slots_of v) p; next = no_number; written = 0 })
unfolding recovered at_rest
recover_fills_so widths sizes v e = ap (λ (o : Outcome (List ℕ)). o.left) (recover_fills widths sizes v (sym (links_apart.answer widths sizes v) ∙ e))

pub recover_means : RecoverMeans
recover_means =
    record {
      some_answer = λ widths sizes v. subst OneOfSix (sym (recover_chain_lem widths sizes v)) (by_some (recover_tests widths sizes v));
      lengths = λ widths sizes v. (λ e. by_lengths (recover_tests widths sizes v) (sym (recover_chain_lem widths sizes v) ∙ e), λ n. recover_chain_lem widths sizes v ∙ by_refused (recover_tests widths sizes v) n);
      unsound = λ widths sizes v e. (by_unsound (recover_tests widths sizes v) (sym (recover_chain_lem widths sizes v) ∙ e)).1;
      sound = λ widths sizes v d e. by_sound (recover_tests widths sizes v) (recover_outcome widths sizes v).answer (recover_chain_lem widths sizes v) d e;
      alike = λ widths sizes v e.
          ⊎_elim
          (λ y. inl ((alike_of sizes (slots_of v) (twin widths sizes v)).0 y))
          (λ n. inr (page_missing sizes (slots_of v) n))
          (by_alike (recover_tests widths sizes v) (sym (recover_chain_lem widths sizes v) ∙ e)).2;
      fills = recover_fills_so;
      committed = committed_by_lem;
      uncommitted = uncommitted_by;
      astray = λ widths sizes v e.
          let b = recover_behind widths sizes v 4 (λ q. omega arith) (λ q. omega arith) (λ q. omega arith) e in
          (b.0, b.1, astray_at sizes (slots_of v) (verdict sizes.slots (slots_of v)) b.2 (version_there widths sizes v) b.3);
      no_record = λ widths sizes v e.
          let b = recover_behind widths sizes v 14 (λ q. omega arith) (λ q. omega arith) (λ q. omega arith) e in
          let c = on_course sizes (slots_of v) (verdict sizes.slots (slots_of v)) b.2 (version_there widths sizes v) 14 (λ q. omega arith) b.3 in
          let w = some_fails (λ p. has_version sizes.slots (slots_of v) p (committed_of sizes.pages sizes.slots (slots_of v) p)) sizes.pages (met_test (version_there widths sizes v) 14 0 14 (λ q. omega arith) c.1) in
          (b.0, b.1, c.0, (w.0, w.1, λ h. never ((has_version_lem (slots_of v) sizes.slots w.0 (committed_of sizes.pages sizes.slots (slots_of v) w.0)).1 h) w.2));
      done = λ widths sizes v e.
          let b = recover_behind widths sizes v 0 (λ q. omega arith) (λ q. omega arith) (λ q. omega arith) e in
          let c = on_course sizes (slots_of v) (verdict sizes.slots (slots_of v)) b.2 (version_there widths sizes v) 0 (λ q. omega arith) b.3 in
          let y = (past_test (version_there widths sizes v) 14 0 0 (λ q. omega arith) c.1).0 in
          (b.0, b.1, c.0, λ p h. (has_version_lem (slots_of v) sizes.slots p (committed_of sizes.pages sizes.slots (slots_of v) p)).0 (all_at (λ p. has_version sizes.slots (slots_of v) p (committed_of sizes.pages sizes.slots (slots_of v) p)) sizes.pages p y h));
    }

pub twins_alone : TwinsAlone
unfolding suggest_outcome suggest_answer suggested_slot suggestible volume_fits_in contents_fit
twins_alone =
    record {
      recover = recover_reads_twins;
      suggest = λ widths sizes words a b state e same. rw (suggest_outcome, suggest_answer, suggested_slot, suggestible, volume_fits_in, contents_fit, e, same);
    }

-- ---- records without a back pointer

module _ (widths : Widths) (sizes : Sizes) (v : Volume) where
  abbrev four : ℕ → Slot
  four = slots_in FourWords v

  abbrev committed_there : Bool
  committed_there = all_below sizes.pages (has_committed sizes.pages sizes.slots four)

  abbrev simple_tests : Tests
  simple_tests =
      record {
        fits = sizes_ok widths sizes && (words_fit_in FourWords sizes.slots v.flash.words && state_fits sizes.pages v.state);
        sound = table_sound sizes.pages sizes.slots four;
        alike = some_clash sizes.slots four;
        pages = all_below sizes.pages (has_record sizes.slots four);
        astray = some_below sizes.pages (λ p. is_astray (follow sizes.pages (simple_verdict sizes.slots four) p).end);
        there = committed_there;
      }

  simple_chain : (simple_recover_outcome widths sizes v.flash.words v.state).answer ≡ answer_by simple_tests
  unfolding simple_recover_outcome simple_recover_answer simple_walk_of
  simple_chain = settled_answer (simple_recover_answer widths sizes v.flash.words v.state) _ _ _ _

  simple_behind :
      (m : ℕ) → ¬ (1 ≡ m) → ¬ (2 ≡ m) → ¬ (3 ≡ m)
      → (simple_recover_outcome widths sizes v.flash.words v.state).answer ≡ m
      → ¬ (TwoAlike sizes four no_twins) × ¬ (PageMissing sizes four) × StaysInside sizes.pages (simple_verdict sizes.slots four)
      × ((some_below sizes.pages (λ p. is_astray (follow sizes.pages (simple_verdict sizes.slots four) p).end) ⇒ 4 otherwise not committed_there ⇒ 14 otherwise 0) ≡ m)
  simple_behind m d1 d2 d3 e =
      let b = behind simple_tests m d1 d2 d3 (sym simple_chain ∙ e) in
      (not_alike sizes four no_twins (sym (clashes sizes four) ∙ b.1), none_missing sizes four b.2, simple_verdict_inside sizes.slots four sizes.pages b.0, b.3)

simply_fits : (widths : Widths) (sizes : Sizes) (v : Volume) → ((simple_tests widths sizes v).fits ≡ true) ↔ SimplyFits widths sizes v
simply_fits widths sizes v =
    let words : Bool = words_fit_in FourWords sizes.slots v.flash.words in
    let state : Bool = state_fits sizes.pages v.state in (
      λ e. let s = sizes_facts widths sizes (both_left (sizes_ok widths sizes) (words && state) e) in
          let r = both_right (sizes_ok widths sizes) (words && state) e in
          (s.0, s.1, (words_fit_in_lem FourWords sizes.slots v.flash.words).0 (both_left words state r), (state_fits_exactly sizes.pages v.state).0 (both_right words state r)),
      λ f. both (sizes_test widths sizes f.0 f.1) (both ((words_fit_in_lem FourWords sizes.slots v.flash.words).1 f.2) ((state_fits_exactly sizes.pages v.state).1 f.3)),
    )

simple_committed_by : (P S : ℕ) (t : ℕ → Slot) → table_sound P S t ≡ true → (p n : ℕ) → p < P → Walked (simple_verdict S t) p ends.Committed n → committed_slot_of P S t p ≡ highest S t p
unfolding committed_slot_of simple_walk_of simple_committed_slot
simple_committed_by P S t sound p n h w = ap (λ (x : Walk). simple_committed_slot x.end S t p) (simple_links_are_steps.exactly P S t sound p n ends.Committed h w)

simple_uncommitted_by : (P S : ℕ) (t : ℕ → Slot) → table_sound P S t ≡ true → (p n : ℕ) → p < P → Walked (simple_verdict S t) p ends.Uncommitted n → committed_slot_of P S t p ≡ second S t p
unfolding committed_slot_of simple_walk_of simple_committed_slot
simple_uncommitted_by P S t sound p n h w = ap (λ (x : Walk). simple_committed_slot x.end S t p) (simple_links_are_steps.exactly P S t sound p n ends.Uncommitted h w)

simple_fills_so :
    (widths : Widths) (sizes : Sizes) (v : Volume)
    → (simple_recover_outcome widths sizes v.flash.words v.state).answer ≡ 0
    → (simple_recover_outcome widths sizes v.flash.words v.state).left
    ≡ state_words sizes.pages
    (λ p. record { committed = version_in (committed_slot_of sizes.pages sizes.slots (slots_in FourWords v) p); used = used_of sizes.slots (slots_in FourWords v) p; next = no_number; written = 0 })
unfolding simple_recovered at_rest
simple_fills_so widths sizes v e = simple_links_apart.filled widths sizes v (sym (simple_links_apart.answer widths sizes v) ∙ e)

-- a page has a committed record, or none
committed_held : (P S : ℕ) (t : ℕ → Slot) (p : ℕ) → has_committed P S t p ≡ true → (r : Record) × (committed_slot_of P S t p ≡ Some r)
unfolding has_committed
committed_held P S t p e = (not_blank_exactly (committed_slot_of P S t p)).0 (not-true (is_blank (committed_slot_of P S t p)) e)

committed_blank : (P S : ℕ) (t : ℕ → Slot) (p : ℕ) → has_committed P S t p ≡ false → committed_slot_of P S t p ≡ None
unfolding has_committed
committed_blank P S t p e = (is_blank_exactly (committed_slot_of P S t p)).0 (not-false (is_blank (committed_slot_of P S t p)) e)

pub simple_recover_means : SimpleRecoverMeans
simple_recover_means =
    record {
      some_answer = λ widths sizes v. subst OneOfSix (sym (simple_chain widths sizes v)) (by_some (simple_tests widths sizes v));
      lengths = λ widths sizes v. (
        λ e f. never ((simply_fits widths sizes v).1 f) (by_lengths (simple_tests widths sizes v) (sym (simple_chain widths sizes v) ∙ e)),
        λ n. simple_chain widths sizes v ∙ by_refused (simple_tests widths sizes v) (on_test (simple_tests widths sizes v).fits (λ y. absurd (n ((simply_fits widths sizes v).0 y))) (λ z. z)),
      );
      unsound = λ widths sizes v e. (by_unsound (simple_tests widths sizes v) (sym (simple_chain widths sizes v) ∙ e)).1;
      sound = λ widths sizes v d e. by_sound (simple_tests widths sizes v) (simple_recover_outcome widths sizes v.flash.words v.state).answer (simple_chain widths sizes v) d e;
      alike = λ widths sizes v e.
          ⊎_elim
          (λ y. inl ((alike_of sizes (slots_in FourWords v) no_twins).0 (sym (clashes sizes (slots_in FourWords v)) ∙ y)))
          (λ n. inr (page_missing sizes (slots_in FourWords v) n))
          (by_alike (simple_tests widths sizes v) (sym (simple_chain widths sizes v) ∙ e)).2;
      fills = simple_fills_so;
      committed = simple_committed_by;
      uncommitted = simple_uncommitted_by;
      astray = λ widths sizes v e.
          let b = simple_behind widths sizes v 4 (λ q. omega arith) (λ q. omega arith) (λ q. omega arith) e in
          (b.0, b.1, astray_at sizes (slots_in FourWords v) (simple_verdict sizes.slots (slots_in FourWords v)) b.2 (committed_there widths sizes v) b.3);
      no_record = λ widths sizes v e.
          let b = simple_behind widths sizes v 14 (λ q. omega arith) (λ q. omega arith) (λ q. omega arith) e in
          let c = on_course sizes (slots_in FourWords v) (simple_verdict sizes.slots (slots_in FourWords v)) b.2 (committed_there widths sizes v) 14 (λ q. omega arith) b.3 in
          let w = some_fails (has_committed sizes.pages sizes.slots (slots_in FourWords v)) sizes.pages (met_test (committed_there widths sizes v) 14 0 14 (λ q. omega arith) c.1) in
          (b.0, b.1, c.0, (w.0, w.1, committed_blank sizes.pages sizes.slots (slots_in FourWords v) w.0 w.2));
      done = λ widths sizes v e.
          let b = simple_behind widths sizes v 0 (λ q. omega arith) (λ q. omega arith) (λ q. omega arith) e in
          let c = on_course sizes (slots_in FourWords v) (simple_verdict sizes.slots (slots_in FourWords v)) b.2 (committed_there widths sizes v) 0 (λ q. omega arith) b.3 in
          let y = (past_test (committed_there widths sizes v) 14 0 0 (λ q. omega arith) c.1).0 in
          (b.0, b.1, c.0, λ p h. committed_held sizes.pages sizes.slots (slots_in FourWords v) p (all_at (has_committed sizes.pages sizes.slots (slots_in FourWords v)) sizes.pages p y h));
    }

module _ (widths : Widths) (sizes : Sizes) (v : Volume) (slots : List ℕ) where
  simple_erase_answer_lem : (n : ℕ) → (simple_erase_outcome widths sizes v slots).answer ≡ n → simple_erase_answer widths sizes v slots ≡ n
  unfolding simple_erase_outcome
  simple_erase_answer_lem n e = sym (settled_answer _ _ _ _ _) ∙ e

  simple_erase_past :
      (m : ℕ) → ¬ (1 ≡ m) → ¬ (2 ≡ m) → ¬ (5 ≡ m) → ¬ (6 ≡ m) → simple_erase_answer widths sizes v slots ≡ m
      → Judged FourWords widths sizes v × (list_ok sizes.slots slots ≡ true) × ((not (simple_may_erase_all (slots_in FourWords v) (pages_of v) slots) ⇒ 12 otherwise 0) ≡ m)
  unfolding simple_erase_answer
  simple_erase_past m d1 d2 d5 d6 e =
      let a = judged_past FourWords widths sizes v _ m d1 d2 d5 e in
      let b = past_test (list_ok sizes.slots slots) 6 _ m d6 a.1 in
      (a.0, b.0, b.1)

  simple_erase_either : Judged FourWords widths sizes v → list_ok sizes.slots slots ≡ true → ((simple_erase_outcome widths sizes v slots).answer ≡ 0) ⊎ ((simple_erase_outcome widths sizes v slots).answer ≡ 12)
  unfolding simple_erase_outcome simple_erase_answer
  simple_erase_either j l =
      subst (λ (n : ℕ). (n ≡ 0) ⊎ (n ≡ 12)) (sym (settled_answer (simple_erase_answer widths sizes v slots) _ _ _ _ ∙ judged_rest FourWords widths sizes v _ j ∙ rw l refl))
      (met_or_done (not (simple_may_erase_all (slots_in FourWords v) (pages_of v) slots)) 12)

pub simple_erase_means : SimpleEraseMeans
unfolding simple_may_erase_all
simple_erase_means =
    record {
      either = simple_erase_either;
      judged = λ widths sizes v slots e.
          ⊎_elim
          (λ z. let p = simple_erase_past widths sizes v slots 0 (λ q. omega arith) (λ q. omega arith) (λ q. omega arith) (λ q. omega arith) (simple_erase_answer_lem widths sizes v slots 0 z) in (p.0, p.1))
          (λ z. let p = simple_erase_past widths sizes v slots 12 (λ q. omega arith) (λ q. omega arith) (λ q. omega arith) (λ q. omega arith) (simple_erase_answer_lem widths sizes v slots 12 z) in (p.0, p.1))
          e;
      permitted = λ widths sizes v slots e i h.
          (simple_may_erase_exactly (slots_in FourWords v) (pages_of v) (get_or slots i 0)).0
          ((simple_may_erase_all_lem (slots_in FourWords v) (pages_of v) slots).0 (simple_erase_tests widths sizes v slots (simple_erase_answer_lem widths sizes v slots 0 e)).permitted i h);
      barred = λ widths sizes v slots e.
          let p = simple_erase_past widths sizes v slots 12 (λ q. omega arith) (λ q. omega arith) (λ q. omega arith) (λ q. omega arith) (simple_erase_answer_lem widths sizes v slots 12 e) in
          let w = some_fails (λ i. simple_may_erase (slots_in FourWords v) (pages_of v) (get_or slots i 0)) (length slots) (met_test (simple_may_erase_all (slots_in FourWords v) (pages_of v) slots) 12 0 12 (λ q. omega arith) p.2) in
          (w.0, w.1, λ m. never ((simple_may_erase_exactly (slots_in FourWords v) (pages_of v) (get_or slots w.0 0)).1 m) w.2);
    }

module _ (widths : Widths) (sizes : Sizes) (v : Volume) (page slot : ℕ) (bytes : List ℕ) where
  write_answer_lem : (n : ℕ) → (simple_write_outcome widths sizes v page slot bytes).answer ≡ n → simple_write_answer widths sizes v page slot bytes ≡ n
  unfolding simple_write_outcome
  write_answer_lem n e = sym (settled_answer _ _ _ _ _) ∙ e

  write_past :
      (m : ℕ) → ¬ (1 ≡ m) → ¬ (2 ≡ m) → ¬ (5 ≡ m) → ¬ (6 ≡ m) → ¬ (9 ≡ m) → ¬ (10 ≡ m) → ¬ (11 ≡ m)
      → simple_write_answer widths sizes v page slot bytes ≡ m
      → WriteJudged widths sizes v page slot bytes × ((would_bury sizes.slots (slots_in FourWords v) (pages_of v) page ⇒ 16 otherwise 0) ≡ m)
  unfolding simple_write_answer
  write_past m d1 d2 d5 d6 d9 d10 d11 e =
      let a = past_test (volume_fits_in FourWords widths sizes v && eqb (length bytes) sizes.width) 1 _ m d1 e in
      let b = past_test (table_sound sizes.pages sizes.slots (slots_in FourWords v)) 2 _ m d2 a.1 in
      let c = past_test (state_sound sizes.pages (pages_of v)) 5 _ m d5 b.1 in
      let d = past_test (ltb page sizes.pages && ltb slot sizes.slots) 6 _ m d6 c.1 in
      let f = past_test (in_flight (pages_of v page)) 9 _ m d9 d.1 in
      let g = past (is_written (pages_of v page)) 10 _ m d10 f.1 in
      let h = past_test (is_blank (slots_in FourWords v slot)) 11 _ m d11 g.1 in (
        record {
          volume = record { fits = both_left (volume_fits_in FourWords widths sizes v) (eqb (length bytes) sizes.width) a.0; table = b.0; state = c.0 };
          whole = eqb-true (length bytes) sizes.width (both_right (volume_fits_in FourWords widths sizes v) (eqb (length bytes) sizes.width) a.0);
          page_below = ltb-true page sizes.pages (both_left (ltb page sizes.pages) (ltb slot sizes.slots) d.0);
          slot_below = ltb-true slot sizes.slots (both_right (ltb page sizes.pages) (ltb slot sizes.slots) d.0);
          flying = f.0;
          unwritten = g.0;
          free = h.0;
        },
        h.1,
      )

  bury_either : WriteJudged widths sizes v page slot bytes → ((simple_write_outcome widths sizes v page slot bytes).answer ≡ 0) ⊎ ((simple_write_outcome widths sizes v page slot bytes).answer ≡ 16)
  unfolding simple_write_outcome simple_write_answer
  bury_either j =
      subst (λ (n : ℕ). (n ≡ 0) ⊎ (n ≡ 16))
      (sym (settled_answer (simple_write_answer widths sizes v page slot bytes) _ _ _ _
      ∙ rw (j.volume.fits, eq-eqb (length bytes) sizes.width j.whole, j.volume.table, j.volume.state, lt-ltb page sizes.pages j.page_below, lt-ltb slot sizes.slots j.slot_below, j.flying, j.unwritten, j.free) refl))
      (met_or_done (would_bury sizes.slots (slots_in FourWords v) (pages_of v) page) 16)

  -- of 0 and of 16
  write_done : (simple_write_outcome widths sizes v page slot bytes).answer ≡ 0 → WriteJudged widths sizes v page slot bytes × (would_bury sizes.slots (slots_in FourWords v) (pages_of v) page ≡ false)
  write_done e =
      let p = write_past 0 (λ q. omega arith) (λ q. omega arith) (λ q. omega arith) (λ q. omega arith) (λ q. omega arith) (λ q. omega arith) (λ q. omega arith) (write_answer_lem 0 e) in
      (p.0, (past (would_bury sizes.slots (slots_in FourWords v) (pages_of v) page) 16 0 0 (λ q. omega arith) p.1).0)

  write_buries : (simple_write_outcome widths sizes v page slot bytes).answer ≡ 16 → WriteJudged widths sizes v page slot bytes × (would_bury sizes.slots (slots_in FourWords v) (pages_of v) page ≡ true)
  write_buries e =
      let p = write_past 16 (λ q. omega arith) (λ q. omega arith) (λ q. omega arith) (λ q. omega arith) (λ q. omega arith) (λ q. omega arith) (λ q. omega arith) (write_answer_lem 16 e) in
      (p.0, met (would_bury sizes.slots (slots_in FourWords v) (pages_of v) page) 16 0 16 (λ q. omega arith) p.1)

pub bury_means : BuryMeans
bury_means =
    record {
      either = bury_either;
      judged = λ widths sizes v page slot bytes e. ⊎_elim (λ z. (write_done widths sizes v page slot bytes z).0) (λ z. (write_buries widths sizes v page slot bytes z).0) e;
      buries = λ widths sizes v page slot bytes e. (buried_exactly sizes.slots (slots_in FourWords v) (pages_of v) page).0 (write_buries widths sizes v page slot bytes e).1;
      buries_none = λ widths sizes v page slot bytes e w. never ((buried_exactly sizes.slots (slots_in FourWords v) (pages_of v) page).1 w) (write_done widths sizes v page slot bytes e).1;
    }

settles : {B : Type 0} → Settles B
settles a r s before after = (λ e. settled_done a r s before after e, λ n. settled_refused a r s before after n)

pub settled_means : SettledMeans
settled_means = (settles, settles, settles, settles)

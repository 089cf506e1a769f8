-- Doubtful, as facts: each end is reached by a filling whose recovery succeeds, and the others lie between; and what an empty list gives.
use Prim.Native.Nat.{ℕ, zero, suc, ◌+◌, ◌*◌, ◌^◌, ◌<◌, ◌≤◌}
use Rattle.std.proofs.Common.{add-zero, ◌∙◌, inl, inr}
use native.Mathlib.Omega.{arith}
use Rattle.std.specs.Prelude.{◌≡◌, ◌⊎◌, Bool, ◌||◌, ltb, eqb, get_or, replicate}
use Rattle.std.proofs.Math.Path.{refl, sym, ap, ap₂, subst}
use mathlib.Core.List.{List, [], ◌∷◌}
use Rattle.std.proofs.Math.Bool.{true, false, not, cond}
use Rattle.std.proofs.Math.ListN.{length}
use Rattle.std.proofs.lemmas.List.{length-replicate}
use borrow.Author.Tests.{le-ltb, eqb-true, eqb-false, eq-eqb, ne_eqb}
use Rattle.bounded.specs.Limits.{no_number, Widths}
use Rattle.bounded.specs.Choice.{on_test, on_eq, both_left, both_right}
use Rattle.bounded.specs.Below.{all_below, some_below, min_below, max_below, list_below}
use Rattle.bounded.specs.BelowLaws.{all_at, some_search, max_above, max_at, min_below_lem, min_at}
use Rattle.bounded.specs.Members.{member_at, list_members, list_none, count_below, list_rises, rises_apart}
use Rattle.bounded.specs.Passing.{list_entry}
use Rattle.bounded.specs.Parts.{join_parts}
use Rattle.bounded.specs.PartsLaws.{length_join_parts, part_join_parts, part_at, join_parts_cong}
use Rattle.outcome.specs.Outcome.{◌⇒◌otherwise◌, Outcome}
use Rattle.outcome.specs.OutcomeLaws.{passed, held, settled_answer, settled_refused, settled_done}
use Rattle.sizes.specs.declared.Sizes.{Sizes}
use Rattle.sizes.specs.Sizes.{state_fits, no_repeats, in_range}
use Rattle.record.specs.Slot.{slot_at}
use Rattle.record.specs.SlotLaws.{sound_facts}
use Rattle.record.specs.Flash.{Flash, apply_all_in}
use Rattle.state.specs.declared.PageState.{PageState}
use Rattle.state.specs.State.{state_at}
use Rattle.state.specs.StateLaws.{state_at_words}
use Rattle.state.specs.Change.{at_rest}
use Rattle.table.specs.Table.{table_sound, has_record, has_version}
use Rattle.table.proofs.TableLaws.{has_version_lem, sound_at}
use Rattle.twins.specs.Twins.{twins, some_conflict}
use Rattle.follow.specs.Follow.{is_astray}
use Rattle.rules.specs.Volume.{Volume, volume_fits_in, volume_fits}
use Rattle.rules.specs.Erase.{erase_steps}
use Rattle.rules.specs.Recover.{walk_of, committed_of, recovered, recover_answer, recover_outcome}
use Rattle.upkeep.specs.Doubtful.{max_doubtful, absent_in, fillings, filled_with, recovery_of, recovers, version_filled, recovering, lowest_filled, highest_filled, doubtful_words, doubtful_list_ok, doubtful_fits, doubtful_answer, doubtful_outcome}
use Rattle.upkeep.specs.Doubted.{passing, filled_recovery, Commits, Between, Counts, Doubted, NoneRecovers, EmptyListRecovers}
use Rattle.rules.proofs.laws.Accepted.{recover_tests_lem}
use Rattle.rules.proofs.laws.Recover.{recover_answer_reads, recover_fills}
use Rattle.upkeep.proofs.laws.Fillings.{each_filling, listable}

-- ---- recovery of a filling

-- a flash with a sheet of zeros
abbrev sheeted : Sizes → Flash → Volume
sheeted sizes g = record { flash = g; state = replicate (4 * sizes.pages) 0 }

recover_answers_lem : (widths : Widths) (sizes : Sizes) (g : Flash) (state : List ℕ) → (recover_outcome widths sizes (record { flash = g; state = state })).answer ≡ recover_answer widths sizes (record { flash = g; state = state })
unfolding recover_outcome
recover_answers_lem widths sizes g state = settled_answer (recover_answer widths sizes (record { flash = g; state = state })) 0 _ state _

module _ (widths : Widths) (sizes : Sizes) (g : Flash) (done : (recovery_of widths sizes g).answer ≡ 0) where
  abbrev sheet : Volume
  sheet = sheeted sizes g

  answers : recover_answer widths sizes sheet ≡ 0
  unfolding recovery_of
  answers = sym (recover_answers_lem widths sizes g (replicate (4 * sizes.pages) 0)) ∙ done

  pub commits_version : (p : ℕ) → p < sizes.pages → (state_at (recovery_of widths sizes g).left p).committed ≡ committed_of sizes.pages sizes.slots (slot_at g.words) p
  unfolding recovery_of recovered at_rest
  commits_version p h =
      ap (λ (o : Outcome (List ℕ)). (state_at o.left p).committed) (recover_fills widths sizes sheet answers)
      ∙ ap (λ (s : PageState). s.committed) (state_at_words sizes.pages (recovered sizes.pages sizes.slots (slot_at g.words)) p h)

  -- a version that is committed is in a sound record
  pub version_below : (p : ℕ) → p < sizes.pages → (state_at (recovery_of widths sizes g).left p).committed < no_number
  version_below p h =
      let t = recover_tests_lem widths sizes sheet answers in
      let w = (has_version_lem (slot_at g.words) sizes.slots p (committed_of sizes.pages sizes.slots (slot_at g.words) p)).0 (all_at (λ p. has_version sizes.slots (slot_at g.words) p (committed_of sizes.pages sizes.slots (slot_at g.words) p)) sizes.pages p t.all_there h) in
      let m = (sound_facts sizes.pages w.1 (sound_at (slot_at g.words) sizes.pages sizes.slots w.0 t.sound w.2 w.3)).v_most in
      let e = w.5 in
      let c = commits_version p h in
      omega arith

-- recovery on any sheet of the right length says the same as on one of zeros
module _ (widths : Widths) (sizes : Sizes) (g : Flash) (state : List ℕ) (sized : length state ≡ 4 * sizes.pages) where
  pub any_sheet_answer : (recovery_of widths sizes g).answer ≡ (recover_outcome widths sizes (record { flash = g; state = state })).answer
  unfolding recovery_of
  any_sheet_answer =
      recover_answers_lem widths sizes g (replicate (4 * sizes.pages) 0)
      ∙ recover_answer_reads widths sizes g (replicate (4 * sizes.pages) 0) state (length-replicate (4 * sizes.pages) 0 ∙ sym sized)
      ∙ sym (recover_answers_lem widths sizes g state)

  pub any_sheet_left : (recovery_of widths sizes g).answer ≡ 0 → (recovery_of widths sizes g).left ≡ (recover_outcome widths sizes (record { flash = g; state = state })).left
  unfolding recovery_of
  any_sheet_left e =
      ap (λ (o : Outcome (List ℕ)). o.left) (recover_fills widths sizes (sheeted sizes g) (answers widths sizes g e)
      ∙ sym (recover_fills widths sizes (record { flash = g; state = state }) (sym (recover_answers_lem widths sizes g state) ∙ sym any_sheet_answer ∙ e)))

-- ---- the two ends

module _ (widths : Widths) (sizes : Sizes) (f : Flash) (slots : List ℕ) where
  abbrev filled_by : List ℕ → Outcome (List ℕ)
  filled_by absent = recovery_of widths sizes (filled_with sizes.width f absent)

  -- a filling's number and its slots
  does_recover : (m : ℕ) → (recovers widths sizes f slots m ≡ true) → (filled_by (absent_in slots m)).answer ≡ 0
  unfolding recovers
  does_recover m e = eqb-true (filled_by (absent_in slots m)).answer 0 e

  some_recovers : ¬ (recovering widths sizes f slots ≡ 0) → (m : ℕ) × (m < fillings slots) × (recovers widths sizes f slots m ≡ true)
  unfolding recovering
  some_recovers d = by (some_search (recovers widths sizes f slots) (fillings slots))
    where
      by : ((m : ℕ) × (m < fillings slots) × (recovers widths sizes f slots m ≡ true)) ⊎ ((m : ℕ) → m < fillings slots → recovers widths sizes f slots m ≡ false) → (m : ℕ) × (m < fillings slots) × (recovers widths sizes f slots m ≡ true)
      by (inl w) = w
      by (inr none) = absurd (d (ap length (list_none (recovers widths sizes f slots) (fillings slots) none)))

  module _ (p : ℕ) where
    abbrev pub low : ℕ → ℕ
    low m = cond (recovers widths sizes f slots m) (version_filled widths sizes f slots m p) no_number

    abbrev pub high : ℕ → ℕ
    high m = cond (recovers widths sizes f slots m) (version_filled widths sizes f slots m p) 0

    module _ (m : ℕ) (e : recovers widths sizes f slots m ≡ true) where
      pub low_is : low m ≡ version_filled widths sizes f slots m p
      low_is = rw e

      pub high_is : high m ≡ version_filled widths sizes f slots m p
      high_is = rw e

  -- recovery on any sheet of the right length says the same
  module _ (state : List ℕ) (sized : length state ≡ 4 * sizes.pages) where
    abbrev by_state : List ℕ → Outcome (List ℕ)
    by_state absent = recover_outcome widths sizes (record { flash = filled_with sizes.width f absent; state = state })

    same_answer : (absent : List ℕ) → (filled_by absent).answer ≡ (by_state absent).answer
    same_answer absent = any_sheet_answer widths sizes (filled_with sizes.width f absent) state sized

    same_left : (absent : List ℕ) → (filled_by absent).answer ≡ 0 → (filled_by absent).left ≡ (by_state absent).left
    same_left absent = any_sheet_left widths sizes (filled_with sizes.width f absent) state sized

    -- a number's filling recovers exactly where the choice that leaves the same slots does
    by_choice : (m : ℕ) (q : ℕ → Bool) → absent_in slots m ≡ passing q slots → recovers widths sizes f slots m ≡ true → (filled_recovery widths sizes f slots state q).answer ≡ 0
    by_choice m q e y = subst (λ (a : List ℕ). (by_state a).answer ≡ 0) e (sym (same_answer (absent_in slots m)) ∙ does_recover m y)

    of_choice : (m : ℕ) (q : ℕ → Bool) → absent_in slots m ≡ passing q slots → (filled_recovery widths sizes f slots state q).answer ≡ 0 → recovers widths sizes f slots m ≡ true
    unfolding recovers
    of_choice m q e y = eq-eqb (filled_by (absent_in slots m)).answer 0 (same_answer (absent_in slots m) ∙ subst (λ (a : List ℕ). (by_state a).answer ≡ 0) (sym e) y)

    module _ (new : no_repeats slots ≡ true) where
      -- ---- the number

      abbrev nth_of : ℕ → ℕ
      nth_of i = get_or (list_below (fillings slots) (recovers widths sizes f slots)) i 0

      counts : Counts widths sizes f slots state (recovering widths sizes f slots)
      unfolding recovering fillings
      counts =
          let b = each_filling slots new in
          let l = list_below (fillings slots) (recovers widths sizes f slots) in
          record {
            nth = λ i. (b.chosen (nth_of i)).0;
            succeed = λ i h. by_choice (nth_of i) (b.chosen (nth_of i)).0 (b.chosen (nth_of i)).1 (list_entry (recovers widths sizes f slots) (fillings slots) i h).1;
            apart = λ i j h g e.
                let same = b.once (nth_of i) (nth_of j) (list_entry (recovers widths sizes f slots) (fillings slots) i h).0 (list_entry (recovers widths sizes f slots) (fillings slots) j g).0 ((b.chosen (nth_of i)).1 ∙ e ∙ sym (b.chosen (nth_of j)).1) in
                rises_apart 0 (fillings slots) l (list_rises (recovers widths sizes f slots) (fillings slots)) i j h g same;
            all = λ q y.
                let w = b.each q in
                let m = member_at l w.0 ((list_members (recovers widths sizes f slots) (fillings slots) w.0).1 (w.1, of_choice w.0 q w.2 y)) in
                (m.0, m.1, sym (b.chosen (nth_of m.0)).1 ∙ ap (absent_in slots) m.2 ∙ w.2);
          }

      -- ---- the ends of a page

      module _ (some : ¬ (recovering widths sizes f slots ≡ 0)) (p : ℕ) (inside : p < sizes.pages) where
        -- what a filling commits, by its number
        by_number : (m version : ℕ) → recovers widths sizes f slots m ≡ true → version_filled widths sizes f slots m p ≡ version → (q : ℕ → Bool) × Commits widths sizes f slots state q p version
        unfolding version_filled
        by_number m version e v =
            let w = (each_filling slots new).chosen m in (
              w.0,
              record {
                succeeds = by_choice m w.0 w.1 e;
                commits = subst (λ (a : List ℕ). (state_at (by_state a).left p).committed ≡ version) w.1 (ap (λ (l : List ℕ). (state_at l p).committed) (sym (same_left (absent_in slots m) (does_recover m e))) ∙ v);
              },
            )

        low_end : (q : ℕ → Bool) × Commits widths sizes f slots state q p (lowest_filled widths sizes f slots p)
        unfolding lowest_filled version_filled
        low_end =
            let w = some_recovers some in
            let b = min_below_lem no_number (low p) (fillings slots) w.0 w.1 in
            let e = low_is p w.0 w.2 in
            let v = version_below widths sizes (filled_with sizes.width f (absent_in slots w.0)) (does_recover w.0 w.2) p inside in
            let r = min_at no_number (low p) (fillings slots) (omega arith) in
            on_test (recovers widths sizes f slots r.0)
            (λ y. by_number r.0 (lowest_filled widths sizes f slots p) y (sym (low_is p r.0 y) ∙ r.2))
            (λ n. absurd (let z : low p r.0 ≡ no_number = rw n in let s = r.2 in omega arith))

        high_end : (q : ℕ → Bool) × Commits widths sizes f slots state q p (highest_filled widths sizes f slots p)
        unfolding highest_filled version_filled
        high_end = by (fillings slots) refl
          where
            by : (n : ℕ) → fillings slots ≡ n → (q : ℕ → Bool) × Commits widths sizes f slots state q p (highest_filled widths sizes f slots p)
            by zero e = absurd (let w = some_recovers some in let b = w.1 in omega arith)
            by (suc n) e =
                let w = some_recovers some in
                let top : max_below (suc n) (high p) ≡ highest_filled widths sizes f slots p = ap (λ (x : ℕ). max_below x (high p)) (sym e) in
                let r = max_at (high p) n in
                let r_is = r.2 in
                on_test (recovers widths sizes f slots r.0)
                (λ y. by_number r.0 (highest_filled widths sizes f slots p) y (sym (high_is p r.0 y) ∙ r.2 ∙ top))
                (λ no. let z : high p r.0 ≡ 0 = rw no in
                let a = max_above (high p) (fillings slots) w.0 w.1 in
                let v = high_is p w.0 w.2 in
                by_number w.0 (highest_filled widths sizes f slots p) w.2 (omega arith))

        all_between : (q : ℕ → Bool) (version : ℕ) → Commits widths sizes f slots state q p version → (lowest_filled widths sizes f slots p ≤ version) × (version ≤ highest_filled widths sizes f slots p)
        unfolding lowest_filled highest_filled version_filled fillings
        all_between q version c =
            let w = (each_filling slots new).each q in
            let m = w.0 in
            let e = of_choice m q w.2 c.succeeds in
            let v : version_filled widths sizes f slots m p ≡ version = ap (λ (l : List ℕ). (state_at l p).committed) (same_left (absent_in slots m) (does_recover m e)) ∙ subst (λ (a : List ℕ). (state_at (by_state a).left p).committed ≡ version) (sym w.2) c.commits in
            let l = low_is p m e in
            let h = high_is p m e in
            let x = min_below_lem no_number (low p) (fillings slots) m w.1 in
            let y = max_above (high p) (fillings slots) m w.1 in
            (omega arith, omega arith)

        both_ends : Between widths sizes f slots state p (lowest_filled widths sizes f slots p) (highest_filled widths sizes f slots p)
        both_ends = record { low_reached = low_end; high_reached = high_end; between = all_between }

-- ---- the call

-- the words of page p stand from 2p on
module _ (P : ℕ) (low high : ℕ → ℕ) (p : ℕ) (h : p < P) where
  abbrev two : ℕ → List ℕ
  two q = low q ∷ high q ∷ []

  pub low_word : get_or (join_parts P two) (2 * p) 0 ≡ low p
  low_word = ap (λ (n : ℕ). get_or (join_parts P two) n 0) (sym (add-zero (2 * p))) ∙ sym (part_at 2 p (join_parts P two) 0 0 (omega arith)) ∙ ap (λ (l : List ℕ). get_or l 0 0) (part_join_parts 2 P p two (λ q. refl) h)

  pub high_word : get_or (join_parts P two) (2 * p + 1) 0 ≡ high p
  high_word = sym (part_at 2 p (join_parts P two) 1 0 (omega arith)) ∙ ap (λ (l : List ℕ). get_or l 1 0) (part_join_parts 2 P p two (λ q. refl) h)

module _ (widths : Widths) (sizes : Sizes) (f : Flash) (slots out : List ℕ) where
  -- what a call that answers 0 has tested
  pub record DoubtfulTests : Type 0 where
    pub new : no_repeats slots ≡ true
    pub some : ¬ (recovering widths sizes f slots ≡ 0)

  pub doubtful_tests : doubtful_answer widths sizes f slots out ≡ 0 → DoubtfulTests
  unfolding doubtful_answer doubtful_list_ok
  doubtful_tests e =
      let a = held (doubtful_fits widths sizes f out) _ _ e in
      let b = held (table_sound sizes.pages sizes.slots (slot_at f.words)) _ _ a.1 in
      let c = held (doubtful_list_ok sizes.slots f.words slots) _ _ b.1 in
      let d = passed (ltb max_doubtful (length slots)) _ _ c.1 in
      let g = passed (eqb (recovering widths sizes f slots) 0) _ _ d.1 in
      record {
        new = both_left (no_repeats slots) _ (both_right (in_range sizes.slots slots) _ c.0);
        some = eqb-false (recovering widths sizes f slots) 0 g.0;
      }

  pub doubtful_done : doubtful_answer widths sizes f slots out ≡ 0 → doubtful_outcome widths sizes f slots out ≡ record { answer = 0; second = recovering widths sizes f slots; left = doubtful_words widths sizes f slots }
  unfolding doubtful_outcome
  doubtful_done e = settled_done _ _ _ _ _ e

recovering_most : (widths : Widths) (sizes : Sizes) (f : Flash) (slots : List ℕ) → recovering widths sizes f slots ≤ 2 ^ length slots
unfolding recovering fillings
recovering_most widths sizes f slots = count_below (recovers widths sizes f slots) (2 ^ length slots)

-- the outcome's answer is the answer
doubtful_answers_lem : (widths : Widths) (sizes : Sizes) (f : Flash) (slots out : List ℕ) → (doubtful_outcome widths sizes f slots out).answer ≡ doubtful_answer widths sizes f slots out
unfolding doubtful_outcome
doubtful_answers_lem widths sizes f slots out = settled_answer (doubtful_answer widths sizes f slots out) 0 _ out _

pub doubted : Doubted
unfolding doubtful_words
doubted widths sizes f slots out state sized done =
    let e = sym (doubtful_answers_lem widths sizes f slots out) ∙ done in
    let t = doubtful_tests widths sizes f slots out e in
    rw (doubtful_done widths sizes f slots out e) (
      recovering_most widths sizes f slots,
      counts widths sizes f slots state sized t.new,
      length_join_parts 2 sizes.pages (λ p. lowest_filled widths sizes f slots p ∷ highest_filled widths sizes f slots p ∷ []) (λ p. refl),
      λ p h. rw (low_word sizes.pages (lowest_filled widths sizes f slots) (highest_filled widths sizes f slots) p h, high_word sizes.pages (lowest_filled widths sizes f slots) (highest_filled widths sizes f slots) p h) (both_ends widths sizes f slots state sized t.new t.some p h),
    )

-- "20, no filling recovers"
pub none_recovers : NoneRecovers
unfolding doubtful_answer
none_recovers widths sizes f slots out state sized fits sound ok few =
    let new = (listable widths sizes f slots out fits ok).new in
    let answer : (doubtful_outcome widths sizes f slots out).answer ≡ (eqb (recovering widths sizes f slots) 0 ⇒ 20 otherwise 0) = doubtful_answers_lem widths sizes f slots out ∙ rw (doubtful_answer, fits, sound, ok, le-ltb max_doubtful (length slots) few) in
    on_eq (recovering widths sizes f slots) 0
    (λ z. inl (answer ∙ rw z, λ q y. let w = (counts widths sizes f slots state sized new).all q y in let b = w.1 in omega arith))
    (λ d. inr (answer ∙ rw (ne_eqb (recovering widths sizes f slots) 0 d), ((counts widths sizes f slots state sized new).nth 0, (counts widths sizes f slots state sized new).succeed 0 (omega arith))))

-- ---- no slot in doubt

-- the one filling is the flash itself
is_flash : (w : ℕ) (f : Flash) → filled_with w f (absent_in [] 0) ≡ f
unfolding filled_with absent_in erase_steps apply_all_in
is_flash w f = refl

module _ (widths : Widths) (sizes : Sizes) (f : Flash) (state out : List ℕ) (sized : length state ≡ 4 * sizes.pages) (enough : length out ≡ 2 * sizes.pages) where
  abbrev own : Volume
  own = record { flash = f; state = state }

  same_fits : doubtful_fits widths sizes f out ≡ volume_fits widths sizes own
  unfolding doubtful_fits volume_fits_in state_fits
  same_fits = rw (eq-eqb (length out) (2 * sizes.pages) enough, eq-eqb (length state) (4 * sizes.pages) sized)

  none_listed : doubtful_list_ok sizes.slots f.words [] ≡ true
  unfolding doubtful_list_ok in_range no_repeats all_below
  none_listed = refl

  -- its recovery, by the sheet of zeros, is recovery's own
  own_answer : (recovery_of widths sizes (filled_with sizes.width f (absent_in [] 0))).answer ≡ recover_answer widths sizes own
  own_answer =
      same_answer widths sizes f [] state sized (absent_in [] 0)
      ∙ ap (λ (g : Flash). (recover_outcome widths sizes (record { flash = g; state = state })).answer) (is_flash sizes.width f)
      ∙ recover_answers_lem widths sizes f state

  -- ---- it succeeds

  module _ (done : recover_answer widths sizes own ≡ 0) where
    alone_recovers : recovers widths sizes f [] 0 ≡ true
    unfolding recovers
    alone_recovers = eq-eqb (recovery_of widths sizes (filled_with sizes.width f (absent_in [] 0))).answer 0 (own_answer ∙ done)

    one_recovers : recovering widths sizes f [] ≡ 1
    unfolding recovering fillings list_below
    one_recovers = rw alone_recovers

    abbrev own_version : ℕ → ℕ
    own_version p = (state_at (recover_outcome widths sizes own).left p).committed

    its_version : (p : ℕ) → version_filled widths sizes f [] 0 p ≡ own_version p
    unfolding version_filled
    its_version p =
        ap (λ (l : List ℕ). (state_at l p).committed)
        (same_left widths sizes f [] state sized (absent_in [] 0) (own_answer ∙ done) ∙ ap (λ (g : Flash). (recover_outcome widths sizes (record { flash = g; state = state })).left) (is_flash sizes.width f))

    its_low : (p : ℕ) → p < sizes.pages → lowest_filled widths sizes f [] p ≡ own_version p
    unfolding lowest_filled fillings min_below version_filled
    its_low p h =
        let b = version_below widths sizes (filled_with sizes.width f (absent_in [] 0)) (own_answer ∙ done) p h in
        let e = low_is widths sizes f [] p 0 alone_recovers in
        let v = its_version p in
        omega arith

    its_high : (p : ℕ) → p < sizes.pages → highest_filled widths sizes f [] p ≡ own_version p
    unfolding highest_filled fillings max_below
    its_high p h =
        let e = high_is widths sizes f [] p 0 alone_recovers in
        let v = its_version p in
        omega arith

    accepted : doubtful_answer widths sizes f [] out ≡ 0
    unfolding doubtful_answer recover_answer
    accepted = rw (doubtful_answer, same_fits, (held (volume_fits widths sizes own) _ _ done).0, (recover_tests_lem widths sizes own done).sound, none_listed, one_recovers)

    own_versions : doubtful_outcome widths sizes f [] out ≡ record { answer = 0; second = 1; left = join_parts sizes.pages (λ p. own_version p ∷ own_version p ∷ []) }
    unfolding doubtful_words
    own_versions =
        doubtful_done widths sizes f [] out accepted
        ∙ ap₂ (λ (n : ℕ) (l : List ℕ). record { answer = 0; second = n; left = l }) one_recovers
        (join_parts_cong sizes.pages (λ p. lowest_filled widths sizes f [] p ∷ highest_filled widths sizes f [] p ∷ []) (λ p. own_version p ∷ own_version p ∷ []) (λ p h. ap₂ (λ (a b : ℕ). a ∷ b ∷ []) (its_low p h) (its_high p h)))

  -- ---- it refuses

  module _ (n : ℕ) (no : recover_answer widths sizes own ≡ suc n) where
    alone_fails : recovers widths sizes f [] 0 ≡ false
    unfolding recovers
    alone_fails = ne_eqb (recovery_of widths sizes (filled_with sizes.width f (absent_in [] 0))).answer 0 (λ z. let e = own_answer in omega arith)

    nothing_recovers : recovering widths sizes f [] ≡ 0
    unfolding recovering fillings list_below
    nothing_recovers = rw alone_fails

    -- by 1 and 2 as recovery, and else by 20
    its_answer : doubtful_answer widths sizes f [] out ≡ cond (ltb n 2) (suc n) 20
    unfolding doubtful_answer recover_answer
    its_answer = rw (doubtful_answer, same_fits, none_listed, nothing_recovers)
        (by (volume_fits widths sizes own) (table_sound sizes.pages sizes.slots (slot_at f.words))
        (some_conflict sizes.slots (slot_at f.words) (twins sizes.width f) || not (all_below sizes.pages (has_record sizes.slots (slot_at f.words))))
        (some_below sizes.pages (λ p. is_astray (walk_of sizes.pages sizes.slots (slot_at f.words) p).end))
        (not (all_below sizes.pages (λ p. has_version sizes.slots (slot_at f.words) p (committed_of sizes.pages sizes.slots (slot_at f.words) p)))) no)
      where
        by : (a b c d e : Bool) → (not a ⇒ 1 otherwise not b ⇒ 2 otherwise c ⇒ 3 otherwise d ⇒ 4 otherwise e ⇒ 14 otherwise 0) ≡ suc n → (not a ⇒ 1 otherwise not b ⇒ 2 otherwise 20) ≡ cond (ltb n 2) (suc n) 20
        by false b c d e h = let z : n ≡ 0 = omega arith in rw z
        by true false c d e h = let z : n ≡ 1 = omega arith in rw z
        by true true true d e h = let z : n ≡ 2 = omega arith in rw z
        by true true false true e h = let z : n ≡ 3 = omega arith in rw z
        by true true false false true h = let z : n ≡ 13 = omega arith in rw z
        by true true false false false h = absurd (omega arith)

    refused_so : doubtful_outcome widths sizes f [] out ≡ record { answer = cond (ltb n 2) (suc n) 20; second = 0; left = out }
    unfolding doubtful_outcome
    refused_so =
        settled_refused (doubtful_answer widths sizes f [] out) 0 _ out _ (λ z. some (ltb n 2) (sym its_answer ∙ z))
        ∙ ap (λ (a : ℕ). record { answer = a; second = 0; left = out }) its_answer
      where
        some : (b : Bool) → cond b (suc n) 20 ≡ 0 → ⊥
        some true e = omega arith
        some false e = omega arith

pub empty_list_recovers : EmptyListRecovers
empty_list_recovers widths sizes f state out sized enough = record {
  recovered = λ e. own_versions widths sizes f state out sized enough (sym (recover_answers_lem widths sizes f state) ∙ e);
  refused = λ n e. refused_so widths sizes f state out sized enough n (sym (recover_answers_lem widths sizes f state) ∙ e);
}

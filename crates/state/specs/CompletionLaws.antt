-- A write completes a cycle exactly where each other page is written; the search for one that is not.
use Prim.Native.Nat.{ℕ, suc, ◌<◌}
use native.Mathlib.Omega.{arith}
use Rattle.std.proofs.Common.{add-one, ◌∙◌}
use Rattle.std.specs.Prelude.{◌≡◌, refl, ◌↔◌, List, false}
use Rattle.std.proofs.Math.Path.{sym, ap, subst}
use Rattle.std.proofs.Math.Bool.{true, cond}
use Rattle.std.proofs.Math.Dec.{eqb}
use borrow.Author.Tests.{eqb-true}
use Rattle.bounded.specs.Choice.{on_lt, on_eq, on_test, never}
use Rattle.bounded.specs.Below.{all_below}
use Rattle.bounded.specs.BelowLaws.{all_zero, all_more, all_at, all_of, some_at}
use Rattle.bounded.specs.Parts.{put_part}
use Rattle.state.specs.declared.PageState.{PageState}
use Rattle.state.specs.State.{page_words, state_at, state_words, is_written}
use Rattle.state.specs.StateLaws.{StateFacts, state_words_at, state_words_cong, put_state_words}
use Rattle.state.specs.Cycle.{along, on_cycle, cycle_written}
use Rattle.state.specs.Change.{written_page, marked, completes, committed_page, completed, after_write}
use Rattle.state.specs.CycleLaws.{marked_at, marked_other, Flies, along_marked, next_apart, next_flies, on_cycle_of, on_cycle_flies, on_cycle_refl, on_cycle_next, on_cycle_same, on_cycle_marked}
use Rattle.state.specs.WalkLaws.{steps_start, steps_next, steps_last, steps_below, steps_there, walkable_facts, walkable_flies}
use Rattle.state.specs.Walk.{lap, steps, written_to, ended_page, cycle_ended, left, Walkable, Searching}

-- "If its whole ring is then written": each page but p is
module _ (P : ℕ) (st : ℕ → PageState) (sound : StateFacts P st) (p : ℕ) (f : Flies P st p) where
  marked_written : is_written (marked st p p) ≡ true
  unfolding written_page is_written
  marked_written = rw (marked_at st p)

  pub completes_of : ((q : ℕ) → on_cycle P st p q ≡ true → ¬ (q ≡ p) → is_written (st q) ≡ true) → completes P st p ≡ true
  unfolding completes cycle_written
  completes_of h =
      all_of (λ k. is_written (marked st p (along (marked st p) p k))) P
      (λ k l. subst (λ (x : ℕ). is_written (marked st p x) ≡ true) (sym (along_marked st p p k))
      (on_eq (along st p k) p
      (λ e. subst (λ (x : ℕ). is_written (marked st p x) ≡ true) (sym e) marked_written)
      (λ d. ap is_written (marked_other st p (along st p k) d) ∙ h (along st p k) (on_cycle_of P st sound p f k (along st p k) refl) d)))

  pub completes_at : completes P st p ≡ true → (q : ℕ) → on_cycle P st p q ≡ true → ¬ (q ≡ p) → is_written (st q) ≡ true
  unfolding completes cycle_written on_cycle
  completes_at e q on d =
      let w = some_at (λ k. eqb (along st p k) q) P on in
      let there : along (marked st p) p w.0 ≡ q = along_marked st p p w.0 ∙ eqb-true (along st p w.0) q w.2 in
      ap is_written (sym (marked_other st p q d))
      ∙ subst (λ (x : ℕ). is_written (marked st p x) ≡ true) there (all_at (λ k. is_written (marked st p (along (marked st p) p k))) P w.0 e w.1)

  pub completes_means : (completes P st p ≡ true) ↔ ((q : ℕ) → on_cycle P st p q ≡ true → ¬ (q ≡ p) → is_written (st q) ≡ true)
  completes_means = (completes_at, completes_of)

  -- some other page of the cycle is not written
  pub completes_not : (q : ℕ) → on_cycle P st p q ≡ true → ¬ (q ≡ p) → is_written (st q) ≡ false → completes P st p ≡ false
  completes_not q on d e = on_test (completes P st p) (λ c. absurd (never (completes_at c q on d) e)) (λ c. c)

  -- ---- the search for a page that is not written, from the page behind p on

  behind : Flies P st (st p).next
  behind = next_flies P st sound p f

  pub search_starts : (on_cycle P st (st p).next (st p).next ≡ true) × (written_to P st p (st p).next ≡ true)
  unfolding written_to
  search_starts =
      (on_cycle_refl P st sound (st p).next behind, rw (steps_start P st sound (st p).next behind) (all_zero (λ k. is_written (st (along st (st p).next k)))))

  module _ (at : ℕ) (on : on_cycle P st (st p).next at ≡ true) where
    -- at is on p's cycle
    pub search_stays : on_cycle P st p at ≡ true
    search_stays =
        on_cycle_same P st sound p (st p).next at f (on_cycle_next P st sound p f p (on_cycle_refl P st sound p f)) ∙ on

    pub search_more : ¬ (at ≡ p) → written_to P st p at ≡ true → is_written (st at) ≡ true → (on_cycle P st (st p).next (st at).next ≡ true) × (written_to P st p (st at).next ≡ true)
    unfolding written_to
    search_more d e w =
        let g = on_cycle_flies P st sound (st p).next behind at on in
        let n = steps P st (st p).next at in (
          on_cycle_next P st sound (st p).next behind at on,
          subst (λ (x : ℕ). all_below x (λ k. is_written (st (along st (st p).next k))) ≡ true)
              (add-one n ∙ sym (steps_next P st sound (st p).next behind at on (λ h. d (next_apart P st sound at p g f h))))
              (all_more (λ k. is_written (st (along st (st p).next k))) n e (ap (λ (x : ℕ). is_written (st x)) (steps_there P st sound (st p).next behind at on) ∙ w)),
        )

    pub search_fails : ¬ (at ≡ p) → is_written (st at) ≡ false → completes P st p ≡ false
    search_fails d e = completes_not at search_stays d e

    pub search_ends : at ≡ p → written_to P st p at ≡ true → completes P st p ≡ true
    unfolding written_to
    search_ends same e =
        completes_of
        (λ q o d. let b = on_cycle_next P st sound p f p (on_cycle_refl P st sound p f) in
        let oq : on_cycle P st (st p).next q ≡ true = sym (on_cycle_same P st sound p (st p).next q f b) ∙ o in
        let last : suc (steps P st (st p).next at) ≡ lap P st (st p).next = steps_last P st sound (st p).next behind at on (ap (λ (x : ℕ). (st x).next) same) in
        let below = steps_below P st sound (st p).next behind q oq in
        on_lt (steps P st (st p).next q) (steps P st (st p).next at)
        (λ l. ap (λ (x : ℕ). is_written (st x)) (sym (steps_there P st sound (st p).next behind q oq))
        ∙ all_at (λ k. is_written (st (along st (st p).next k))) (steps P st (st p).next at) (steps P st (st p).next q) e l)
        (λ l. let eq : steps P st (st p).next q ≡ steps P st (st p).next at = omega arith in
        absurd (d (sym (steps_there P st sound (st p).next behind q oq) ∙ ap (along st (st p).next) eq ∙ steps_there P st sound (st p).next behind at on ∙ same))))

  -- ---- an accepted write

  marked_committed : committed_page (marked st p p) ≡ committed_page (st p)
  unfolding committed_page written_page
  marked_committed = rw (marked_at st p)

  -- it completes the cycle: the mark leaves with the flight
  pub after_write_done : completes P st p ≡ true → (q : ℕ) → after_write P st p q ≡ completed P st p q
  unfolding after_write completed
  after_write_done c q =
      rw (c, on_cycle_marked P st p p q)
      (on_eq q p
      (λ same. subst (λ (x : ℕ). cond (on_cycle P st p x) (committed_page (marked st p x)) (marked st p x) ≡ cond (on_cycle P st p x) (committed_page (st x)) (st x)) (sym same)
      (rw (on_cycle_refl P st sound p f) marked_committed))
      (λ d. rw (marked_other st p q d)))

  pub after_write_not : completes P st p ≡ false → (q : ℕ) → after_write P st p q ≡ marked st p q
  unfolding after_write
  after_write_not c q = rw c

-- ---- the loop of the code

module _ (P : ℕ) (words : List ℕ) (page : ℕ) (w : Walkable P words page) where
  facts : StateFacts P (state_at words)
  facts = walkable_facts P words page w

  flying : Flies P (state_at words) page
  flying = walkable_flies P words page w

  next_flying : Flies P (state_at words) (state_at words page).next
  next_flying = next_flies P (state_at words) facts page flying

  pub searching_starts : (s : PageState) → s ≡ state_at words page → Searching P words page s.next
  searching_starts s read =
      let h = search_starts P (state_at words) facts page flying in
      subst (λ (x : PageState). Searching P words page x.next) (sym read) (record { on_cycle_lem = h.0; written = h.1 })

  module _ (at : ℕ) (h : Searching P words page at) where
    pub searching_below : at < P
    searching_below = (on_cycle_flies P (state_at words) facts (state_at words page).next next_flying at h.on_cycle_lem).below

    pub searching_ends : at ≡ page → completes P (state_at words) page ≡ true
    searching_ends e = search_ends P (state_at words) facts page flying at h.on_cycle_lem e h.written

    module _ (away : ¬ (at ≡ page)) (s : PageState) (read : s ≡ state_at words at) where
      pub searching_fails : is_written s ≡ false → completes P (state_at words) page ≡ false
      searching_fails e = search_fails P (state_at words) facts page flying at h.on_cycle_lem away (ap is_written (sym read) ∙ e)

      pub searching_more : is_written s ≡ true → Searching P words page s.next
      searching_more e =
          let m = search_more P (state_at words) facts page flying at h.on_cycle_lem away h.written (ap is_written (sym read) ∙ e) in
          subst (λ (x : PageState). Searching P words page x.next) (sym read) (record { on_cycle_lem = m.0; written = m.1 })

      pub searching_less : left P (state_at words) (state_at words page).next s.next < left P (state_at words) (state_at words page).next at
      unfolding left
      searching_less =
          let st = state_at words in
          let f = on_cycle_flies P st facts (st page).next next_flying at h.on_cycle_lem in
          let e = ap (λ (x : PageState). x.next) read in
          let n = ap (steps P st (st page).next) e ∙ steps_next P st facts (st page).next next_flying at h.on_cycle_lem (λ q. away (next_apart P st facts at page f flying q)) in
          let b = steps_below P st facts (st page).next next_flying at h.on_cycle_lem in
          omega arith

  -- ---- the words after an accepted write

  pub written_done : completes P (state_at words) page ≡ true → (stored : List ℕ) → stored ≡ state_words P (cycle_ended true P (state_at words) page) → stored ≡ state_words P (after_write P (state_at words) page)
  unfolding cycle_ended ended_page completed
  written_done c stored e =
      e
      ∙ state_words_cong P (completed P (state_at words) page) (after_write P (state_at words) page) (λ q l. sym (after_write_done P (state_at words) facts page flying c q))

  pub written_not : completes P (state_at words) page ≡ false → (s t : PageState) (stored : List ℕ) → s ≡ state_at words page → t ≡ written_page s → stored ≡ put_part 4 page (page_words t) words → stored ≡ state_words P (after_write P (state_at words) page)
  unfolding marked
  written_not c s t stored read made put =
      put
      ∙ ap (λ (x : PageState). put_part 4 page (page_words x) words) (made ∙ ap written_page read)
      ∙ ap (put_part 4 page (page_words (written_page (state_at words page)))) (sym (state_words_at P words w.fits))
      ∙ put_state_words P page (written_page (state_at words page)) (state_at words) w.below
      ∙ state_words_cong P (marked (state_at words) page) (after_write P (state_at words) page) (λ q l. sym (after_write_not P (state_at words) facts page flying c q))

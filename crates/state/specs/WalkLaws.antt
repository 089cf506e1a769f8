-- A walk along a cycle, one page a step, changes exactly the pages of the cycle.
use Rattle.std.specs.Prelude.{ℕ, suc, ◌*◌, ◌<◌, ◌≡◌, refl, List, true, cond, length}
use native.Mathlib.Omega.{arith}
use Rattle.std.proofs.Math.Path.{sym, ap}
use Rattle.std.proofs.Common.{◌∙◌, subst}
use Rattle.std.proofs.Math.Dec.{eqb}
use borrow.Author.Tests.{eq-eqb, ne_eqb}
use Rattle.bounded.specs.Choice.{on_lt, on_eq, on_test}
use Rattle.bounded.specs.Below.{some_below}
use Rattle.bounded.specs.BelowLaws.{some_of, some_none, first_is}
use Rattle.bounded.specs.Parts.{put_part, update}
use Rattle.bounded.specs.PartsLaws.{update_same, update_other}
use Rattle.state.specs.declared.PageState.{PageState}
use Rattle.state.specs.State.{page_words, state_at, state_words}
use Rattle.state.specs.StateLaws.{StateFacts, state_sound_facts, state_at_words, state_words_at, state_words_cong, put_state_words, length_state_words}
use Rattle.state.specs.Cycle.{along, on_cycle}
use Rattle.state.specs.CycleLaws.{Flies, along_zero, along_suc, lap_positive, lap_le, lap_home, lap_first, lap_apart, in_lap, on_cycle_at, on_cycle_lap, on_cycle_flies, on_cycle_refl, on_cycle_next}
use Rattle.state.specs.Walk.{pages_in, lap, steps, walked, left, Walkable, Walking}

pub pages_in_lem : (P : ℕ) (words : List ℕ) → length words ≡ 4 * P → pages_in words ≡ P
unfolding pages_in
pages_in_lem P words e = omega arith

-- what a call has tested for P pages holds for the pages that the words are of
pub walkable_in : (P : ℕ) (words : List ℕ) (page : ℕ) → Walkable P words page → Walkable (pages_in words) words page
walkable_in P words page w = subst (λ (n : ℕ). Walkable n words page) (sym (pages_in_lem P words w.fits)) w

pub walkable_facts : (P : ℕ) (words : List ℕ) (page : ℕ) → Walkable P words page → StateFacts P (state_at words)
walkable_facts P words page w = state_sound_facts P (state_at words) w.sound

pub walkable_flies : (P : ℕ) (words : List ℕ) (page : ℕ) → Walkable P words page → Flies P (state_at words) page
walkable_flies P words page w = record { below = w.below; flies = w.flies }

-- ---- along a cycle

-- a page that the walk has come to, and a step to another page
pub walked_yes : (g : PageState → PageState) (st : ℕ → PageState) (p n q k : ℕ) → k < n → along st p k ≡ q → walked g st p n q ≡ g (st q)
unfolding walked
walked_yes g st p n q k l e = rw (some_of (λ k. eqb (along st p k) q) n k l (eq-eqb (along st p k) q e))

pub walked_same : (g : PageState → PageState) (st : ℕ → PageState) (p n q : ℕ) → ¬ (along st p n ≡ q) → walked g st p (suc n) q ≡ walked g st p n q
unfolding walked some_below
walked_same g st p n q d =
    on_test (some_below n (λ k. eqb (along st p k) q)) (λ e. rw e) (λ e. rw (e, ne_eqb (along st p n) q d))

module _ (P : ℕ) (st : ℕ → PageState) (sound : StateFacts P st) (p : ℕ) (f : Flies P st p) where
  pub steps_along : (i : ℕ) → i < lap P st p → steps P st p (along st p i) ≡ i
  unfolding steps
  steps_along i l =
      first_is (λ k. eqb (along st p k) (along st p i)) P i (let b = lap_le P st sound p f in omega arith)
      (eq-eqb (along st p i) (along st p i) refl)
      (λ j m. ne_eqb (along st p j) (along st p i) (lap_apart P st sound p f j i m l))

  pub steps_start : steps P st p p ≡ 0
  steps_start = ap (steps P st p) (sym (along_zero st p)) ∙ steps_along 0 (lap_positive P st sound p f)

  module _ (at : ℕ) (on : on_cycle P st p at ≡ true) where
    -- a page of the cycle, by its place
    placed : (i : ℕ) × (i < lap P st p) × (along st p i ≡ at)
    placed = let w = on_cycle_at P st sound p f at on in let j = in_lap P st sound p f w.0 in (j.0, j.1, j.2 ∙ w.1)

    place_is : steps P st p at ≡ placed.0
    place_is = ap (steps P st p) (sym placed.2) ∙ steps_along placed.0 placed.1

    pub steps_below : steps P st p at < lap P st p
    steps_below = subst (λ (x : ℕ). x < lap P st p) (sym place_is) placed.1

    pub steps_there : along st p (steps P st p at) ≡ at
    steps_there = ap (along st p) place_is ∙ placed.2

    along_next : along st p (suc (steps P st p at)) ≡ (st at).next
    along_next = along_suc st p (steps P st p at) ∙ ap (λ (x : ℕ). (st x).next) steps_there

    -- one step on, until the walk is back
    pub steps_next : ¬ ((st at).next ≡ p) → steps P st p (st at).next ≡ suc (steps P st p at)
    steps_next d =
        on_lt (suc (steps P st p at)) (lap P st p)
        (λ l. ap (steps P st p) (sym along_next) ∙ steps_along (suc (steps P st p at)) l)
        (λ l. absurd (d (sym along_next ∙ ap (along st p) (let b = steps_below in let e : suc (steps P st p at) ≡ lap P st p = omega arith in e) ∙ lap_home P st sound p f)))

    pub steps_last : (st at).next ≡ p → suc (steps P st p at) ≡ lap P st p
    steps_last e =
        on_lt (suc (steps P st p at)) (lap P st p)
        (λ l. absurd (lap_first P st sound p f (suc (steps P st p at)) (omega arith) l (along_next ∙ e)))
        (λ l. let b = steps_below in omega arith)

    -- the page is as it was when the walk comes to it
    pub walked_at : (g : PageState → PageState) → walked g st p (steps P st p at) at ≡ st at
    unfolding walked
    walked_at g =
        rw (some_none (λ k. eqb (along st p k) at) (steps P st p at)
        (λ k l. ne_eqb (along st p k) at (λ e. lap_apart P st sound p f k (steps P st p at) l steps_below (e ∙ sym steps_there))))

    -- and is then changed
    pub walked_more : (g : PageState → PageState) (q : ℕ) → update (walked g st p (steps P st p at)) at (g (st at)) q ≡ walked g st p (suc (steps P st p at)) q
    walked_more g q =
        on_eq q at
        (λ same. ap (update (walked g st p (steps P st p at)) at (g (st at))) same
        ∙ update_same (walked g st p (steps P st p at)) at (g (st at))
        ∙ sym (walked_yes g st p (suc (steps P st p at)) at (steps P st p at) (omega arith) steps_there)
        ∙ ap (walked g st p (suc (steps P st p at))) (sym same))
        (λ other. update_other (walked g st p (steps P st p at)) at (g (st at)) q other
        ∙ sym (walked_same g st p (steps P st p at) q (λ e. other (sym e ∙ steps_there))))

  -- a whole lap changes the whole cycle
  pub walked_lap : (g : PageState → PageState) (q : ℕ) → walked g st p (lap P st p) q ≡ cond (on_cycle P st p q) (g (st q)) (st q)
  unfolding walked
  walked_lap g q = rw (on_cycle_lap P st sound p f q)

  -- ---- what the code's walk does with the words

  -- the walk's words: every page from p up to at, at not included, is changed
  module _ (g : PageState → PageState) (words : List ℕ) (at : ℕ) (on : on_cycle P st p at ≡ true) (so_far : words ≡ state_words P (walked g st p (steps P st p at))) where
    pub walk_reads : state_at words at ≡ st at
    walk_reads =
        ap (λ (ws : List ℕ). state_at ws at) so_far
        ∙ state_at_words P (walked g st p (steps P st p at)) at (on_cycle_flies P st sound p f at on).below
        ∙ walked_at at on g

    pub walk_stores : put_part 4 at (page_words (g (st at))) words ≡ state_words P (walked g st p (suc (steps P st p at)))
    walk_stores =
        ap (put_part 4 at (page_words (g (st at)))) so_far
        ∙ put_state_words P at (g (st at)) (walked g st p (steps P st p at)) (on_cycle_flies P st sound p f at on).below
        ∙ state_words_cong P (update (walked g st p (steps P st p at)) at (g (st at))) (walked g st p (suc (steps P st p at))) (λ q l. walked_more at on g q)

    -- the next page is not the start: the walk goes on there
    pub walk_goes_on : ¬ ((st at).next ≡ p) → put_part 4 at (page_words (g (st at))) words ≡ state_words P (walked g st p (steps P st p (st at).next))
    walk_goes_on d = walk_stores ∙ ap (λ (n : ℕ). state_words P (walked g st p n)) (sym (steps_next at on d))

    -- it is: the whole cycle is changed
    pub walk_ends : (st at).next ≡ p → put_part 4 at (page_words (g (st at))) words ≡ state_words P (λ q. cond (on_cycle P st p q) (g (st q)) (st q))
    walk_ends e =
        walk_stores
        ∙ ap (λ (n : ℕ). state_words P (walked g st p n)) (steps_last at on e)
        ∙ state_words_cong P (walked g st p (lap P st p)) (λ q. cond (on_cycle P st p q) (g (st q)) (st q)) (λ q l. walked_lap g q)

  -- nothing is changed yet at the start
  pub walk_starts : (g : PageState → PageState) → state_words P st ≡ state_words P (walked g st p (steps P st p p))
  unfolding walked some_below
  walk_starts g = state_words_cong P st (walked g st p (steps P st p p)) (λ q l. rw steps_start)

-- ---- the loop of the code

module _ (P : ℕ) (entry : List ℕ) (page : ℕ) (w : Walkable P entry page) (g : PageState → PageState) where
  facts : StateFacts P (state_at entry)
  facts = walkable_facts P entry page w

  flying : Flies P (state_at entry) page
  flying = walkable_flies P entry page w

  pub walking_starts : Walking g P entry page entry page
  walking_starts = record {
    on_cycle_lem = on_cycle_refl P (state_at entry) facts page flying;
    so_far = sym (state_words_at P entry w.fits) ∙ walk_starts P (state_at entry) facts page flying g;
  }

  module _ (words : List ℕ) (at : ℕ) (h : Walking g P entry page words at) where
    pub walking_below : at < P
    walking_below = (on_cycle_flies P (state_at entry) facts page flying at h.on_cycle_lem).below

    pub walking_length : length words ≡ 4 * P
    walking_length = ap length h.so_far ∙ length_state_words P (walked g (state_at entry) page (steps P (state_at entry) page at))

    module _ (s : PageState) (read : s ≡ state_at words at) where
      as_entered : s ≡ state_at entry at
      as_entered = read ∙ walk_reads P (state_at entry) facts page flying g words at h.on_cycle_lem h.so_far

      pub walking_less : ¬ (s.next ≡ page) → left P (state_at entry) page s.next < left P (state_at entry) page at
      unfolding left
      walking_less d =
          let e = ap (λ (x : PageState). x.next) as_entered in
          let n = ap (steps P (state_at entry) page) e ∙ steps_next P (state_at entry) facts page flying at h.on_cycle_lem (λ q. d (e ∙ q)) in
          let b = steps_below P (state_at entry) facts page flying at h.on_cycle_lem in
          omega arith

      module _ (t : PageState) (stored : List ℕ) (made : t ≡ g s) (put : stored ≡ put_part 4 at (page_words t) words) where
        as_changed : stored ≡ put_part 4 at (page_words (g (state_at entry at))) words
        as_changed = put ∙ ap (λ (x : PageState). put_part 4 at (page_words x) words) (made ∙ ap g as_entered)

        pub walking_more : ¬ (s.next ≡ page) → Walking g P entry page stored s.next
        walking_more d =
            let e = ap (λ (x : PageState). x.next) as_entered in
            subst (λ (x : ℕ). Walking g P entry page stored x) (sym e)
            (record {
              on_cycle_lem = on_cycle_next P (state_at entry) facts page flying at h.on_cycle_lem;
              so_far = as_changed ∙ walk_goes_on P (state_at entry) facts page flying g words at h.on_cycle_lem h.so_far (λ q. d (e ∙ q));
            })

        pub walking_ends : s.next ≡ page → stored ≡ state_words P (λ q. cond (on_cycle P (state_at entry) page q) (g (state_at entry q)) (state_at entry q))
        walking_ends q =
            as_changed
            ∙ walk_ends P (state_at entry) facts page flying g words at h.on_cycle_lem h.so_far (sym (ap (λ (x : PageState). x.next) as_entered) ∙ q)

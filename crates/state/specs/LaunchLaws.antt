-- A walk along a list launches exactly the listed pages, and leaves a sound state sound.
use Rattle.std.specs.Prelude.{ℕ, ◌+◌, ◌*◌, ◌≤◌, ◌<◌, ◌≡◌, List, true, false, cond, ltb}
use native.Mathlib.Omega.{arith}
use Rattle.std.proofs.Math.Path.{refl, sym, ap, subst}
use Rattle.std.proofs.Common.{◌∙◌}
use Rattle.std.proofs.Math.Dec.{eqb}
use Rattle.std.proofs.Math.ListN.{length, get_or}
use borrow.Author.Tests.{eqb-true, eq-eqb, ne_eqb, lt-ltb, le-ltb}
use Rattle.bounded.specs.Choice.{on_lt, on_eq, never}
use Rattle.bounded.specs.Limits.{no_number, highest_version}
use Rattle.bounded.specs.Below.{first_below}
use Rattle.bounded.specs.BelowLaws.{first_is, first_passes}
use Rattle.bounded.specs.Parts.{put_part, update}
use Rattle.bounded.specs.PartsLaws.{update_same, update_other}
use Rattle.state.specs.declared.PageState.{PageState}
use Rattle.state.specs.State.{page_words, state_at, state_words, in_flight}
use Rattle.state.specs.StateLaws.{number_flies, PageFacts, StateFacts, state_at_words, state_words_at, state_words_cong, put_state_words, length_state_words}
use Rattle.state.specs.Change.{place_of, following, launched_page, launched}
use Rattle.state.specs.Walk.{launched_first, Launchable, Launching}

module _ (P : ℕ) (st : ℕ → PageState) (pages : List ℕ) (ok : Launchable P st pages) where
  pub place_listed : (i : ℕ) → i < length pages → place_of pages (get_or pages i 0) ≡ i
  unfolding place_of
  place_listed i l =
      first_is (λ k. eqb (get_or pages k 0) (get_or pages i 0)) (length pages) i l (eq-eqb (get_or pages i 0) (get_or pages i 0) refl)
      (λ j m. ne_eqb (get_or pages j 0) (get_or pages i 0) (ok.no_repeats_lem j i m l))

  pub listed_place : (p : ℕ) → place_of pages p < length pages → get_or pages (place_of pages p) 0 ≡ p
  unfolding place_of
  listed_place p l =
      eqb-true (get_or pages (first_below (length pages) (λ k. eqb (get_or pages k 0) p)) 0) p
      (first_passes (λ k. eqb (get_or pages k 0) p) (length pages) l)

  module _ (i : ℕ) (l : i < length pages) where
    launched_at : launched_first i pages st (get_or pages i 0) ≡ st (get_or pages i 0)
    unfolding launched_first
    launched_at = rw (place_listed i l, le-ltb i i (omega arith))

    launched_here : launched_first (i + 1) pages st (get_or pages i 0) ≡ launched_page (st (get_or pages i 0)) (following pages i)
    unfolding launched_first
    launched_here = rw (place_listed i l, lt-ltb i (i + 1) (omega arith))

    launched_more : (q : ℕ) → update (launched_first i pages st) (get_or pages i 0) (launched_page (st (get_or pages i 0)) (following pages i)) q ≡ launched_first (i + 1) pages st q
    unfolding launched_first
    launched_more q =
        on_eq q (get_or pages i 0)
        (λ same. ap (update (launched_first i pages st) (get_or pages i 0) (launched_page (st (get_or pages i 0)) (following pages i))) same
        ∙ update_same (launched_first i pages st) (get_or pages i 0) (launched_page (st (get_or pages i 0)) (following pages i))
        ∙ sym launched_here
        ∙ ap (launched_first (i + 1) pages st) (sym same))
        (λ other. update_other (launched_first i pages st) (get_or pages i 0) (launched_page (st (get_or pages i 0)) (following pages i)) q other
        ∙ on_lt (place_of pages q) i
        (λ b. rw (lt-ltb (place_of pages q) i b, lt-ltb (place_of pages q) (i + 1) (omega arith)))
        (λ b. on_lt i (place_of pages q)
        (λ m. rw (le-ltb (place_of pages q) i b, le-ltb (place_of pages q) (i + 1) (omega arith)))
        (λ m. let e : place_of pages q ≡ i = omega arith in absurd (other (sym (listed_place q (omega arith)) ∙ ap (λ (k : ℕ). get_or pages k 0) e)))))

    module _ (words : List ℕ) (so_far : words ≡ state_words P (launched_first i pages st)) where
      pub launch_reads : state_at words (get_or pages i 0) ≡ st (get_or pages i 0)
      launch_reads =
          ap (λ (ws : List ℕ). state_at ws (get_or pages i 0)) so_far
          ∙ state_at_words P (launched_first i pages st) (get_or pages i 0) (ok.in_range_lem i l)
          ∙ launched_at

      pub launch_stores : put_part 4 (get_or pages i 0) (page_words (launched_page (st (get_or pages i 0)) (following pages i))) words ≡ state_words P (launched_first (i + 1) pages st)
      launch_stores =
          ap (put_part 4 (get_or pages i 0) (page_words (launched_page (st (get_or pages i 0)) (following pages i)))) so_far
          ∙ put_state_words P (get_or pages i 0) (launched_page (st (get_or pages i 0)) (following pages i)) (launched_first i pages st) (ok.in_range_lem i l)
          ∙ state_words_cong P (update (launched_first i pages st) (get_or pages i 0) (launched_page (st (get_or pages i 0)) (following pages i))) (launched_first (i + 1) pages st) (λ q b. launched_more q)

pub launch_starts : (P : ℕ) (st : ℕ → PageState) (pages : List ℕ) → state_words P st ≡ state_words P (launched_first 0 pages st)
unfolding launched_first
launch_starts P st pages = state_words_cong P st (launched_first 0 pages st) (λ p l. rw (le-ltb (place_of pages p) 0 (omega arith)))

pub launch_ends : (st : ℕ → PageState) (pages : List ℕ) → launched_first (length pages) pages st ≡ launched pages st
unfolding launched_first launched
launch_ends st pages = refl

-- ---- the loop of the code

module _ (P : ℕ) (entry pages : List ℕ) (fits : length entry ≡ 4 * P) (ok : Launchable P (state_at entry) pages) where
  pub launching_starts : Launching P entry pages entry 0
  launching_starts = record {
    within = omega arith;
    so_far = sym (state_words_at P entry fits) ∙ launch_starts P (state_at entry) pages;
  }

  module _ (words : List ℕ) (i : ℕ) (h : Launching P entry pages words i) where
    pub launching_length : length words ≡ 4 * P
    launching_length = ap length h.so_far ∙ length_state_words P (launched_first i pages (state_at entry))

    pub launching_ends : length pages ≤ i → words ≡ state_words P (launched pages (state_at entry))
    launching_ends l =
        let e : i ≡ length pages = omega arith in
        h.so_far ∙ ap (λ (n : ℕ). state_words P (launched_first n pages (state_at entry))) e ∙ ap (state_words P) (launch_ends (state_at entry) pages)

    module _ (l : i < length pages) (s : PageState) (read : s ≡ state_at words (get_or pages i 0)) where
      launching_reads : s ≡ state_at entry (get_or pages i 0)
      launching_reads = read ∙ launch_reads P (state_at entry) pages ok i l words h.so_far

      pub launching_version : s.used < highest_version
      launching_version = subst (λ (x : PageState). x.used < highest_version) (sym launching_reads) (ok.version_left i l)

      pub launching_more : (next : ℕ) (t : PageState) (stored : List ℕ) → next ≡ following pages i → t ≡ launched_page s next → stored ≡ put_part 4 (get_or pages i 0) (page_words t) words → Launching P entry pages stored (i + 1)
      launching_more next t stored n e put = record {
        within = omega arith;
        so_far = put ∙ ap (λ (x : PageState). put_part 4 (get_or pages i 0) (page_words x) words) page ∙ launch_stores P (state_at entry) pages ok i l words h.so_far;
      }
        where
          page : t ≡ launched_page (state_at entry (get_or pages i 0)) (following pages i)
          page = e ∙ ap (launched_page s) n ∙ ap (λ (x : PageState). launched_page x (following pages i)) launching_reads

-- ---- a sound state stays sound

-- the place behind place i of n, round the list
behind_place : ℕ → ℕ → ℕ
behind_place n i = cond (ltb (i + 1) n) (i + 1) 0

behind_below : (n i : ℕ) → i < n → behind_place n i < n
unfolding behind_place
behind_below n i l = on_lt (i + 1) n (λ b. rw (lt-ltb (i + 1) n b) b) (λ b. rw (le-ltb (i + 1) n b) (omega arith))

behind_apart : (n i j : ℕ) → i < n → j < n → behind_place n i ≡ behind_place n j → i ≡ j
unfolding behind_place
behind_apart n i j li lj e =
    on_lt (i + 1) n
    (λ a. on_lt (j + 1) n (λ b. let x = inner i a in let y = inner j b in omega arith) (λ b. let x = inner i a in let y = last j b in absurd (omega arith)))
    (λ a. on_lt (j + 1) n (λ b. let x = last i a in let y = inner j b in absurd (omega arith)) (λ b. omega arith))
  where
    inner : (k : ℕ) → k + 1 < n → behind_place n k ≡ k + 1
    inner k h = rw (lt-ltb (k + 1) n h)

    last : (k : ℕ) → n ≤ k + 1 → behind_place n k ≡ 0
    last k h = rw (le-ltb (k + 1) n h)

module _ (P : ℕ) (small : P ≤ no_number) (st : ℕ → PageState) (sound : StateFacts P st) (pages : List ℕ) (ok : Launchable P st pages) where
  -- a listed page has a listed next page
  next_of : ℕ → ℕ
  next_of p = following pages (place_of pages p)

  next_listed : (p : ℕ) → place_of pages p < length pages → next_of p ≡ get_or pages (behind_place (length pages) (place_of pages p)) 0
  unfolding next_of following behind_place
  next_listed p l = refl

  next_place : (p : ℕ) → place_of pages p < length pages → place_of pages (next_of p) ≡ behind_place (length pages) (place_of pages p)
  next_place p l = ap (place_of pages) (next_listed p l) ∙ place_listed P st pages ok (behind_place (length pages) (place_of pages p)) (behind_below (length pages) (place_of pages p) l)

  next_in : (p : ℕ) → place_of pages p < length pages → place_of pages (next_of p) < length pages
  next_in p l = subst (λ (x : ℕ). x < length pages) (sym (next_place p l)) (behind_below (length pages) (place_of pages p) l)

  next_in_range : (p : ℕ) → place_of pages p < length pages → next_of p < P
  next_in_range p l = subst (λ (x : ℕ). x < P) (sym (next_listed p l)) (ok.in_range_lem (behind_place (length pages) (place_of pages p)) (behind_below (length pages) (place_of pages p) l))

  rested : (p : ℕ) → place_of pages p < length pages → in_flight (st p) ≡ false
  rested p l = subst (λ (x : ℕ). in_flight (st x) ≡ false) (listed_place P st pages ok p l) (ok.resting (place_of pages p) l)

  launched_on : (p : ℕ) → place_of pages p < length pages → launched pages st p ≡ launched_page (st p) (next_of p)
  unfolding launched next_of
  launched_on p l = rw (lt-ltb (place_of pages p) (length pages) l)

  launched_off : (p : ℕ) → length pages ≤ place_of pages p → launched pages st p ≡ st p
  unfolding launched
  launched_off p l = rw (le-ltb (place_of pages p) (length pages) l)

  launched_next : (p : ℕ) → place_of pages p < length pages → (launched pages st p).next ≡ next_of p
  unfolding launched_page
  launched_next p l = ap (λ (s : PageState). s.next) (launched_on p l)

  launched_flies : (p : ℕ) → place_of pages p < length pages → in_flight (launched pages st p) ≡ true
  launched_flies p l = number_flies (launched pages st p) (λ e. let a = launched_next p l in let b = next_in_range p l in omega arith)

  -- a page in flight before is not listed, nor is its next page
  flying_off : (p : ℕ) → in_flight (st p) ≡ true → length pages ≤ place_of pages p
  flying_off p e = on_lt (place_of pages p) (length pages) (λ l. absurd (never e (rested p l))) (λ l. l)

  launched_facts : (p : ℕ) → p < P → PageFacts P (launched pages st) (launched pages st p)
  unfolding launched_page
  launched_facts p b =
      on_lt (place_of pages p) (length pages)
      (λ l. subst (λ (s : PageState). PageFacts P (launched pages st) s) (sym (launched_on p l))
      (record {
        committed_used = let h = (sound.page p b).committed_used in omega arith;
        used_highest = let h = version p l in omega arith;
        flies_below_used = λ e. let h = (sound.page p b).committed_used in omega arith;
        next_below = λ e. next_in_range p l;
        next_flies = λ e. launched_flies (next_of p) (next_in p l);
        written_bit = omega arith;
        written_flies = λ e. absurd (omega arith);
      }))
      (λ l. subst (λ (s : PageState). PageFacts P (launched pages st) s) (sym (launched_off p l))
      (record {
        committed_used = (sound.page p b).committed_used;
        used_highest = (sound.page p b).used_highest;
        flies_below_used = (sound.page p b).flies_below_used;
        next_below = (sound.page p b).next_below;
        next_flies = λ e. let g = (sound.page p b).next_flies e in ap in_flight (launched_off (st p).next (flying_off (st p).next g)) ∙ g;
        written_bit = (sound.page p b).written_bit;
        written_flies = (sound.page p b).written_flies;
      }))
    where
      version : (p : ℕ) → place_of pages p < length pages → (st p).used < highest_version
      version p l = subst (λ (x : ℕ). (st x).used < highest_version) (listed_place P st pages ok p l) (ok.version_left (place_of pages p) l)

  -- no listed page's next is the next of a page in flight before
  mixed : (p q : ℕ) → q < P → place_of pages p < length pages → length pages ≤ place_of pages q → in_flight (launched pages st q) ≡ true → (launched pages st p).next ≡ (launched pages st q).next → ⊥
  mixed p q b l m f e =
      let u : launched pages st q ≡ st q = launched_off q m in
      let g : in_flight (st (st q).next) ≡ true = (sound.page q b).next_flies (ap in_flight (sym u) ∙ f) in
      let same : next_of p ≡ (st q).next = sym (launched_next p l) ∙ e ∙ ap (λ (s : PageState). s.next) u in
      never g (subst (λ (x : ℕ). in_flight (st x) ≡ false) same (rested (next_of p) (next_in p l)))

  launched_apart : (p q : ℕ) → p < P → q < P → in_flight (launched pages st p) ≡ true → in_flight (launched pages st q) ≡ true → (launched pages st p).next ≡ (launched pages st q).next → p ≡ q
  launched_apart p q bp bq fp fq e =
      on_lt (place_of pages p) (length pages)
      (λ l. on_lt (place_of pages q) (length pages)
      (λ m. let same : place_of pages p ≡ place_of pages q = behind_apart (length pages) (place_of pages p) (place_of pages q) l m
      (sym (next_place p l) ∙ ap (place_of pages) (sym (launched_next p l) ∙ e ∙ launched_next q m) ∙ next_place q m) in
      sym (listed_place P st pages ok p l) ∙ ap (λ (k : ℕ). get_or pages k 0) same ∙ listed_place P st pages ok q m)
      (λ m. absurd (mixed p q bq l m fq e)))
      (λ l. on_lt (place_of pages q) (length pages)
      (λ m. absurd (mixed q p bp m l fp (sym e)))
      (λ m. let u = launched_off p l in let v = launched_off q m in
      sound.apart p q bp bq (ap in_flight (sym u) ∙ fp) (ap in_flight (sym v) ∙ fq) (ap (λ (s : PageState). s.next) (sym u) ∙ e ∙ ap (λ (s : PageState). s.next) v)))

  pub launched_sound : StateFacts P (launched pages st)
  launched_sound = record { page = launched_facts; apart = launched_apart }

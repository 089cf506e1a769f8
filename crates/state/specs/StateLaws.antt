-- The words of a state and the state are the same thing; and what a sound state is, as facts.
use Rattle.std.specs.Prelude.{ℕ, ◌+◌, ◌*◌, ◌-◌, ◌≤◌, ◌<◌, ◌≡◌, refl, ◌⊎◌, ◌↔◌, List, [], ◌∷◌, Bool, true, ◌&&◌, ◌||◌, ltb, leb, eqb, length, get_or}
use Rattle.std.proofs.Common.{add-zero, sym, ap, ◌∙◌, subst, inl, inr}
use native.Mathlib.Omega.{arith}
use Rattle.std.proofs.Math.Path.{fun_ext}
use Rattle.std.proofs.Math.Bool.{false, not}
use borrow.Rule.Slice.PartMut.{put_mid, Post-is}
use borrow.Author.Tests.{ltb-true, leb-true, eqb-true, lt-ltb, le-leb, eq-eqb, ne_eqb, not-true}
use Rattle.bounded.specs.Limits.{no_number, highest_version}
use Rattle.bounded.specs.Choice.{on_lt, on_eq, on_test, never, both, both_left, both_right, either, either_left, either_right, not_yes, not_no}
use Rattle.bounded.specs.Below.{all_below}
use Rattle.bounded.specs.BelowLaws.{all_at, all_of}
use Rattle.bounded.specs.Parts.{part, put_at, put_part, update}
use Rattle.bounded.specs.PartsLaws.{update_same, update_other, part_put_same, part_put_other, part_length, part_at, length_put_part, length_join_parts, part_join_parts, join_parts_cong, join_parts_parts}
use Rattle.state.specs.declared.PageState.{PageState}
use Rattle.state.specs.State.{page_words, page_of, state_at, state_words, in_flight, versions_sound, flight_sound, written_sound, page_sound, share_next, nexts_apart, state_sound}

-- ---- words

pub page_of_words : (s : PageState) → page_of (page_words s) ≡ s
unfolding page_of page_words
page_of_words s = refl

pub page_words_of : (ws : List ℕ) → length ws ≡ 4 → page_words (page_of ws) ≡ ws
unfolding page_of page_words
page_words_of (a ∷ b ∷ c ∷ d ∷ []) e = refl
page_words_of (a ∷ b ∷ c ∷ d ∷ x ∷ ws) e = absurd (omega arith)
page_words_of (a ∷ b ∷ c ∷ []) e = absurd (omega arith)
page_words_of (a ∷ b ∷ []) e = absurd (omega arith)
page_words_of (a ∷ []) e = absurd (omega arith)
page_words_of [] e = absurd (omega arith)

pub length_page_words : (s : PageState) → length (page_words s) ≡ 4
unfolding page_words
length_page_words s = refl

pub length_state_words : (P : ℕ) (st : ℕ → PageState) → length (state_words P st) ≡ 4 * P
unfolding state_words
length_state_words P st = length_join_parts 4 P (λ p. page_words (st p)) (λ p. length_page_words (st p))

-- a state, written down and read
pub state_at_words : (P : ℕ) (st : ℕ → PageState) (p : ℕ) → p < P → state_at (state_words P st) p ≡ st p
unfolding state_at state_words
state_at_words P st p h =
    ap page_of (part_join_parts 4 P p (λ q. page_words (st q)) (λ q. length_page_words (st q)) h) ∙ page_of_words (st p)

-- words, read and written down
pub state_words_at : (P : ℕ) (words : List ℕ) → length words ≡ 4 * P → state_words P (state_at words) ≡ words
unfolding state_at state_words
state_words_at P words e =
    join_parts_cong P (λ p. page_words (page_of (part 4 p words))) (λ p. part 4 p words)
    (λ p h. page_words_of (part 4 p words) (part_length 4 P p words h e))
    ∙ join_parts_parts 4 P words e

-- the words depend on the pages below P alone
pub state_words_cong : (P : ℕ) (st st' : ℕ → PageState) → ((p : ℕ) → p < P → st p ≡ st' p) → state_words P st ≡ state_words P st'
unfolding state_words
state_words_cong P st st' h = join_parts_cong P (λ p. page_words (st p)) (λ p. page_words (st' p)) (λ p l. ap page_words (h p l))

-- page p's words stand from 4p on
pub state_at_reads : (words : List ℕ) (p : ℕ) → state_at words p ≡ record { committed = get_or words (4 * p) 0; used = get_or words (4 * p + 1) 0; next = get_or words (4 * p + 2) 0; written = get_or words (4 * p + 3) 0 }
unfolding state_at page_of
state_at_reads words p =
    rw (part_at 4 p words 0 0 (omega arith), part_at 4 p words 1 0 (omega arith), part_at 4 p words 2 0 (omega arith), part_at 4 p words 3 0 (omega arith), add-zero)

-- a page's words lent as `&mut words[4p..4p + 4]`, and given back as those of s
pub page_stored : (words ys : List ℕ) (p : ℕ) (s : PageState) → ys ≡ page_words s → put_mid (4 * p) (4 * p + 4 - 4 * p) words ys ≡ put_part 4 p (page_words s) words
unfolding put_part put_at page_words
page_stored words ys p s e = rw (Post-is (4 * p) (4 * p + 4) words (omega arith), e)

-- ---- one page stored

pub state_at_put : (P p : ℕ) (s : PageState) (words : List ℕ) → p < P → length words ≡ 4 * P → state_at (put_part 4 p (page_words s) words) ≡ update (state_at words) p s
unfolding state_at
state_at_put P p s words h e = fun_ext at
  where
    at : (q : ℕ) → page_of (part 4 q (put_part 4 p (page_words s) words)) ≡ update (state_at words) p s q
    at q =
        on_eq q p
        (λ same. ap (λ (x : ℕ). page_of (part 4 x (put_part 4 p (page_words s) words))) same
        ∙ ap page_of (part_put_same 4 P p (page_words s) words h (length_page_words s) e)
        ∙ page_of_words s
        ∙ sym (update_same (state_at words) p s)
        ∙ ap (update (state_at words) p s) (sym same))
        (λ other. ap page_of (part_put_other 4 P p q (page_words s) words h (length_page_words s) e other)
        ∙ sym (update_other (state_at words) p s q other))

pub length_put : (P p : ℕ) (s : PageState) (words : List ℕ) → p < P → length words ≡ 4 * P → length (put_part 4 p (page_words s) words) ≡ 4 * P
length_put P p s words h e = length_put_part 4 P p (page_words s) words h (length_page_words s) e ∙ e

pub put_state_words : (P p : ℕ) (s : PageState) (st : ℕ → PageState) → p < P → put_part 4 p (page_words s) (state_words P st) ≡ state_words P (update st p s)
put_state_words P p s st h =
    let l = length_state_words P st in
    sym (state_words_at P (put_part 4 p (page_words s) (state_words P st)) (length_put P p s (state_words P st) h l))
    ∙ ap (state_words P) (state_at_put P p s (state_words P st) h l)
    ∙ state_words_cong P (update (state_at (state_words P st)) p s) (update st p s)
    (λ q b. on_eq q p
    (λ same. ap (update (state_at (state_words P st)) p s) same
    ∙ update_same (state_at (state_words P st)) p s
    ∙ sym (update_same st p s)
    ∙ ap (update st p s) (sym same))
    (λ other. update_other (state_at (state_words P st)) p s q other ∙ state_at_words P st q b ∙ sym (update_other st p s q other)))

-- ---- in flight, written

-- "a implies b", as a test
pub when : (a b : Bool) → (not a || b) ≡ true → a ≡ true → b ≡ true
when true b e h = e
when false b e h = absurd (never h refl)

pub when_of : (a b : Bool) → (a ≡ true → b ≡ true) → (not a || b) ≡ true
when_of true b h = h refl
when_of false b h = refl

pub number_flies : (s : PageState) → ¬ (s.next ≡ no_number) → in_flight s ≡ true
unfolding in_flight
number_flies s h = not_no (ne_eqb s.next no_number h)

pub none_rests : (s : PageState) → s.next ≡ no_number → in_flight s ≡ false
unfolding in_flight
none_rests s h = not_yes (eq-eqb s.next no_number h)

-- two pages in flight with the same next page
pub share_next_means : (s u : PageState) → share_next s u ≡ true → (in_flight s ≡ true) × (in_flight u ≡ true) × (s.next ≡ u.next)
unfolding share_next
share_next_means s u e =
    let r = both_right (in_flight s) (in_flight u && eqb s.next u.next) e in
    (both_left (in_flight s) (in_flight u && eqb s.next u.next) e, both_left (in_flight u) (eqb s.next u.next) r, eqb-true s.next u.next (both_right (in_flight u) (eqb s.next u.next) r))

pub share_next_of : (s u : PageState) → in_flight s ≡ true → in_flight u ≡ true → s.next ≡ u.next → share_next s u ≡ true
unfolding share_next
share_next_of s u f g e = both f (both g (eq-eqb s.next u.next e))

-- ---- a sound state

-- what document 01 asks of each page
pub record PageFacts (P : ℕ) (st : ℕ → PageState) (s : PageState) : Type 0 where
  pub committed_used : s.committed ≤ s.used
  pub used_highest : s.used ≤ highest_version
  pub flies_below_used : in_flight s ≡ true → s.committed < s.used
  pub next_below : in_flight s ≡ true → s.next < P
  pub next_flies : in_flight s ≡ true → in_flight (st s.next) ≡ true
  pub written_bit : s.written ≤ 1
  pub written_flies : s.written ≡ 1 → in_flight s ≡ true

-- no two pages in flight share a next page
abbrev pub NextsApart : ℕ → (ℕ → PageState) → Type 0
NextsApart P st =
    (p q : ℕ) → p < P → q < P → in_flight (st p) ≡ true → in_flight (st q) ≡ true → (st p).next ≡ (st q).next → p ≡ q

pub record StateFacts (P : ℕ) (st : ℕ → PageState) : Type 0 where
  pub page : (p : ℕ) → p < P → PageFacts P st (st p)
  pub apart : NextsApart P st

module _ (P : ℕ) (st : ℕ → PageState) where
  pub page_sound_facts : (p : ℕ) → page_sound P st p ≡ true → PageFacts P st (st p)
  unfolding page_sound versions_sound flight_sound written_sound
  page_sound_facts p e = record {
    committed_used = leb-true s.committed s.used (both_left (leb s.committed s.used) (leb s.used highest_version) versions);
    used_highest = leb-true s.used highest_version (both_right (leb s.committed s.used) (leb s.used highest_version) versions);
    flies_below_used = λ f. ltb-true s.committed s.used (both_left (ltb s.committed s.used) (ltb s.next P && in_flight (st s.next)) (flying f));
    next_below = λ f. ltb-true s.next P (both_left (ltb s.next P) (in_flight (st s.next)) (onward f));
    next_flies = λ f. both_right (ltb s.next P) (in_flight (st s.next)) (onward f);
    written_bit = bit (either (eqb s.written 0) (eqb s.written 1 && in_flight s) written);
    written_flies = flag (either (eqb s.written 0) (eqb s.written 1 && in_flight s) written);
  }
    where
      s : PageState
      s = st p

      versions : versions_sound s ≡ true
      versions = both_left (versions_sound s) (flight_sound P st s && written_sound s) e

      flight : flight_sound P st s ≡ true
      flight = both_left (flight_sound P st s) (written_sound s) (both_right (versions_sound s) (flight_sound P st s && written_sound s) e)

      written : written_sound s ≡ true
      written = both_right (flight_sound P st s) (written_sound s) (both_right (versions_sound s) (flight_sound P st s && written_sound s) e)

      flying : in_flight s ≡ true → (ltb s.committed s.used && (ltb s.next P && in_flight (st s.next))) ≡ true
      flying f = when (in_flight s) (ltb s.committed s.used && (ltb s.next P && in_flight (st s.next))) flight f

      onward : in_flight s ≡ true → (ltb s.next P && in_flight (st s.next)) ≡ true
      onward f = both_right (ltb s.committed s.used) (ltb s.next P && in_flight (st s.next)) (flying f)

      bit : (eqb s.written 0 ≡ true) ⊎ ((eqb s.written 1 && in_flight s) ≡ true) → s.written ≤ 1
      bit (inl z) = let q = eqb-true s.written 0 z in omega arith
      bit (inr o) = let q = eqb-true s.written 1 (both_left (eqb s.written 1) (in_flight s) o) in omega arith

      flag : (eqb s.written 0 ≡ true) ⊎ ((eqb s.written 1 && in_flight s) ≡ true) → s.written ≡ 1 → in_flight s ≡ true
      flag (inl z) w = let q = eqb-true s.written 0 z in absurd (omega arith)
      flag (inr o) w = both_right (eqb s.written 1) (in_flight s) o

  pub facts_page_sound : (p : ℕ) → PageFacts P st (st p) → page_sound P st p ≡ true
  unfolding page_sound versions_sound flight_sound written_sound
  facts_page_sound p f =
      both
      (both (le-leb s.committed s.used f.committed_used) (le-leb s.used highest_version f.used_highest))
      (both
      (when_of (in_flight s) (ltb s.committed s.used && (ltb s.next P && in_flight (st s.next)))
      (λ h. both (lt-ltb s.committed s.used (f.flies_below_used h)) (both (lt-ltb s.next P (f.next_below h)) (f.next_flies h))))
      (on_eq s.written 0
      (λ z. either_left (eqb s.written 1 && in_flight s) (eq-eqb s.written 0 z))
      (λ z. let o : s.written ≡ 1 = let b = f.written_bit in omega arith in
      either_right (eqb s.written 0) (both (eq-eqb s.written 1 o) (f.written_flies o)))))
    where
      s : PageState
      s = st p

  pub nexts_apart_fact : nexts_apart P st ≡ true → NextsApart P st
  unfolding nexts_apart
  nexts_apart_fact e p q hp hq fp fq n =
      on_lt p q
      (λ l. absurd (never (share_next_of (st p) (st q) fp fq n) (clear q p hq l)))
      (λ l. on_lt q p (λ m. absurd (never (share_next_of (st q) (st p) fq fp (sym n)) (clear p q hp m))) (λ m. omega arith))
    where
      clear : (p q : ℕ) → p < P → q < p → share_next (st q) (st p) ≡ false
      clear p q hp l =
          not-true (share_next (st q) (st p))
          (all_at (λ q. not (share_next (st q) (st p))) p q (all_at (λ p. all_below p (λ q. not (share_next (st q) (st p)))) P p e hp) l)

  pub fact_nexts_apart : NextsApart P st → nexts_apart P st ≡ true
  unfolding nexts_apart
  fact_nexts_apart h =
      all_of (λ p. all_below p (λ q. not (share_next (st q) (st p)))) P
      (λ p hp. all_of (λ q. not (share_next (st q) (st p))) p
      (λ q l. not_no (on_test (share_next (st q) (st p))
      (λ e. let m = share_next_means (st q) (st p) e in
      let same : q ≡ p = h q p (omega arith) hp m.0 m.1 m.2 in absurd (omega arith))
      (λ e. e))))

  pub state_sound_facts : state_sound P st ≡ true → StateFacts P st
  unfolding state_sound
  state_sound_facts e = record {
    page = λ p h. page_sound_facts p (all_at (page_sound P st) P p (both_left (all_below P (page_sound P st)) (nexts_apart P st) e) h);
    apart = nexts_apart_fact (both_right (all_below P (page_sound P st)) (nexts_apart P st) e);
  }

  pub facts_state_sound : StateFacts P st → state_sound P st ≡ true
  unfolding state_sound
  facts_state_sound f =
      both (all_of (page_sound P st) P (λ p h. facts_page_sound p (f.page p h))) (fact_nexts_apart f.apart)

  -- The state "is sound if …", exactly
  pub state_sound_means : (state_sound P st ≡ true) ↔ StateFacts P st
  state_sound_means = (state_sound_facts, facts_state_sound)

-- soundness depends on the pages below P alone
pub facts_cong : (P : ℕ) (st st' : ℕ → PageState) → ((p : ℕ) → p < P → st p ≡ st' p) → StateFacts P st → StateFacts P st'
facts_cong P st st' h f = record {
  page = λ p l. subst (λ (s : PageState). PageFacts P st' s) (h p l) (record {
    committed_used = (f.page p l).committed_used;
    used_highest = (f.page p l).used_highest;
    flies_below_used = (f.page p l).flies_below_used;
    next_below = (f.page p l).next_below;
    next_flies = λ e. ap in_flight (sym (h (st p).next ((f.page p l).next_below e))) ∙ (f.page p l).next_flies e;
    written_bit = (f.page p l).written_bit;
    written_flies = (f.page p l).written_flies;
  });
  apart = λ p q lp lq fp fq e. f.apart p q lp lq (ap in_flight (h p lp) ∙ fp) (ap in_flight (h q lq) ∙ fq) (ap (λ (s : PageState). s.next) (h p lp) ∙ e ∙ ap (λ (s : PageState). s.next) (sym (h q lq)));
}

-- The cycle through a page in flight of a sound state: the walk along next stays in flight, never merges, and is back at its start within P steps.
use Prim.Native.Nat.{ℕ, zero, suc, ◌+◌, ◌-◌, ◌≤◌, ◌<◌}
use native.Mathlib.Omega.{arith}
use Rattle.std.specs.Prelude.{◌≡◌, ◌↔◌, true}
use Rattle.std.proofs.Math.Path.{refl, sym, ap, subst}
use Rattle.std.proofs.Common.{◌∙◌}
use Rattle.std.proofs.Math.Dec.{eqb}
use borrow.Author.Tests.{eqb-true, eq-eqb}
use Rattle.bounded.specs.Choice.{on_lt, on_eq, never, same_test}
use Rattle.bounded.specs.Below.{some_below, first_below}
use Rattle.bounded.specs.BelowLaws.{all_at, all_of, some_of, some_at, some_cong, first_passes, first_none_before, first_found}
use Rattle.bounded.specs.PartsLaws.{update_same, update_other}
use Rattle.bounded.specs.Pigeonhole.{comes_back_lem}
use Rattle.state.specs.declared.PageState.{PageState}
use Rattle.state.specs.State.{in_flight, is_written}
use Rattle.state.specs.StateLaws.{StateFacts}
use Rattle.state.specs.Cycle.{along, on_cycle, cycle_written}
use Rattle.state.specs.Change.{written_page, marked}
use Rattle.state.specs.Walk.{lap}

-- ---- walking

module _ (st : ℕ → PageState) where
  pub along_zero : (p : ℕ) → along st p 0 ≡ p
  unfolding along
  along_zero p = refl

  pub along_suc : (p k : ℕ) → along st p (suc k) ≡ (st (along st p k)).next
  unfolding along
  along_suc p k = refl

  -- i steps and then k are i + k
  pub along_add : (p i k : ℕ) → along st p (i + k) ≡ along st (along st p i) k
  unfolding along
  along_add p i zero = ap (along st p) (let e : i + 0 ≡ i = omega arith in e)
  along_add p i (suc k) =
      ap (along st p) (let e : i + suc k ≡ suc (i + k) = omega arith in e) ∙ ap (λ (x : ℕ). (st x).next) (along_add p i k)

  -- the first step apart from the rest
  pub along_front : (p k : ℕ) → along st p (suc k) ≡ along st (st p).next k
  unfolding along
  along_front p zero = refl
  along_front p (suc k) = ap (λ (x : ℕ). (st x).next) (along_front p k)

-- a walk depends on next alone
pub along_cong : (st st' : ℕ → PageState) → ((q : ℕ) → (st q).next ≡ (st' q).next) → (p k : ℕ) → along st p k ≡ along st' p k
unfolding along
along_cong st st' h p zero = refl
along_cong st st' h p (suc k) = ap (λ (x : ℕ). (st x).next) (along_cong st st' h p k) ∙ h (along st' p k)

pub on_cycle_cong : (P : ℕ) (st st' : ℕ → PageState) → ((q : ℕ) → (st q).next ≡ (st' q).next) → (p q : ℕ) → on_cycle P st p q ≡ on_cycle P st' p q
unfolding on_cycle
on_cycle_cong P st st' h p q = some_cong P (λ k l. ap (λ (x : ℕ). eqb x q) (along_cong st st' h p k))

-- the marked page, and any other
pub marked_at : (st : ℕ → PageState) (p : ℕ) → marked st p p ≡ written_page (st p)
unfolding marked
marked_at st p = update_same st p (written_page (st p))

pub marked_other : (st : ℕ → PageState) (p q : ℕ) → ¬ (q ≡ p) → marked st p q ≡ st q
unfolding marked
marked_other st p q d = update_other st p (written_page (st p)) q d

-- marking a page written leaves every next page as it was
pub marked_next : (st : ℕ → PageState) (p q : ℕ) → (marked st p q).next ≡ (st q).next
unfolding written_page
marked_next st p q =
    on_eq q p
    (λ same. subst (λ (x : ℕ). (marked st p x).next ≡ (st x).next) (sym same) (ap (λ (s : PageState). s.next) (marked_at st p)))
    (λ other. ap (λ (s : PageState). s.next) (marked_other st p q other))

pub along_marked : (st : ℕ → PageState) (p q k : ℕ) → along (marked st p) q k ≡ along st q k
along_marked st p = along_cong (marked st p) st (marked_next st p)

pub on_cycle_marked : (P : ℕ) (st : ℕ → PageState) (p q r : ℕ) → on_cycle P (marked st p) q r ≡ on_cycle P st q r
on_cycle_marked P st p = on_cycle_cong P (marked st p) st (marked_next st p)

-- a page in flight
pub record Flies (P : ℕ) (st : ℕ → PageState) (p : ℕ) : Type 0 where
  pub below : p < P
  pub flies : in_flight (st p) ≡ true

-- ---- the walk on a sound state

module _ (P : ℕ) (st : ℕ → PageState) (sound : StateFacts P st) where
  pub next_flies : (p : ℕ) → Flies P st p → Flies P st (st p).next
  next_flies p f = record {
    below = (sound.page p f.below).next_below f.flies;
    flies = (sound.page p f.below).next_flies f.flies;
  }

  pub along_flies : (p k : ℕ) → Flies P st p → Flies P st (along st p k)
  unfolding along
  along_flies p zero f = f
  along_flies p (suc k) f = next_flies (along st p k) (along_flies p k f)

  -- from a page in flight a walk depends on the pages below P alone
  pub along_below : (st' : ℕ → PageState) → ((q : ℕ) → q < P → st q ≡ st' q) → (p k : ℕ) → Flies P st p → along st p k ≡ along st' p k
  unfolding along
  along_below st' h p zero f = refl
  along_below st' h p (suc k) f =
      ap (λ (s : PageState). s.next) (h (along st p k) (along_flies p k f).below) ∙ ap (λ (x : ℕ). (st' x).next) (along_below st' h p k f)

  -- next sends no two pages in flight to one
  pub next_apart : (p q : ℕ) → Flies P st p → Flies P st q → (st p).next ≡ (st q).next → p ≡ q
  next_apart p q f g e = sound.apart p q f.below g.below f.flies g.flies e

  -- walks that meet were at one page a step before
  pub along_back : (p q i j : ℕ) → Flies P st p → Flies P st q → along st p (suc i) ≡ along st q (suc j) → along st p i ≡ along st q j
  unfolding along
  along_back p q i j f g e = next_apart (along st p i) (along st q j) (along_flies p i f) (along_flies q j g) e

  -- and so k steps before
  pub along_cancel : (p q k : ℕ) → Flies P st p → Flies P st q → along st p k ≡ along st q k → p ≡ q
  unfolding along
  along_cancel p q zero f g e = e
  along_cancel p q (suc k) f g e = along_cancel p q k f g (along_back p q k k f g e)

  -- the walk comes back within P steps
  pub along_home : (p : ℕ) → Flies P st p → (k : ℕ) × (1 ≤ k) × (k ≤ P) × (along st p k ≡ p)
  along_home p f =
      let c = comes_back_lem P (along st p) (λ i l. (along_flies p i f).below) (λ i j li lj e. along_back p p i j f f e) in
      (c.0, c.1, c.2, c.3 ∙ along_zero st p)

  -- ---- the first return

  module _ (p : ℕ) (f : Flies P st p) where
    lap_found : first_below P (λ k. eqb (along st p (suc k)) p) < P
    lap_found = go (along_home p f)
      where
        go : (k : ℕ) × (1 ≤ k) × (k ≤ P) × (along st p k ≡ p) → first_below P (λ k. eqb (along st p (suc k)) p) < P
        go (zero, one, le, e) = absurd (omega arith)
        go (suc k, one, le, e) =
            first_found (λ k. eqb (along st p (suc k)) p) P
            (some_of (λ k. eqb (along st p (suc k)) p) P k (omega arith) (eq-eqb (along st p (suc k)) p e))

    pub lap_positive : 1 ≤ lap P st p
    unfolding lap
    lap_positive = omega arith

    pub lap_le : lap P st p ≤ P
    unfolding lap
    lap_le = lap_found

    pub lap_home : along st p (lap P st p) ≡ p
    unfolding lap
    lap_home =
        eqb-true (along st p (suc (first_below P (λ k. eqb (along st p (suc k)) p)))) p
        (first_passes (λ k. eqb (along st p (suc k)) p) P lap_found)

    pub lap_first : (j : ℕ) → 1 ≤ j → j < lap P st p → ¬ (along st p j ≡ p)
    unfolding lap
    lap_first zero one l e = omega arith
    lap_first (suc j) one l e =
        never (eq-eqb (along st p (suc j)) p e) (first_none_before (λ k. eqb (along st p (suc k)) p) P j (omega arith))

    -- the pages of one lap are different
    pub lap_apart : (i j : ℕ) → i < j → j < lap P st p → ¬ (along st p i ≡ along st p j)
    lap_apart i j l m e =
        lap_first (j - i) (omega arith) (omega arith)
        (along_cancel (along st p (j - i)) p i (along_flies p (j - i) f) f
        (sym (along_add st p (j - i) i) ∙ ap (along st p) (let q : j - i + i ≡ j = omega arith in q) ∙ sym e))

    -- each page the walk comes to is come to in the first lap
    pub in_lap : (k : ℕ) → (j : ℕ) × (j < lap P st p) × (along st p j ≡ along st p k)
    unfolding along
    in_lap zero = (0, lap_positive, refl)
    in_lap (suc k) = go (in_lap k)
      where
        go : (j : ℕ) × (j < lap P st p) × (along st p j ≡ along st p k) → (j : ℕ) × (j < lap P st p) × (along st p j ≡ along st p (suc k))
        go w =
            let step : along st p (suc w.0) ≡ along st p (suc k) = ap (λ (x : ℕ). (st x).next) w.2 in
            on_lt (suc w.0) (lap P st p)
            (λ l. (suc w.0, l, step))
            (λ l. (0, lap_positive, sym lap_home ∙ ap (along st p) (let q : lap P st p ≡ suc w.0 = let b = w.1 in omega arith in q) ∙ step))

    -- ---- the cycle

    pub on_cycle_of : (k q : ℕ) → along st p k ≡ q → on_cycle P st p q ≡ true
    unfolding on_cycle
    on_cycle_of k q e =
        let w = in_lap k in
        some_of (λ k. eqb (along st p k) q) P w.0 (let a = w.1 in let b = lap_le in omega arith) (eq-eqb (along st p w.0) q (w.2 ∙ e))

    pub on_cycle_at : (q : ℕ) → on_cycle P st p q ≡ true → (k : ℕ) × (along st p k ≡ q)
    unfolding on_cycle
    on_cycle_at q e =
        let w = some_at (λ k. eqb (along st p k) q) P e in
        (w.0, eqb-true (along st p w.0) q w.2)

    -- "q is on p's cycle": next leads from p to q, in any number of steps
    pub on_cycle_means : (q : ℕ) → (on_cycle P st p q ≡ true) ↔ ((k : ℕ) × (along st p k ≡ q))
    on_cycle_means q = (on_cycle_at q, λ w. on_cycle_of w.0 q w.1)

    -- one lap decides
    pub on_cycle_lap : (q : ℕ) → some_below (lap P st p) (λ k. eqb (along st p k) q) ≡ on_cycle P st p q
    on_cycle_lap q =
        same_test (some_below (lap P st p) (λ k. eqb (along st p k) q)) (on_cycle P st p q)
        (λ e. let w = some_at (λ k. eqb (along st p k) q) (lap P st p) e in on_cycle_of w.0 q (eqb-true (along st p w.0) q w.2))
        (λ e. let w = on_cycle_at q e in let j = in_lap w.0 in
        some_of (λ k. eqb (along st p k) q) (lap P st p) j.0 j.1 (eq-eqb (along st p j.0) q (j.2 ∙ w.1)))

    pub on_cycle_flies : (q : ℕ) → on_cycle P st p q ≡ true → Flies P st q
    on_cycle_flies q e = let w = on_cycle_at q e in subst (λ (x : ℕ). Flies P st x) w.1 (along_flies p w.0 f)

    pub on_cycle_refl : on_cycle P st p p ≡ true
    on_cycle_refl = on_cycle_of 0 p (along_zero st p)

    -- closed under next
    pub on_cycle_next : (q : ℕ) → on_cycle P st p q ≡ true → on_cycle P st p (st q).next ≡ true
    on_cycle_next q e = let w = on_cycle_at q e in on_cycle_of (suc w.0) (st q).next (along_suc st p w.0 ∙ ap (λ (x : ℕ). (st x).next) w.1)

    -- and backwards
    pub on_cycle_before : (q : ℕ) → Flies P st q → on_cycle P st p (st q).next ≡ true → on_cycle P st p q ≡ true
    on_cycle_before q g e = go (on_cycle_at (st q).next e)
      where
        go : (k : ℕ) × (along st p k ≡ (st q).next) → on_cycle P st p q ≡ true
        go (suc k, h) = on_cycle_of k q (next_apart (along st p k) q (along_flies p k f) g (sym (along_suc st p k) ∙ h))
        go (zero, h) = last (lap P st p) lap_positive lap_home h
          where
            last : (n : ℕ) → 1 ≤ n → along st p n ≡ p → along st p 0 ≡ (st q).next → on_cycle P st p q ≡ true
            last zero one home h = absurd (omega arith)
            last (suc n) one home h =
                on_cycle_of n q (next_apart (along st p n) q (along_flies p n f) g (sym (along_suc st p n) ∙ home ∙ sym (along_zero st p) ∙ h))

  -- ---- being on one cycle is an equivalence

  pub on_cycle_sym : (p q : ℕ) → Flies P st p → on_cycle P st p q ≡ true → on_cycle P st q p ≡ true
  on_cycle_sym p q f e =
      let w = on_cycle_at p f q e in
      let j = in_lap p f w.0 in
      let at : along st p j.0 ≡ q = j.2 ∙ w.1 in
      on_cycle_of q (on_cycle_flies p f q e) (lap P st p - j.0) p
      (ap (λ (x : ℕ). along st x (lap P st p - j.0)) (sym at)
      ∙ sym (along_add st p j.0 (lap P st p - j.0))
      ∙ ap (along st p) (let b = j.1 in let r : j.0 + (lap P st p - j.0) ≡ lap P st p = omega arith in r)
      ∙ lap_home p f)

  pub on_cycle_trans : (p q r : ℕ) → Flies P st p → on_cycle P st p q ≡ true → on_cycle P st q r ≡ true → on_cycle P st p r ≡ true
  on_cycle_trans p q r f e h =
      let g = on_cycle_flies p f q e in
      let a = on_cycle_at p f q e in
      let b = on_cycle_at q g r h in
      on_cycle_of p f (a.0 + b.0) r (along_add st p a.0 b.0 ∙ ap (λ (x : ℕ). along st x b.0) a.1 ∙ b.1)

  -- pages of one cycle have the same cycle
  pub on_cycle_same : (p q r : ℕ) → Flies P st p → on_cycle P st p q ≡ true → on_cycle P st p r ≡ on_cycle P st q r
  on_cycle_same p q r f e =
      let g = on_cycle_flies p f q e in
      same_test (on_cycle P st p r) (on_cycle P st q r)
      (λ h. on_cycle_trans q p r g (on_cycle_sym p q f e) h)
      (λ h. on_cycle_trans p q r f e h)

  -- ---- "its whole ring is then written"

  pub cycle_written_at : (p q : ℕ) → Flies P st p → cycle_written P st p ≡ true → on_cycle P st p q ≡ true → is_written (st q) ≡ true
  unfolding cycle_written on_cycle
  cycle_written_at p q f e h =
      let w = some_at (λ k. eqb (along st p k) q) P h in
      subst (λ (x : ℕ). is_written (st x) ≡ true) (eqb-true (along st p w.0) q w.2) (all_at (λ k. is_written (st (along st p k))) P w.0 e w.1)

  pub cycle_written_of : (p : ℕ) → Flies P st p → ((q : ℕ) → q < P → on_cycle P st p q ≡ true → is_written (st q) ≡ true) → cycle_written P st p ≡ true
  unfolding cycle_written
  cycle_written_of p f h =
      all_of (λ k. is_written (st (along st p k))) P (λ k l. h (along st p k) (along_flies p k f).below (on_cycle_of p f k (along st p k) refl))

  -- each page on p's cycle is written
  pub cycle_written_means : (p : ℕ) → Flies P st p → (cycle_written P st p ≡ true) ↔ ((q : ℕ) → q < P → on_cycle P st p q ≡ true → is_written (st q) ≡ true)
  cycle_written_means p f = (λ e q l h. cycle_written_at p q f e h, cycle_written_of p f)

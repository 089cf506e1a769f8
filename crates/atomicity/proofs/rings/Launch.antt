-- A launch opens a ring: the open rings still match the state, and what is entered stays.
use Rattle.std.specs.Prelude.{ℕ, suc, ◌≤◌, ◌<◌, ◌≡◌, refl, ◌↔◌, true, false, length, get_or}
use Rattle.std.proofs.Common.{arith, sym, ◌∙◌, inl, inr}
use Rattle.std.proofs.Math.Path.{ap, subst}
use mathlib.Core.List.Memᴰ
use mathlib.Core.List.{List, [], ◌∷◌, ◌++◌, Memᴰ}
use borrow.Author.Tests.{lt-ltb, le-ltb}
use Rattle.bounded.specs.Limits.{no_number}
use Rattle.bounded.specs.Choice.{on_lt, on_test, never}
use Rattle.state.specs.declared.PageState.{PageState}
use Rattle.state.specs.State.{in_flight, is_written}
use Rattle.state.specs.StateLaws.{number_flies}
use Rattle.state.specs.Change.{place_of, following, launched_page, launched}
use Rattle.state.specs.Walk.{Launchable}
use Rattle.state.specs.LaunchLaws.{place_listed, listed_place}
use Rattle.atomicity.specs.Model.{Entry, entry_page, has_bytes, in_ring, new_ring}
use Rattle.atomicity.specs.rings.Match.{pages_of, in_rings, IsEntered, RunsRound, RingMatches, RingsMatch}
use Rattle.atomicity.proofs.rings.Laws.{in_ring_place, place_in_ring, ring_before, before_or_last, in_rings_before, in_rings_last, apart_last}
use Rattle.atomicity.proofs.rings.Cycle.{following_place, ring_same, ring_flies, rings_fly}

-- ---- the new ring

pages_new : (pages : List ℕ) → pages_of (new_ring pages) ≡ pages
unfolding pages_of new_ring entry_page
pages_new [] = refl
pages_new (p ∷ pages) = ap (λ (l : List ℕ). p ∷ l) (pages_new pages)

-- its entries are empty
new_entry : (e : Entry) (pages : List ℕ) → Memᴰ e (new_ring pages) → (i : ℕ) × (i < length pages) × (e ≡ Entry.Empty (get_or pages i 0))
unfolding new_ring
new_entry e [] m = absurd (Memᴰ.not-nil m)
new_entry e (p ∷ pages) m =
    elim (Memᴰ.cases_cons m) [ inl h ↦ (0, omega arith, h) | inr t ↦ (let w = new_entry e pages t in (suc w.0, (let l = w.1 in omega arith), w.2)) ]

new_not_entered : (pages : List ℕ) (p : ℕ) (b : List ℕ) → ¬ Memᴰ (Entry.Entered p b) (new_ring pages)
new_not_entered pages p b m =
    let w = new_entry (Entry.Entered p b) pages m in
    let e = w.2 in
    let z : ◌≡◌ {A = ℕ} 0 1 = cc in
    omega arith

-- ---- the state

module _ (P : ℕ) (st : ℕ → PageState) (pages : List ℕ) (ok : Launchable P st pages) where
  pub launched_listed : (i : ℕ) → i < length pages → launched pages st (get_or pages i 0) ≡ launched_page (st (get_or pages i 0)) (following pages i)
  unfolding launched
  launched_listed i l = rw (place_listed P st pages ok i l, lt-ltb i (length pages) l)

  -- a page is listed and at rest before, or stays as it was
  pub launched_cases {ℓ} :
      {C : Type ℓ} (q : ℕ)
      → ((i : ℕ) → i < length pages → get_or pages i 0 ≡ q → in_flight (st q) ≡ false → C)
      → (launched pages st q ≡ st q → C)
      → C
  unfolding launched
  launched_cases q f g =
      on_lt (place_of pages q) (length pages)
      (λ l. f (place_of pages q) l (listed_place P st pages ok q l) (ap (λ (x : ℕ). in_flight (st x)) (sym (listed_place P st pages ok q l)) ∙ ok.resting (place_of pages q) l))
      (λ l. g (rw (le-ltb (place_of pages q) (length pages) l)))

  pub launched_flying : (q : ℕ) → in_flight (st q) ≡ true → launched pages st q ≡ st q
  launched_flying q e = launched_cases q (λ i l h r. absurd (never e r)) (λ h. h)

  module _ (some : 1 ≤ length pages) (fits : P ≤ no_number) where
    launched_runs : RunsRound P (launched pages st) pages
    unfolding launched_page
    launched_runs = record {
      not_empty = some;
      flying = λ i l. record {
        below = ok.in_range_lem i l;
        flies =
            let w = following_place pages i l in
            let b = ok.in_range_lem w.0 w.1 in
            let e = w.2 in
            ap in_flight (launched_listed i l) ∙ number_flies (launched_page (st (get_or pages i 0)) (following pages i)) (λ n. omega arith);
      };
      no_repeats_lem = ok.no_repeats_lem;
      linked = λ i l. ap (λ (s : PageState). s.next) (launched_listed i l);
    }

    new_ring_matches : RingMatches P (launched pages st) (new_ring pages)
    unfolding entry_page has_bytes is_written launched_page
    new_ring_matches = record {
      runs = subst (λ (l : List ℕ). RunsRound P (launched pages st) l) (sym (pages_new pages)) launched_runs;
      written = λ e m. let w = new_entry e pages m in
          ap (λ (x : Entry). is_written (launched pages st (entry_page x))) w.2
          ∙ ap is_written (launched_listed w.0 w.1)
          ∙ ap has_bytes (sym w.2);
    }

    module _ (rings : List (List Entry)) (match : RingsMatch P st rings) where
      -- the pages of the new ring stand in no other
      new_apart : (p : ℕ) → in_ring p (new_ring pages) ≡ true → in_rings p rings ≡ false
      new_apart p e =
          let w = in_ring_place p (new_ring pages) e in
          let v = pages_new pages in
          let l : w.0 < length pages = subst (λ (x : List ℕ). w.0 < length x) v w.1 in
          let h : get_or pages w.0 0 ≡ p = subst (λ (x : List ℕ). get_or x w.0 0 ≡ p) v w.2 in
          on_test (in_rings p rings)
          (λ i. absurd (never (rings_fly P st rings match p i).flies (ap (λ (x : ℕ). in_flight (st x)) (sym h) ∙ ok.resting w.0 l)))
          (λ i. i)

      pub launch_match : RingsMatch P (launched pages st) (rings ++ new_ring pages ∷ [])
      launch_match = record {
        each = λ ring m. elim (before_or_last (new_ring pages) ring rings m) [
          | inl t ↦ ring_same P st (launched pages st) ring
              (λ p e. launched_flying p (ring_flies P st ring (match.each ring t).runs p e).flies)
              (match.each ring t)
          | inr e ↦ subst (λ (r : List Entry). RingMatches P (launched pages st) r) (sym e) new_ring_matches
        ];
        apart = apart_last (new_ring pages) rings new_apart match.apart;
        covered = λ p f. launched_cases p
            (λ i l h r. in_rings_last (new_ring pages) p rings
            (place_in_ring p (new_ring pages) i (subst (λ (x : List ℕ). i < length x) (sym (pages_new pages)) l) (subst (λ (x : List ℕ). get_or x i 0 ≡ p) (sym (pages_new pages)) h)))
            (λ h. in_rings_before (new_ring pages) p rings (match.covered p (record { below = f.below; flies = ap in_flight (sym h) ∙ f.flies })));
      }

-- what is entered stays
pub launch_entered : (pages : List ℕ) (rings : List (List Entry)) (p : ℕ) (b : List ℕ) → IsEntered (rings ++ new_ring pages ∷ []) p b ↔ IsEntered rings p b
launch_entered pages rings p b = (back, λ w. (w.0, ring_before (new_ring pages) w.0 rings w.1, w.2))
  where
    back : IsEntered (rings ++ new_ring pages ∷ []) p b → IsEntered rings p b
    back w = elim (before_or_last (new_ring pages) w.0 rings w.1) [
      | inl m ↦ (w.0, m, w.2)
      | inr e ↦ absurd (new_not_entered pages p b (subst (λ (r : List Entry). Memᴰ (Entry.Entered p b) r) e w.2))
    ]

-- Where launch or withdraw answers 0: what the functions that make its change require, and that they leave what the call says.
use Rattle.std.specs.Prelude.{ℕ, ◌*◌, ◌≡◌, List, true, false, length, get_or}
use Rattle.std.proofs.Common.{arith, sym, ap, subst, eq-eqb}
use Rattle.bounded.specs.Limits.{highest_version, Widths}
use Rattle.bounded.specs.Choice.{on_eq, never}
use Rattle.bounded.specs.BelowLaws.{some_not_at}
use Rattle.sizes.specs.declared.Sizes.{Sizes}
use Rattle.sizes.specs.Sizes.{state_fits, list_ok}
use Rattle.sizes.proofs.SizesLaws.{state_fits_exactly}
use Rattle.sizes.specs.Lists.{Listed, list_facts}
use Rattle.state.specs.State.{state_at, state_words, state_sound, in_flight}
use Rattle.state.specs.StateLaws.{state_sound_facts}
use Rattle.state.specs.Change.{launched, withdrawn}
use Rattle.state.specs.Walk.{pages_in, Walkable, Launchable}
use Rattle.state.specs.WalkLaws.{pages_in_lem, walkable_in}
use Rattle.rules.specs.Launch.{some_page, used_up, launch_answer}
use Rattle.rules.specs.Withdraw.{withdraw_answer}
use Rattle.rules.proofs.laws.Accepted.{launch_tests, withdraw_tests}

-- the tests of a list of pages and of the state's words, for the pages that these words are of
pub listed_pages : (P : ℕ) (state pages : List ℕ) → state_fits P state ≡ true → list_ok P pages ≡ true → Listed (pages_in state) pages
listed_pages P state pages e l =
    subst (λ (n : ℕ). Listed n pages) (sym (pages_in_lem P state ((state_fits_exactly P state).0 e))) (list_facts P pages l)

-- ---- launch

-- the listed pages can be launched
pub record Launches (P : ℕ) (state pages : List ℕ) : Type 0 where
  pub all_pages : pages_in state ≡ P
  pub sized : length state ≡ 4 * pages_in state
  pub launchable : Launchable (pages_in state) (state_at state) pages

module _ (widths : Widths) (sizes : Sizes) (state pages : List ℕ) where
  launchable_of : state_sound sizes.pages (state_at state) ≡ true → Listed sizes.pages pages → some_page pages (state_at state) in_flight ≡ false → some_page pages (state_at state) used_up ≡ false → Launchable sizes.pages (state_at state) pages
  unfolding some_page used_up
  launchable_of s l f u =
      let facts = state_sound_facts sizes.pages (state_at state) s in
      record {
        in_range_lem = l.in_range_lem;
        no_repeats_lem = λ i j h k q. let e = l.apart i j (omega arith) k q in omega arith;
        resting = λ i h. some_not_at _ (length pages) i f h;
        version_left = λ i h.
            let most = (facts.page (get_or pages i 0) (l.in_range_lem i h)).used_highest in
            on_eq (state_at state (get_or pages i 0)).used highest_version
            (λ q. absurd (never (eq-eqb (state_at state (get_or pages i 0)).used highest_version q) (some_not_at _ (length pages) i u h)))
            (λ q. omega arith);
      }

  pub launch_accepted : launch_answer widths sizes state pages ≡ 0 → Launches sizes.pages state pages
  launch_accepted z =
      let t = launch_tests widths sizes state pages z in
      let q = pages_in_lem sizes.pages state t.state_sized in
      record {
        all_pages = q;
        sized = subst (λ (n : ℕ). length state ≡ 4 * n) (sym q) t.state_sized;
        launchable =
            subst (λ (n : ℕ). Launchable n (state_at state) pages) (sym q) (launchable_of t.sound (list_facts sizes.pages pages t.listed) t.none_flying t.none_used_up);
      }

  pub launch_leaves : launch_answer widths sizes state pages ≡ 0 → state_words (pages_in state) (launched pages (state_at state)) ≡ state_words sizes.pages (launched pages (state_at state))
  launch_leaves z = ap (λ (n : ℕ). state_words n (launched pages (state_at state))) (launch_accepted z).all_pages

-- ---- withdraw

module _ (widths : Widths) (sizes : Sizes) (state : List ℕ) (page : ℕ) where
  pub withdraw_accepted : withdraw_answer widths sizes state page ≡ 0 → Walkable (pages_in state) state page
  withdraw_accepted z =
      let t = withdraw_tests widths sizes state page z in
      walkable_in sizes.pages state page (record { fits = t.state_sized; sound = t.sound; below = t.page_below; flies = t.flying })

  pub withdraw_leaves : withdraw_answer widths sizes state page ≡ 0 → state_words (pages_in state) (withdrawn (pages_in state) (state_at state) page) ≡ state_words sizes.pages (withdrawn sizes.pages (state_at state) page)
  withdraw_leaves z = ap (λ (n : ℕ). state_words n (withdrawn n (state_at state) page)) (pages_in_lem sizes.pages state (withdraw_tests widths sizes state page z).state_sized)

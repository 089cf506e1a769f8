-- The loops that count, each at its start and one number more; and the figures, from what is counted.
use Rattle.std.specs.Prelude.{ℕ, ◌+◌, ◌≤◌, ◌≡◌, Bool, true, false, not, length}
use native.Mathlib.Omega.{arith}
use Rattle.std.proofs.Common.{add-one, sym, ◌∙◌}
use Rattle.std.proofs.Math.Path.{refl, ap, ap₂}
use mathlib.Core.List.{List}
use borrow.Author.Tests.{not-true, not-false}
use Rattle.bounded.specs.Below.{list_below}
use Rattle.bounded.specs.Members.{count_below, count_more, count_stays}
use Rattle.record.specs.declared.Record.{Record}
use Rattle.record.specs.Slot.{Slot}
use Rattle.std.specs.Prelude.{None, Some}
use Rattle.record.specs.Slot.{holds}
use Rattle.state.specs.declared.PageState.{PageState}
use Rattle.state.specs.State.{is_set}
use Rattle.rules.specs.Permission.{is_obsolete, is_needed, may_erase_record, may_erase, Scene, no_twins, untwinned}
use Rattle.rules.specs.Found.{exposed_slots, by_found}
use Rattle.rules.proofs.laws.Found.{found_scene}
use Rattle.permit.specs.SearchLaws.{holds_record}
use Rattle.fleet.specs.Figures.{is_needed_straddler, slots_with, set_pages, figures_of}
use Rattle.fleet.proofs.FiguresLaws.{erased_unless_needed}
use Rattle.figures.specs.declared.Obsolete.{Obsolete}
use Rattle.figures.specs.Counting.{obsolete_below}

-- ---- numbers below n that pass

module _ (f : ℕ → Bool) (n : ℕ) {count : ℕ} (so_far : count ≡ length (list_below n f)) where
  one_more_lem : f n ≡ true → count + 1 ≡ length (list_below (n + 1) f)
  one_more_lem e = rw (add-one count, add-one n, so_far) (sym (count_more f n e))

  no_more : f n ≡ false → count ≡ length (list_below (n + 1) f)
  no_more e = rw (add-one n, so_far) (sym (count_stays f n e))

-- ---- pages that are set

pub none_set : (st : ℕ → PageState) → 0 ≡ length (set_pages 0 st)
unfolding set_pages list_below
none_set st = refl

module _ (st : ℕ → PageState) (n : ℕ) {count : ℕ} (so_far : count ≡ length (set_pages n st)) where
  -- no more than there are pages
  pub set_most : count ≤ n
  unfolding set_pages
  set_most = let b = count_below (λ p. is_set (st p)) n in omega arith

  pub one_set : is_set (st n) ≡ true → count + 1 ≡ length (set_pages (n + 1) st)
  unfolding set_pages
  one_set e = one_more_lem (λ p. is_set (st p)) n so_far e

  pub not_set : is_set (st n) ≡ false → count ≡ length (set_pages (n + 1) st)
  unfolding set_pages
  not_set e = no_more (λ p. is_set (st p)) n so_far e

-- ---- slots that hold an obsolete record

module _ (S : ℕ) (t : ℕ → Slot) (st : ℕ → PageState) where
  abbrev obsolete_at : ℕ → Bool
  obsolete_at k = holds (is_obsolete st) (t k)

  abbrev needed_at : ℕ → Bool
  needed_at k = holds (is_needed_straddler S t st) (t k)

  not_needed : (s : Slot) → holds (is_obsolete st) s ≡ false → holds (is_needed_straddler S t st) s ≡ false
  unfolding holds is_needed_straddler
  not_needed None e = refl
  not_needed (Some r) e = rw e

  pub none_obsolete : ◌≡◌ {A = Obsolete} (record { all = 0; needed = 0 }) (obsolete_below S t st 0)
  unfolding obsolete_below slots_with list_below
  none_obsolete = refl

  module _ (k : ℕ) {before : Obsolete} (so_far : before ≡ obsolete_below S t st k) where
    all_so_far : before.all ≡ length (list_below k obsolete_at)
    unfolding obsolete_below slots_with
    all_so_far = ap (λ (o : Obsolete). o.all) so_far

    needed_so_far : before.needed ≡ length (list_below k needed_at)
    unfolding obsolete_below slots_with
    needed_so_far = ap (λ (o : Obsolete). o.needed) so_far

    -- no more than there are slots
    pub obsolete_most : (before.all ≤ k) × (before.needed ≤ k)
    obsolete_most =
        let a = all_so_far in
        let b = needed_so_far in
        let c = count_below obsolete_at k in
        let d = count_below needed_at k in
        (omega arith, omega arith)

    -- one slot more, without an obsolete record:
    pub not_obsolete : obsolete_at k ≡ false → before ≡ obsolete_below S t st (k + 1)
    unfolding obsolete_below slots_with
    not_obsolete e =
        ap₂ (λ (a b : ℕ). record { all = a; needed = b }) (no_more obsolete_at k all_so_far e) (no_more needed_at k needed_so_far (not_needed (t k) e))

    -- with one, judged by the exposed records:
    module _ {r : Record} (here : t k ≡ Some r) (obsolete : is_obsolete st r ≡ true) {found : List ℕ} (all_found : found ≡ exposed_slots S t st) {may : Bool} (judged : may ≡ may_erase (by_found (untwinned S t st) found) k) where
      is_obsolete_lem : obsolete_at k ≡ true
      is_obsolete_lem = holds_record (is_obsolete st) here ∙ obsolete

      may_unless_needed : may ≡ not (is_needed (untwinned S t st) r)
      unfolding may_erase
      may_unless_needed =
          judged
          ∙ ap (λ (l : List ℕ). may_erase (by_found (untwinned S t st) l) k) all_found
          ∙ ap (λ (s : Scene). may_erase s k) (found_scene S t st no_twins)
          ∙ holds_record (may_erase_record (untwinned S t st)) here
          ∙ erased_unless_needed S t st r obsolete

      is_needed_lem : needed_at k ≡ is_needed (untwinned S t st) r
      unfolding is_needed_straddler
      is_needed_lem = holds_record (is_needed_straddler S t st) here ∙ rw obsolete

      -- it may be erased,
      pub one_spare : may ≡ true → record { all = before.all + 1; needed = before.needed } ≡ obsolete_below S t st (k + 1)
      unfolding obsolete_below slots_with
      one_spare e =
          ap₂ (λ (a b : ℕ). record { all = a; needed = b })
          (one_more_lem obsolete_at k all_so_far is_obsolete_lem)
          (no_more needed_at k needed_so_far (is_needed_lem ∙ not-true (is_needed (untwinned S t st) r) (sym may_unless_needed ∙ e)))

      -- or is needed
      pub one_needed : may ≡ false → record { all = before.all + 1; needed = before.needed + 1 } ≡ obsolete_below S t st (k + 1)
      unfolding obsolete_below slots_with
      one_needed e =
          ap₂ (λ (a b : ℕ). record { all = a; needed = b })
          (one_more_lem obsolete_at k all_so_far is_obsolete_lem)
          (one_more_lem needed_at k needed_so_far (is_needed_lem ∙ not-false (is_needed (untwinned S t st) r) (sym may_unless_needed ∙ e)))

  -- ---- the figures

  pub all_figures :
      (P : ℕ) {pages : ℕ} {obsolete : Obsolete} {exposed : ℕ}
      → pages ≡ length (set_pages P st)
      → obsolete ≡ obsolete_below S t st S
      → exposed ≡ length (exposed_slots S t st)
      → record { pages = pages; obsolete = obsolete.all; exposed = exposed; needed = obsolete.needed } ≡ figures_of P S t st
  unfolding figures_of slots_with obsolete_below exposed_slots
  all_figures P a b c = rw (a, b, c)

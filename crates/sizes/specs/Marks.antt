-- Marks for the numbers that a list has had so far: an entry is new exactly where its mark does not stand.
use Rattle.std.specs.Prelude.{ℕ, ◌+◌, ◌<◌, refl, List, Bool, true, false, get_or, set, replicate}
use Rattle.std.proofs.Common.{arith, add-one, sym, ◌∙◌}
use Rattle.std.proofs.Math.Path.{◌≡◌, ap}
use Rattle.std.proofs.Math.Bool.{cond}
use Rattle.std.proofs.Math.Dec.{eqb}
use borrow.Author.Tests.{eq-eqb, ne_eqb}
use Rattle.bounded.specs.Choice.{on_test, either_right, or_false, not_yes, not_no}
use Rattle.bounded.specs.Below.{some_below}
use Rattle.bounded.specs.BelowLaws.{all_of, all_fails, some_at, some_not_at}
use Rattle.bounded.specs.Tabulate.{tabulate, tabulate_at, tabulate_same, set_tabulate}
use Rattle.sizes.specs.Lists.{new_at, unlike}

-- x is one of the first i entries
unfoldable pub listed_before : List ℕ → (i x : ℕ) → Bool
listed_before list i x = some_below i (λ j. eqb (get_or list j 0) x)

-- its mark, by these entries: 1 where it is one of them, else 0
unfoldable pub mark_of : List ℕ → (i x : ℕ) → ℕ
mark_of list i x = cond (listed_before list i x) 1 0

module _ (list : List ℕ) where
  pub marks_none : (n : ℕ) → replicate n 0 ≡ tabulate n (mark_of list 0)
  unfolding mark_of listed_before some_below
  marks_none n = tabulate_same n 0 (mark_of list 0) (λ x h. refl)

  module _ (i : ℕ) where
    listed_now : listed_before list (i + 1) (get_or list i 0) ≡ true
    unfolding listed_before some_below
    listed_now = rw (add-one, some_below) (either_right (some_below i (λ j. eqb (get_or list j 0) (get_or list i 0))) (eq-eqb (get_or list i 0) (get_or list i 0) refl))

    listed_other : (x : ℕ) → ¬ (x ≡ get_or list i 0) → listed_before list i x ≡ listed_before list (i + 1) x
    unfolding listed_before some_below
    listed_other x d = rw (add-one, some_below, ne_eqb (get_or list i 0) x (λ e. d (sym e))) (sym (or_false (some_below i (λ j. eqb (get_or list j 0) x))))

    -- the mark of entry i
    mark_read : (n : ℕ) (marks : List ℕ) → marks ≡ tabulate n (mark_of list i) → get_or list i 0 < n → get_or marks (get_or list i 0) 0 ≡ mark_of list i (get_or list i 0)
    mark_read n marks q h = ap (λ (m : List ℕ). get_or m (get_or list i 0) 0) q ∙ tabulate_at n (mark_of list i) (get_or list i 0) h

    -- one entry marked
    pub marks_more : (n : ℕ) → get_or list i 0 < n → set (tabulate n (mark_of list i)) (get_or list i 0) 1 ≡ tabulate n (mark_of list (i + 1))
    unfolding mark_of
    marks_more n h =
        set_tabulate n (get_or list i 0) 1 (mark_of list i) (mark_of list (i + 1)) h
        (rw listed_now)
        (λ x b d. ap (λ (m : Bool). cond m 1 0) (listed_other x d))

    -- an entry is one of those before it exactly where its mark stands
    pub marked_repeats : (n : ℕ) (marks : List ℕ) → marks ≡ tabulate n (mark_of list i) → get_or list i 0 < n → ¬ (get_or marks (get_or list i 0) 0 ≡ 0) → new_at list i ≡ false
    unfolding mark_of listed_before new_at unlike
    marked_repeats n marks q h d =
        on_test (listed_before list i (get_or list i 0))
        (λ e. let w = some_at (λ j. eqb (get_or list j 0) (get_or list i 0)) i e in
        all_fails (unlike list i) i w.0 w.1 (not_yes w.2))
        (λ e. absurd (d (mark_read n marks q h ∙ rw (mark_of, e))))

    pub unmarked_new : (n : ℕ) (marks : List ℕ) → marks ≡ tabulate n (mark_of list i) → get_or list i 0 < n → get_or marks (get_or list i 0) 0 ≡ 0 → new_at list i ≡ true
    unfolding mark_of listed_before new_at unlike
    unmarked_new n marks q h z =
        on_test (listed_before list i (get_or list i 0))
        (λ e. let o : ◌≡◌ {A = ℕ} 1 0 = rw (mark_of, e) at (sym (mark_read n marks q h) ∙ z) in absurd (omega arith))
        (λ e. all_of (unlike list i) i (λ j l. not_no (some_not_at (λ j. eqb (get_or list j 0) (get_or list i 0)) i j e l)))

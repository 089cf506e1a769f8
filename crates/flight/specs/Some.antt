-- Some listed page passes: a walk over the list answers what the rules say.
use Rattle.std.specs.Prelude.{ℕ, zero, suc, ◌≤◌, ◌<◌, ◌≡◌, ◌||◌, List, [], ◌∷◌, Bool, map, length, take, get_or}
use Rattle.std.specs.List.{list_any}
use Rattle.std.proofs.Common.{arith, refl, sym, ap, ◌∙◌, add-one}
use Rattle.std.proofs.Math.Seq.{take-length}
use Rattle.std.proofs.lemmas.List.Folds.{list_any_more}
use Rattle.bounded.specs.Below.{some_below}
use Rattle.state.specs.declared.PageState.{PageState}
use Rattle.rules.specs.Launch.{some_page}

module _ (f : ℕ → Bool) (xs : List ℕ) where
  -- among the first n of a list
  any_first : (n : ℕ) → n ≤ length xs → list_any f (take n xs) ≡ some_below n (λ i. f (get_or xs i 0))
  unfolding some_below
  any_first zero h = refl
  any_first (suc n) h =
      let here : n < length xs = omega arith in
      rw (← add-one n) (list_any_more f xs n 0 here ∙ ap (λ (b : Bool). b || f (get_or xs n 0)) (any_first n (omega arith)))

  any_below : list_any f xs ≡ some_below (length xs) (λ i. f (get_or xs i 0))
  any_below = ap (list_any f) (sym (take-length xs)) ∙ any_first (length xs) (omega arith)

-- the pages' states, walked
any_of : {A : Type 0} (f : A → Bool) (st : ℕ → A) (pages : List ℕ) → list_any f (map st pages) ≡ list_any (λ p. f (st p)) pages
any_of f st [] = refl
any_of f st (p ∷ pages) = ap (λ (b : Bool). f (st p) || b) (any_of f st pages)

pub any_page : (pages : List ℕ) (st : ℕ → PageState) (f : PageState → Bool) → list_any f (map st pages) ≡ some_page pages st f
unfolding some_page
any_page pages st f = any_of f st pages ∙ any_below (λ p. f (st p)) pages

-- Marks, one for each slot: those that stand for a list of slots, and for one alone.
use Prim.Native.Nat.{ℕ, ◌+◌, ◌<◌}
use Rattle.std.proofs.Common.{arith, add-one, sym, ◌∙◌, length-set, get_or-set_other}
use Rattle.std.specs.Prelude.{◌≡◌, List, [], ◌∷◌, Bool, true, false, ◌||◌, length, get_or, set, replicate}
use Rattle.std.proofs.Math.Path.{refl, ap, fun_ext}
use Rattle.std.proofs.Math.Dec.{eqb}
use Rattle.std.proofs.lemmas.List.{length-replicate, get_or-replicate}
use Rattle.std.proofs.Math.ListN.{get_or-eq_default}
use Rattle.std.proofs.Math.Seq.{get_or-set_same}
use borrow.Author.Tests.{eq-eqb, ne_eqb}
use Rattle.bounded.specs.Limits.{max_slots}
use Rattle.bounded.specs.Choice.{on_lt, on_eq, either_right, or_false}
use Rattle.bounded.specs.Below.{some_below}
use Rattle.sizes.specs.Sizes.{listed}

-- slot j's mark stands
unfoldable pub marked : List Bool → ℕ → Bool
marked marks j = get_or marks j false

-- no slot's does
abbrev pub unmarked : ℕ → Bool
unmarked j = false

-- an array of marks of which none stands
pub record NoMarks (marks : List Bool) : Type 0 where
  pub sized : length marks ≡ max_slots
  pub none : marked marks ≡ unmarked

none_marked : (n : ℕ) → marked (replicate n false) ≡ unmarked
unfolding marked
none_marked n =
    fun_ext (λ j. on_lt j n (λ l. get_or-replicate n j false false l)
    (λ l. get_or-eq_default (replicate n false) false (let e : length (replicate {A = Bool} n false) ≡ n = length-replicate n false in omega arith)))

pub no_marks : (n : ℕ) → n ≡ max_slots → NoMarks (replicate n false)
no_marks n e = record { sized = length-replicate n false ∙ e; none = none_marked n }

module _ (marks : List Bool) (k : ℕ) (inside : k < length marks) where
  -- one mark more
  pub marked_more : (j : ℕ) → marked (set marks k true) j ≡ (marked marks j || eqb k j)
  unfolding marked
  marked_more j =
      on_eq j k
      (λ e. rw (e, get_or-set_same marks k true false inside) (sym (either_right (get_or marks k false) (eq-eqb k k refl))))
      (λ d. rw (get_or-set_other marks k j true false d, ne_eqb k j (λ e. d (sym e))) (sym (or_false (get_or marks j false))))

  -- one mark less
  pub marked_less : (j : ℕ) → marked marks j ≡ eqb k j → marked (set marks k false) j ≡ false
  unfolding marked
  marked_less j e =
      on_eq j k
      (λ q. rw (q, get_or-set_same marks k false false inside))
      (λ d. rw (get_or-set_other marks k j false false d) (e ∙ ne_eqb k j (λ q. d (sym q))))

-- ---- the slots of a list

-- the first i of them are marked, and no other
unfoldable pub listed_up_to : List ℕ → (i j : ℕ) → Bool
listed_up_to list i j = some_below i (λ n. eqb (get_or list n 0) j)

module _ (list : List ℕ) where
  pub list_none_marked : (n : ℕ) → marked (replicate n false) ≡ listed_up_to list 0
  unfolding listed_up_to some_below
  list_none_marked n = none_marked n

  pub list_more_marked : (marks : List Bool) (i : ℕ) → get_or list i 0 < length marks → marked marks ≡ listed_up_to list i → marked (set marks (get_or list i 0) true) ≡ listed_up_to list (i + 1)
  unfolding listed_up_to some_below
  list_more_marked marks i h e =
      fun_ext (λ j. marked_more marks (get_or list i 0) h j ∙ ap (λ (f : ℕ → Bool). f j || eqb (get_or list i 0) j) e ∙ rw (add-one, some_below))

  pub list_all_marked : listed_up_to list (length list) ≡ listed list
  unfolding listed_up_to listed
  list_all_marked = refl

-- ---- one slot alone

module _ (marks : List Bool) (k : ℕ) (clear : NoMarks marks) (few : k < max_slots) where
  inside : k < length marks
  inside = let s = clear.sized in omega arith

  alone_marked_at : (j : ℕ) → marked (set marks k true) j ≡ eqb k j
  alone_marked_at j = marked_more marks k inside j ∙ ap (λ (f : ℕ → Bool). f j || eqb k j) clear.none

  pub alone_marked : marked (set marks k true) ≡ listed (k ∷ [])
  unfolding listed some_below
  alone_marked = fun_ext alone_marked_at

  -- and none again
  pub alone_cleared : NoMarks (set (set marks k true) k false)
  alone_cleared = record {
    sized = length-set (set marks k true) k false ∙ length-set marks k true ∙ clear.sized;
    none = fun_ext (λ j. marked_less (set marks k true) k (let e = length-set marks k true in let b = inside in omega arith) j (alone_marked_at j));
  }

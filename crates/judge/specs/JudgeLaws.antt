-- The permission of a listed slot as the code decides it: by the old rule, or by a twin that its chain holds.
use Rattle.std.specs.Prelude.{ℕ, ◌+◌, ◌≤◌, ◌<◌, ◌≡◌, List, Bool, true, false, not, ◌&&◌}
use Rattle.std.proofs.Common.{arith, ap, ◌∙◌, eq-eqb}
use Rattle.std.proofs.Math.Dec.{eqb}
use Rattle.bounded.specs.Choice.{on_lt, on_test, either_right, or_false, both_left}
use Rattle.bounded.specs.Below.{some_below, first_below}
use Rattle.bounded.specs.BelowLaws.{some_of, some_none, first_passes, first_none_before}
use Rattle.record.specs.declared.Record.{Record}
use Rattle.record.specs.Slot.{Slot}
use Rattle.std.specs.Prelude.{None, Some}
use Rattle.record.specs.Slot.{slot_at}
use Rattle.record.specs.Flash.{Flash}
use Rattle.state.specs.declared.PageState.{PageState}
use Rattle.table.proofs.TableLaws.{blank_holds, holds_of}
use Rattle.twins.specs.Twins.{twins}
use Rattle.twins.proofs.TwinsLaws.{twins_hold}
use Rattle.chain.specs.declared.Key.TheVariants.{Pointer}
use Rattle.chain.specs.Chain.{chain_of, in_chain}
use Rattle.rules.specs.Permission.{Scene, scene, untwinned, may_erase, twin_outside, may_erase_from}
use Rattle.rules.specs.Found.{by_found}
use Rattle.rules.proofs.laws.Permission.{twins_apart}

-- ---- a slot's twins

module _ (w : ℕ) (f : Flash) (j k : ℕ) where
  -- a blank slot has none
  pub blank_no_twin : slot_at f.words k ≡ None → twins w f j k ≡ false
  blank_no_twin e = on_test (twins w f j k) (λ t. absurd (blank_holds e (twins_hold w f j k t).2)) (λ t. t)

  -- and those of a record are in its chain
  pub twin_in_chain : {r : Record} → slot_at f.words k ≡ Some r → twins w f j k ≡ true → in_chain Pointer (slot_at f.words) (chain_of Pointer r) j ≡ true
  unfolding in_chain
  twin_in_chain {r} e t =
      let h = twins_hold w f j k t in
      let same : h.0 ≡ r = one h.2 e in
      holds_of (λ r'. eqb (chain_of Pointer r') (chain_of Pointer r)) h.1 (eq-eqb (chain_of Pointer h.0) (chain_of Pointer r) (ap (chain_of Pointer) same))
    where
      one : {s : Slot} {a b : Record} → s ≡ Some a → s ≡ Some b → a ≡ b
      one p q = cc

module _ (w : ℕ) (f : Flash) (in_list : ℕ → Bool) (k : ℕ) where
  -- one that is not in the list
  abbrev pub outside : ℕ → Bool
  outside j = twins w f j k && not (in_list j)

  pub outside_in_chain : {r : Record} → slot_at f.words k ≡ Some r → (j : ℕ) → outside j ≡ true → in_chain Pointer (slot_at f.words) (chain_of Pointer r) j ≡ true
  outside_in_chain e j t = twin_in_chain w f j k e (both_left (twins w f j k) (not (in_list j)) t)

  -- the list settles it, or the two slots do
  pub listed_not_outside : (j : ℕ) → in_list j ≡ true → outside j ≡ false
  listed_not_outside j e = on_test (twins w f j k) (λ t. rw (t, e)) (λ t. rw t)

  pub unlisted_outside : (j : ℕ) → in_list j ≡ false → outside j ≡ twins w f j k
  unlisted_outside j e = on_test (twins w f j k) (λ t. rw (t, e)) (λ t. rw t)

  pub blank_none_outside : (S : ℕ) (st : ℕ → PageState) → slot_at f.words k ≡ None → twin_outside (scene S (slot_at f.words) st (twins w f)) in_list k ≡ false
  unfolding twin_outside
  blank_none_outside S st e = some_none outside S (λ j h. rw (blank_no_twin w f j k e))

-- ---- by the old rule, or by a twin

module _ (S : ℕ) (t : ℕ → Slot) (st : ℕ → PageState) (found : List ℕ) (twin : ℕ → ℕ → Bool) (in_list : ℕ → Bool) (k : ℕ) where
  -- what was found, with the twins
  abbrev twinned : Scene
  twinned = by_found (scene S t st twin) found

  old_rule : may_erase twinned k ≡ may_erase (by_found (untwinned S t st) found) k
  unfolding by_found
  old_rule = twins_apart (by_found (untwinned S t st) found) twin k

  pub by_old_rule : may_erase (by_found (untwinned S t st) found) k ≡ true → may_erase_from twinned in_list k ≡ true
  unfolding may_erase_from
  by_old_rule e = either_right (twin_outside twinned in_list k) (old_rule ∙ e)

  pub by_twin : may_erase (by_found (untwinned S t st) found) k ≡ false → may_erase_from twinned in_list k ≡ twin_outside (scene S t st twin) in_list k
  unfolding by_found may_erase_from twin_outside
  by_twin e = rw (old_rule ∙ e) (or_false (twin_outside twinned in_list k))

-- the marks are the list
pub by_list : (s : Scene) (k : ℕ) {marks list : ℕ → Bool} → marks ≡ list → may_erase_from s marks k ≡ may_erase_from s list k
by_list s k e = ap (λ (in_list : ℕ → Bool). may_erase_from s in_list k) e

-- ---- a search upward

-- one number more that does not pass
pub none_more : (f : ℕ → Bool) (n : ℕ) → ((k : ℕ) → k < n → f k ≡ false) → f n ≡ false → (k : ℕ) → k < n + 1 → f k ≡ false
none_more f n none e k h = on_lt k n (none k) (λ l. let q : k ≡ n = omega arith in ap f q ∙ e)

-- what the first that passes says of "some"
module _ (S : ℕ) (f : ℕ → Bool) (k : ℕ) (e : k ≡ first_below S f) where
  pub found_some : k < S → some_below S f ≡ true
  found_some h = some_of f S (first_below S f) (omega arith) (first_passes f S (omega arith))

  pub found_none : S ≤ k → some_below S f ≡ false
  found_none h = some_none f S (λ j l. first_none_before f S j (omega arith))

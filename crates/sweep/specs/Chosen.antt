-- The slots of each erasure as the code finds them: what one slot settles, and that a list that was noted is the definition's.
use Rattle.std.specs.Prelude.{ℕ, ◌<◌, ◌≡◌, List, Bool, true, false, not, ◌&&◌}
use Rattle.std.proofs.Common.{arith, sym, ◌∙◌}
use Rattle.std.proofs.Math.Path.{ap, fun_ext}
use Rattle.bounded.specs.Below.{some_below, list_below}
use Rattle.bounded.specs.BelowLaws.{some_none, some_cong}
use Rattle.sizes.specs.Blocks.{in_block}
use Rattle.sizes.proofs.BlocksLaws.{inside_block}
use Rattle.record.specs.declared.Record.{Record}
use Rattle.record.specs.Slot.{Slot}
use Rattle.std.specs.Prelude.{None, Some}
use Rattle.record.specs.Slot.{slot_at, is_blank}
use Rattle.record.specs.SlotLaws.{is_blank_exactly}
use Rattle.record.specs.Flash.{Flash}
use Rattle.state.specs.declared.PageState.{PageState}
use Rattle.twins.specs.Twins.{twins}
use Rattle.rules.specs.Permission.{is_obsolete, is_exposed, is_current, may_erase, scene, untwinned, Scene, no_twins}
use Rattle.rules.specs.Found.{exposed_slots, by_found}
use Rattle.upkeep.specs.Sweep.{is_spare_exposed, is_obsolete_at, is_erasable_obsolete, is_higher_twin}
use Rattle.rules.proofs.laws.Permission.{twins_apart}
use Rattle.rules.proofs.laws.Found.{found_scene}
use Rattle.upkeep.proofs.laws.Sweep.{erasable_obsolete}
use Rattle.permit.specs.SearchLaws.{holds_none, holds_record}
use Rattle.judge.specs.JudgeLaws.{blank_no_twin}

-- ---- exposed and obsolete records

module _ (t : ℕ → Slot) (st : ℕ → PageState) (k : ℕ) where
  pub blank_not_spare : t k ≡ None → is_spare_exposed t st k ≡ false
  unfolding is_spare_exposed
  blank_not_spare e = holds_none _ e

  pub blank_not_obsolete : t k ≡ None → is_obsolete_at t st k ≡ false
  unfolding is_obsolete_at
  blank_not_obsolete e = holds_none _ e

  module _ {r : Record} (e : t k ≡ Some r) where
    pub spare_record : is_spare_exposed t st k ≡ (is_exposed st r && not (is_current st r))
    unfolding is_spare_exposed
    spare_record = holds_record _ e

    pub obsolete_record : is_obsolete_at t st k ≡ is_obsolete st r
    unfolding is_obsolete_at
    obsolete_record = holds_record _ e

-- what is found is the exposed records: judging by it is the rule
pub obsolete_found :
    (S : ℕ) (t : ℕ → Slot) (st : ℕ → PageState) {found : List ℕ}
    → found ≡ exposed_slots S t st
    → list_below S (λ k. is_obsolete_at t st k && may_erase (by_found (untwinned S t st) found) k) ≡ list_below S (λ k. is_obsolete_at t st k && may_erase (untwinned S t st) k)
obsolete_found S t st e =
    ap (list_below S)
    (fun_ext (λ k. ap (λ (b : Bool). is_obsolete_at t st k && b) (ap (λ (l : List ℕ). may_erase (by_found (untwinned S t st) l) k) e ∙ ap (λ (s : Scene). may_erase s k) (found_scene S t st no_twins))))

module _ (w : ℕ) (f : Flash) where
  -- an obsolete record's twins are listed with it: the old rule judges it
  pub erasable_listed :
      (S : ℕ) (st : ℕ → PageState)
      → list_below S (λ k. is_obsolete_at (slot_at f.words) st k && may_erase (untwinned S (slot_at f.words) st) k) ≡ list_below S (is_erasable_obsolete (scene S (slot_at f.words) st (twins w f)))
  erasable_listed S st =
      ap (list_below S)
      (fun_ext (λ k. ap (λ (b : Bool). is_obsolete_at (slot_at f.words) st k && b) (sym (twins_apart (untwinned S (slot_at f.words) st) (twins w f) k)) ∙ sym (erasable_obsolete w S f st k)))

  -- ---- twins

  pub blank_not_higher : (k : ℕ) → is_blank (slot_at f.words k) ≡ true → is_higher_twin (twins w f) k ≡ false
  unfolding is_higher_twin
  blank_not_higher k e = some_none _ k (λ j h. blank_no_twin w f j k ((is_blank_exactly (slot_at f.words k)).0 e))

  -- every slot of the table is one of the block of all of them
  pub lower_of_all : (S k : ℕ) → k < S → some_below k (λ j. in_block (record { first = 0; end = S }) j && twins w f j k) ≡ is_higher_twin (twins w f) k
  unfolding is_higher_twin
  lower_of_all S k h =
      some_cong k (λ j l. ap (λ (b : Bool). b && twins w f j k) (inside_block (record { first = 0; end = S }) j (omega arith) (omega arith)))

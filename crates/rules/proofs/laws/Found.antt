-- Document 02, wish 2: "what is found is every exposed record and no other, and … judging by it is the rule's permission for any list".
use Rattle.std.specs.Prelude.{ℕ, ◌<◌, ◌≡◌, ◌↔◌, Bool, true, ◌&&◌, length, get_or}
use native.Mathlib.Omega.{arith}
use Rattle.std.proofs.Math.Path.{refl, ap, fun_ext}
use Rattle.std.proofs.Common.{◌∙◌, ltb-true, lt-ltb}
use Rattle.bounded.specs.BelowLaws.{some_cong}
use Rattle.bounded.specs.Passing.{list_exactly, list_entry, some_listed}
use Rattle.record.specs.declared.Record.{Record}
use Rattle.record.specs.Slot.{Slot}
use Rattle.std.specs.Prelude.{None, Some}
use Rattle.record.specs.Slot.{holds, some_record}
use Rattle.record.specs.SlotLaws.{holds_exactly}
use Rattle.state.specs.declared.PageState.{PageState}
use Rattle.rules.specs.Permission.{is_exposed, Scene, scene, may_erase_all}
use Rattle.rules.specs.Found.{exposed_slots, by_found}
use Rattle.rules.specs.laws.Found.{FoundExactly, JudgedByFound}

module _ (S : ℕ) (t : ℕ → Slot) (st : ℕ → PageState) where
  -- each slot that is found is one of the table
  pub found_below : (i : ℕ) → i < length (exposed_slots S t st) → get_or (exposed_slots S t st) i 0 < S
  unfolding exposed_slots
  found_below i h = let b = (list_entry _ _ i h).0 in omega arith

  -- looked for among those found, exposed records are what they are among all slots
  pub found_scene : (twin : ℕ → ℕ → Bool) → by_found (scene S t st twin) (exposed_slots S t st) ≡ scene S t st twin
  unfolding by_found exposed_slots some_record holds
  found_scene twin =
      ap (λ (search : (Record → Bool) → Bool). record { slots = S; table = t; state = st; twin = twin; some_exposed = search })
      (fun_ext (λ f. some_listed (λ k. holds (is_exposed st) (t k)) S (λ k. holds f (t k)) ∙ some_cong S (λ k h. exposed_passing f (t k))))
    where
      exposed_passing : (f : Record → Bool) (s : Slot) → (holds (is_exposed st) s && holds f s) ≡ holds (λ r. is_exposed st r && f r) s
      exposed_passing f None = refl
      exposed_passing f (Some r) = refl

pub found_exactly : FoundExactly
unfolding exposed_slots is_exposed
found_exactly S t st k = (
  λ w. let p = found.0 w in let h = (holds_exactly (is_exposed st) (t k)).0 p.1 in (p.0, (h.0, h.1, ltb-true _ _ h.2)),
  λ p. found.1 (p.0, (holds_exactly (is_exposed st) (t k)).1 (p.1.0, p.1.1, lt-ltb _ _ p.1.2)),
)
  where
    found : ((i : ℕ) × (i < length (exposed_slots S t st)) × (get_or (exposed_slots S t st) i 0 ≡ k)) ↔ ((k < S) × (holds (is_exposed st) (t k) ≡ true))
    found = list_exactly (λ j. holds (is_exposed st) (t j)) S k

pub list_judged_by_found : JudgedByFound
list_judged_by_found S t st twin slots = ap (λ (s : Scene). may_erase_all s slots) (found_scene S t st twin)

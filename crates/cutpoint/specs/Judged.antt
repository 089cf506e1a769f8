-- What the functions that judge cuts give, as the definitions of crate everywhere have it.
use Rattle.std.specs.Prelude.{ℕ, ◌+◌, List, map, Bool}
use Rattle.bounded.specs.Limits.{Widths}
use Rattle.sizes.specs.declared.Sizes.{Sizes}
use Rattle.record.specs.Flash.{Flash, apply_all}
use Rattle.rules.specs.Erase.{erase_steps}
use Rattle.atomicity.specs.Family.{back_pointer}
use Rattle.atomicity.specs.Run.{done_of}
use Rattle.everywhere.specs.Cuts.{up_to, comes_back, sames, differs}
use Rattle.cutpoint.specs.declared.Tally.{Tally}

-- a tally with these cuts counted
unfoldable pub tallied : Tally → List Bool → Tally
tallied t cuts = record { same = t.same + sames cuts; differ = t.differ + differs cuts }

-- the cuts in an erase: for each listed slot k, of the flash before it with the listed slots up to k blanked
unfoldable pub erase_cuts : Widths → Sizes → Flash → (state : List ℕ) (kept : ℕ → List ℕ) (slots : List ℕ) → List Bool
erase_cuts widths sizes f state kept slots =
    map (λ k. comes_back back_pointer widths sizes (record { flash = apply_all sizes.width f (done_of (up_to slots k) 0 (erase_steps slots)); state = state }) kept) slots

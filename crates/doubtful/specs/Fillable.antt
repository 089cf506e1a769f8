-- What the tests of a call say of the flash and the listed slots, as facts.
use Rattle.std.specs.Prelude.{ℕ, ◌+◌, ◌*◌, ◌≤◌, ◌<◌, ◌≡◌, List, true, length, get_or}
use Rattle.std.proofs.Common.{arith}
use Rattle.std.proofs.Math.Dec.{ltb}
use borrow.Author.Tests.{ltb-true}
use Rattle.bounded.specs.Limits.{Widths}
use Rattle.bounded.specs.Choice.{both_left}
use Rattle.bounded.specs.BelowLaws.{all_at}
use Rattle.sizes.specs.declared.Sizes.{Sizes}
use Rattle.sizes.specs.Sizes.{in_range}
use Rattle.record.specs.Flash.{Flash, flash}
use Rattle.record.specs.FlashLaws.{Sized}
use Rattle.upkeep.specs.Doubtful.{doubtful_fits, doubtful_list_ok}
use Rattle.upkeep.proofs.laws.Fillings.{FitsFacts, fits_facts}

-- so many words have room for those of a filling and of its state
module _ (sizes : Sizes) (f : Flash) (out : List ℕ) (facts : FitsFacts sizes f out) where
  pub words_most : length f.words ≤ 5120
  words_most = let w = facts.flash_sized.words_sized in let s = facts.bounds.slots_most in omega arith

  pub state_most : 4 * sizes.pages ≤ 1024
  state_most = let p = facts.bounds.pages_most in omega arith

-- a flash whose fillings can be made: the listed slots are few, and slots of its table
pub record Fillable (sizes : Sizes) (words contents list : List ℕ) : Type 0 where
  pub flash_sized : Sized sizes.width sizes.slots (flash words contents)
  pub inside : (i : ℕ) → i < length list → get_or list i 0 < sizes.slots
  pub few : length list ≤ 8

module _ (sizes : Sizes) (words contents list : List ℕ) where
  pub fillable : (widths : Widths) (out : List ℕ) → doubtful_fits widths sizes (flash words contents) out ≡ true → doubtful_list_ok sizes.slots words list ≡ true → length list ≤ 8 → Fillable sizes words contents list
  unfolding doubtful_list_ok in_range
  fillable widths out fits listed few = record {
    flash_sized = (fits_facts widths sizes (flash words contents) out fits).flash_sized;
    inside = λ i h. ltb-true (get_or list i 0) sizes.slots (all_at (λ i. ltb (get_or list i 0) sizes.slots) (length list) i (both_left (in_range sizes.slots list) _ listed) h);
    few = few;
  }

  -- a listed slot's words are there
  pub words_in : Fillable sizes words contents list → (i : ℕ) → i < length list → 5 * get_or list i 0 + 5 ≤ length words
  words_in f i h = let b = f.inside i h in let s = f.flash_sized.words_sized in omega arith

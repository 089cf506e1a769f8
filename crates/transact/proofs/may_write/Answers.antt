use mathlib.Core.Path.{refl, sym}
use Rattle.outcome.specs.Result.{given_back, number_positive}
use Rattle.rules.proofs.laws.Chains.{write_chain, judged_refuses, judged_passes}
use Rattle.volume.specs.Held.{slice_passed}
use Rattle.transact.proofs.may_write.Goals as goal

pub returns-in_err-slice_judged : goal.returns-in_err-slice_judged
returns-in_err-slice_judged c = rw (given_back c.from_residual.result c.from_residual.ensures.1) (judged_refuses _ _ _ _ _ _ _ _ _ (write_chain _ _ _ _ _ _ _) refl _ c.in_err-slice_judged.ensures (number_positive _))

pub may_store-requires : goal.may_store-requires
may_store-requires c = slice_passed _ _ _ _ (sym c.in_ok-slice_judged.ensures)

pub returns : goal.returns
returns c = judged_passes _ _ _ _ _ _ _ _ _ (write_chain _ _ _ _ _ _ _) refl _ c.in_ok-slice_judged.ensures refl c.may_store.ensures

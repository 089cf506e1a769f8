-- `bpcc::promise_3` meets its contract: the theorems are cited. Assumes nothing.
use Rattle.atomicity.proofs.BackPointer.{back_pointer_lem}
use Rattle.atomicity.proofs.theorems.Promise.{promise_of, own_state}
use Rattle.atomicity.proofs.theorems.StatesAgree.{state_agrees}
use Rattle.atomicity.proofs.theorems.PremisesMet.{premises_met}
use Rattle.atomicity.proofs.theorems.StagesInOrder.{stages_in_order}
use Rattle.atomicity.proofs.theorems.RunsComputed.{runs_computed}
use Rattle.bpcc.proofs.promise_3.Goals as goal

pub returns : goal.returns
returns c = record {
  whole = promise_of back_pointer_lem;
  own = own_state back_pointer_lem;
  invariants = state_agrees back_pointer_lem;
  premises = premises_met back_pointer_lem;
  stages = stages_in_order back_pointer_lem;
  runs = runs_computed;
}

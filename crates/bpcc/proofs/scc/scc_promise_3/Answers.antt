-- `bpcc::scc::scc_promise_3` meets its contract: the theorems are cited. Assumes nothing.
use Rattle.bounded.specs.Limits.{two_widths}
use Rattle.atomicity.proofs.Simple.{simple_theory}
use Rattle.atomicity.proofs.theorems.Promise.{promise_of, own_state}
use Rattle.atomicity.proofs.theorems.StatesAgree.{state_agrees}
use Rattle.atomicity.proofs.theorems.PremisesMet.{premises_met}
use Rattle.atomicity.proofs.theorems.StagesInOrder.{stages_in_order}
use Rattle.atomicity.proofs.theorems.RunsComputed.{simple_runs_computed}
use Rattle.atomicity.proofs.theorems.Unburied.{unburied_again}
use Rattle.bpcc.proofs.scc.scc_promise_3.Goals as goal

pub returns : goal.returns
returns c = record {
  whole = promise_of simple_theory;
  widths = promise_of simple_theory two_widths;
  own = own_state simple_theory;
  invariants = state_agrees simple_theory;
  premises = premises_met simple_theory;
  stages = stages_in_order simple_theory;
  runs = simple_runs_computed;
  unburied = unburied_again;
}

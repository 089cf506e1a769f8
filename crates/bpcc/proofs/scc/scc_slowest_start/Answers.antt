-- `bpcc::scc::scc_slowest_start` meets its contract: the theorems are cited. Assumes nothing.
use Rattle.rules.proofs.laws.Links.{simple_links_at_most, simple_one_ring_reaches, simple_links_are_steps, simple_links_apart}
use Rattle.bpcc.proofs.scc.scc_slowest_start.Goals as goal

pub returns : goal.returns
returns c = record {
  most = simple_links_at_most;
  reached = simple_one_ring_reaches;
  steps = simple_links_are_steps;
  apart = simple_links_apart;
}

-- `bpcc::slowest_start` meets its contract: the theorems are cited. Assumes nothing.
use Rattle.rules.proofs.cases.Links.{link_rows_lem}
use Rattle.rules.proofs.laws.Links.{links_at_most, one_ring_reaches, links_are_steps, links_apart}
use Rattle.bpcc.proofs.slowest_start.Goals as goal

pub returns : goal.returns
returns c = record {
  most = links_at_most;
  reached = one_ring_reaches;
  steps = links_are_steps;
  apart = links_apart;
  links = link_rows_lem;
}

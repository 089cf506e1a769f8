-- `bpcc::meanings` meets its contract: the theorems are cited. Assumes nothing.
use Rattle.rules.proofs.laws.Meanings.{slot_means, arguments_mean, sound_means, table_means, twins_mean, verdict_means, permission_means, second_means, simply_means}
use Rattle.rules.proofs.laws.AnswersLaws.{settled_means, erase_means_lem, suggest_means, read_means, recover_means, twins_alone, simple_recover_means, simple_erase_means, bury_means}
use Rattle.bpcc.proofs.meanings.Goals as goal

pub returns : goal.returns
returns c = record {
  slots = slot_means;
  arguments = arguments_mean;
  sound = sound_means;
  table = table_means;
  twins = twins_mean;
  verdicts = verdict_means;
  permission = permission_means;
  second = second_means;
  simple = simply_means;
  settled = settled_means;
  erases = erase_means_lem;
  suggests = suggest_means;
  reads = read_means;
  recovers = recover_means;
  contents = twins_alone;
  sccrecovers = simple_recover_means;
  sccerases = simple_erase_means;
  sccburies = bury_means;
}

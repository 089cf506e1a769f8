use Prim.Native.Nat.{ℕ}
use Rattle.std.specs.Prelude.{◌≡◌, replicate}
use Rattle.std.proofs.Common.{ap}
use lib.ListN.{length-replicate}
use Rattle.rules.specs.Volume.{volume}
use Rattle.report.specs.Report.{Standing, standing}
use Rattle.script.specs.Held.{memory_of}
use Rattle.script_main.proofs.main.Goals as goal

pub run_all-requires : goal.run_all-requires
unfolding standing
run_all-requires c =
    let e : memory_of c.new-script.result.memory ≡ volume (replicate 5120 0) (replicate 32768 0) (replicate 1024 0) = ap (λ (s : Standing). s.memory) c.new-script.ensures.stands in
    rw e (record {
      words_room = length-replicate {A = ℕ} 5120 0;
      contents_room = length-replicate {A = ℕ} 32768 0;
      state_room = length-replicate {A = ℕ} 1024 0;
    })

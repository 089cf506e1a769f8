use Prim.Native.Nat.{ℕ}
use Rattle.std.specs.Prelude.{refl, List, length}
use Rattle.std.proofs.Common.{ap}
use Rattle.text.specs.Print.{shown}
use Rattle.feed.proofs.Script.new.Goals as goal

pub returns : goal.returns
unfolding shown
returns c = let line = c.new-line.ensures in
    let out = c.new-out.ensures in
    record {
      stands = rw c.start-run.ensures refl;
      holds = rw line.place refl;
      line_place = line.place;
      room = ap (λ (l : List ℕ). length l) line.holds;
      prints = rw out.place refl;
      out_place = out.place;
      out_room = ap (λ (l : List ℕ). length l) out.holds;
      same_memory = record { same_words = refl; same_contents = refl; same_state = refl; words_length = refl; contents_length = refl; state_length = refl };
      same_line = line.same_buffer;
      same_out = out.same_buffer;
    }

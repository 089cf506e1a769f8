-- Laws of a script's buffers: they are the same, and as long, behind one step and the next.
use Rattle.std.specs.Prelude.{List, ℕ, ◌≡◌, refl, length}
use Rattle.std.proofs.Common.{◌∙◌}
use Rattle.script.specs.declared.Memory.{Memory}
use Rattle.script.specs.Held.{SameBuffers}
use Rattle.feed.specs.declared.Script.{Script}
use Rattle.feed.specs.Stands.{SameHeld, SameRoom}

memory_stays : (m : Memory) → SameBuffers m m
memory_stays m = record { same_words = refl; same_contents = refl; same_state = refl; words_length = refl; contents_length = refl; state_length = refl }

memory_again : {m n o : Memory} → SameBuffers m n → SameBuffers n o → SameBuffers m o
memory_again first then = record {
  same_words = then.same_words ∙ first.same_words;
  same_contents = then.same_contents ∙ first.same_contents;
  same_state = then.same_state ∙ first.same_state;
  words_length = then.words_length ∙ first.words_length;
  contents_length = then.contents_length ∙ first.contents_length;
  state_length = then.state_length ∙ first.state_length;
}

-- as they are
pub room_stays : (s : Script) → SameRoom s s
room_stays s = record { same_held = record { same_memory = memory_stays s.memory; same_line = refl }; same_out = refl; line_length = refl; out_length = refl }

-- behind one step and behind the next
pub room_again : {a b c : Script} → SameRoom a b → SameRoom b c → SameRoom a c
room_again first then = record {
  same_held = record {
    same_memory = memory_again first.same_held.same_memory then.same_held.same_memory;
    same_line = then.same_held.same_line ∙ first.same_held.same_line;
  };
  same_out = then.same_out ∙ first.same_out;
  line_length = then.line_length ∙ first.line_length;
  out_length = then.out_length ∙ first.out_length;
}

-- where the memory, the line and the buffer of what is printed are left as they were
pub room_kept : (a b : Script) → b.memory ≡ a.memory → b.line ≡ a.line → b.out.out ≡ a.out.out → SameRoom a b
room_kept a b memory line out = record {
  same_held = record { same_memory = rw memory (memory_stays a.memory); same_line = rw line refl };
  same_out = rw out refl;
  line_length = rw line refl;
  out_length = rw out refl;
}

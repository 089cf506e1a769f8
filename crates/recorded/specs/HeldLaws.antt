-- Laws of the desk that the program holds: buffers of the same lengths are as ready.
use Rattle.std.specs.Prelude.{◌≡◌, ◌≤◌, refl, length}
use Rattle.std.proofs.Common.{arith, ◌∙◌}
use Rattle.bounded.specs.Limits.{two_widths}
use Rattle.sizes.specs.declared.Sizes.{Sizes}
use Rattle.sizes.specs.Sizes.{sizes_of}
use Rattle.recorded.specs.Desk.{Desk, Ready}
use Rattle.recorded.specs.Held.{SameLengths, SameBuffers}
use Rattle.recorded.specs.declared.Desk.{Desk as Held}

pub still_ready : (sizes : Sizes) (d e : Desk) → Ready two_widths sizes e → SameLengths d e → Ready two_widths sizes d
still_ready sizes d e r same =
    let f = r.fits in
    record {
      fits = record {
        bounds = f.bounds;
        allowed = f.allowed;
        flash_sized = record { words_sized = same.words ∙ f.flash_sized.words_sized; contents_sized = same.contents ∙ f.flash_sized.contents_sized };
        state_sized = same.state ∙ f.state_sized;
      };
      entered_room = rw same.entered r.entered_room;
      kept_room = rw same.kept r.kept_room;
    }

-- a desk of one page in two slots of 32 bytes, by its lengths
pub page_ready :
    (d : Desk) → length d.volume.flash.words ≡ 10 → length d.volume.flash.contents ≡ 64 → length d.volume.state ≡ 4 → 1 ≤ length d.entered → 1 ≤ length d.kept
    → Ready two_widths (sizes_of 1 2 32) d
unfolding two_widths
page_ready d words contents state entered kept = record {
  fits = record {
    bounds = record { one_page = omega arith; pages_most = omega arith; slots_least = omega arith; slots_most = omega arith };
    allowed = refl;
    flash_sized = record { words_sized = words; contents_sized = contents };
    state_sized = state;
  };
  entered_room = entered;
  kept_room = kept;
}

-- as they are
pub same_stays : (d : Held) → SameBuffers d d
same_stays d = record {
  same_words = refl;
  same_contents = refl;
  same_state = refl;
  same_entered = refl;
  same_kept = refl;
  same_lengths = record { words = refl; contents = refl; state = refl; entered = refl; kept = refl };
}

lengths_again : {d e f : Desk} → SameLengths e d → SameLengths f e → SameLengths f d
lengths_again first then = record {
  words = then.words ∙ first.words;
  contents = then.contents ∙ first.contents;
  state = then.state ∙ first.state;
  entered = then.entered ∙ first.entered;
  kept = then.kept ∙ first.kept;
}

-- of the same buffers behind one step and behind the next
pub same_again : {d e f : Held} → SameBuffers d e → SameBuffers e f → SameBuffers d f
same_again first then = record {
  same_words = then.same_words ∙ first.same_words;
  same_contents = then.same_contents ∙ first.same_contents;
  same_state = then.same_state ∙ first.same_state;
  same_entered = then.same_entered ∙ first.same_entered;
  same_kept = then.same_kept ∙ first.same_kept;
  same_lengths = lengths_again first.same_lengths then.same_lengths;
}

-- Memory with room for every volume that a format line can name, as script_main has it: so the line is answered by its numbers alone.
use Rattle.std.specs.Prelude.{ℕ, ◌*◌, ◌≤◌, ◌≡◌, List, true, not, length}
use Rattle.std.proofs.Common.{arith}
use Rattle.std.proofs.Math.Path.{subst}
use Rattle.std.proofs.Math.ListN.{length-take}
use Rattle.bounded.specs.Limits.{two_widths}
use Rattle.bounded.specs.Choice.{same_test}
use Rattle.outcome.specs.Outcome.{◌⇒◌otherwise◌}
use Rattle.sizes.specs.declared.Sizes.{Sizes}
use Rattle.sizes.specs.Sizes.{sizes_of, sizes_ok}
use Rattle.sizes.proofs.SizesLaws.{sizes_facts, sizes_test}
use Rattle.line.specs.Line.{Said, line_means}
use Rattle.line.proofs.Says.{line_says}
use Rattle.rules.specs.Volume.{Volume, volume_fits}
use Rattle.rules.specs.Format.{format_answer_in, format_answer}
use Rattle.rules.proofs.laws.Volume.{fits_facts, fits_test}
use Rattle.script.specs.Memory.{in_use}

-- room for 1,024 slots of 32 bytes or, where document 02 stops, 512 of 64, and for 256 pages
pub record Room (memory : Volume) : Type 0 where
  pub words_room : length memory.flash.words ≡ 5120
  pub contents_room : length memory.flash.contents ≡ 32768
  pub state_room : length memory.state ≡ 1024

-- ---- what a line can name

-- sizes that a line names and the library takes have contents of at most 32,768 bytes
Named : Said → Type 0
Named (Said.Format z) = sizes_ok two_widths z ≡ true → z.width * z.slots ≤ 32768
Named (Said.Launch pages) = Unit {0}
Named (Said.Write page slot fill) = Unit {0}
Named (Said.Withdraw page) = Unit {0}
Named (Said.Erase slots) = Unit {0}
Named Said.Recover = Unit {0}
Named Said.Cut = Unit {0}
Named Said.Listing = Unit {0}
Named Said.Malformed = Unit {0}

-- "width=64, then with at most 512 slots (more prints answer=line); without it the width is 32"
line_named : (k : ℕ) (line : List ℕ) → Named (line_means k line)
unfolding Named
line_named =
    line_says Named
    (record {
      narrow = λ pages slots ok. let b = (sizes_facts two_widths (sizes_of pages slots 32) ok).0.slots_most in omega arith;
      wide = λ pages slots h ok. omega arith;
      launch = λ pages. tt;
      write = λ page slot fill h. tt;
      withdraw = λ page. tt;
      erase = λ slots. tt;
      recover = tt;
      cut = tt;
      listing = tt;
      malformed = tt;
    })

-- ---- so memory is enough

module _ (k : ℕ) (line : List ℕ) (z : Sizes) (says : line_means k line ≡ Said.Format z) (memory : Volume) (room : Room memory) where
  -- memory has the volume that the line names exactly where its numbers are those of a volume
  fits_by_sizes : volume_fits two_widths z (in_use z memory) ≡ sizes_ok two_widths z
  unfolding in_use Named
  fits_by_sizes =
      same_test (volume_fits two_widths z (in_use z memory)) (sizes_ok two_widths z)
      (λ e. let f = fits_facts two_widths z (in_use z memory) e in sizes_test two_widths z f.bounds f.allowed)
      (λ ok.
      let b = sizes_facts two_widths z ok in
      let c : z.width * z.slots ≤ 32768 = subst Named says (line_named k line) ok in
      let S = b.0.slots_most in
      let P = b.0.pages_most in
      fits_test two_widths z (in_use z memory)
      (record {
        bounds = b.0;
        allowed = b.1;
        flash_sized = record {
          words_sized = let e = length-take (5 * z.slots) memory.flash.words in let r = room.words_room in omega arith;
          contents_sized = let e = length-take (z.width * z.slots) memory.flash.contents in let r = room.contents_room in omega arith;
        };
        state_sized = let e = length-take (4 * z.pages) memory.state in let r = room.state_room in omega arith;
      }))

  -- A format line answers 0 exactly where its numbers are those of a volume, and else 1.
  pub format_by_sizes : format_answer two_widths z (in_use z memory) ≡ (not (sizes_ok two_widths z) ⇒ 1 otherwise 0)
  unfolding format_answer_in
  format_by_sizes = rw fits_by_sizes

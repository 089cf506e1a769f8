-- The loop has written the slots below k, and nothing else; written whole, the buffers are the formatted ones.
use mathlib.Core.Path.{◌≡◌}
use lib.ListN.{length}
use Rattle.bounded.specs.Fill.{filled}
use Rattle.sizes.specs.Sizes.{stride_of}
use Rattle.volume.specs.FormatLaws.{fresh_words, fresh_bytes}
use Rattle.volume.proofs.format_flash.Given as goal

abbrev pub invariant-loop-k : goal.invariant-loop-k
invariant-loop-k l = (l.words ≡ filled (stride_of l.layout) (fresh_words l.layout l.sizes.pages) l.k l.initial.words)
    × (l.contents ≡ filled l.sizes.width (fresh_bytes l.sizes.width l.sizes.pages) l.k l.initial.contents)
    × (length l.words ≡ length l.initial.words)
    × (length l.contents ≡ length l.initial.contents)

use Prim.Native.Nat.{ℕ}
use native.Mathlib.Omega.{arith}
use mathlib.Core.Path.{◌≡◌, refl, ap, ◌∙◌}
use Rattle.bounded.specs.Parts.{put_part}
use Rattle.bounded.specs.PartsLaws.{part_inside}
use Rattle.bounded.specs.Fill.{filled, filled_none, filled_more}
use Rattle.sizes.specs.Sizes.{stride_of}
use Rattle.volume.specs.FormatLaws.{fresh_words, fresh_bytes, words_formatted, contents_formatted}
use Rattle.volume.proofs.format_flash.Goals as goal

pub loop-k-init : goal.loop-k-init
loop-k-init c = let a = c.args in
    (filled_none (stride_of a.layout) (fresh_words a.layout a.sizes.pages) _, filled_none a.sizes.width (fresh_bytes a.sizes.width a.sizes.pages) _, refl, refl)

pub format_slot-requires : goal.format_slot-requires
format_slot-requires c = let l = c.loop-k in
    let words_inside = part_inside (stride_of c.args.layout) c.args.sizes.slots l.k c.loop-k-test.true in
    let inside = part_inside c.args.sizes.width c.args.sizes.slots l.k c.loop-k-test.true in
    record { layout_in_bounds = omega arith; width_in_bounds = omega arith; width_bound = c.requires.width_bound }

pub loop-k-preserved : goal.loop-k-preserved
loop-k-preserved c = let a = c.args in
    let l = c.loop-k in
    let s = c.format_slot in (
      s.ensures.words_after
          ∙ ap (put_part (stride_of a.layout) l.k (fresh_words a.layout a.sizes.pages l.k)) l.invariant.0
          ∙ filled_more (stride_of a.layout) (fresh_words a.layout a.sizes.pages) a.words.now l.k,
      s.ensures.contents_after
          ∙ ap (put_part a.sizes.width l.k (fresh_bytes a.sizes.width a.sizes.pages l.k)) l.invariant.1
          ∙ filled_more a.sizes.width (fresh_bytes a.sizes.width a.sizes.pages) a.contents.now l.k,
      s.auto.words ∙ l.invariant.2,
      s.auto.contents ∙ l.invariant.3,
    )

pub returns : goal.returns
returns c = let a = c.args in
    let l = c.loop-k in
    let e : l.k ≡ a.sizes.slots = omega arith in record {
      words_after = l.invariant.0
          ∙ ap (λ (n : ℕ). filled (stride_of a.layout) (fresh_words a.layout a.sizes.pages) n a.words.now) e
          ∙ words_formatted a.layout a.sizes a.words.now c.requires.words_len;
      contents_after = l.invariant.1
          ∙ ap (λ (n : ℕ). filled a.sizes.width (fresh_bytes a.sizes.width a.sizes.pages) n a.contents.now) e
          ∙ contents_formatted a.sizes a.contents.now c.requires.contents_len;
    }

-- What format writes slot by slot, and that it leaves the formatted flash.
use Rattle.std.specs.Prelude.{ℕ, ◌*◌, ◌≤◌, ◌<◌, ◌≡◌, List, cond, ltb, length, replicate}
use Rattle.std.proofs.Math.ListN.{length-replicate}
use Rattle.std.proofs.Common.{lt-ltb, le-ltb}
use Rattle.bounded.specs.Fill.{filled, filled_all}
use Rattle.sizes.specs.declared.Layout.{Layout}
use Rattle.sizes.specs.declared.Sizes.{Sizes}
use Rattle.sizes.specs.Sizes.{stride_of}
use Rattle.record.specs.Slot.{encoded, formatted_record, blank_record}
use Rattle.record.specs.SlotLaws.{encoded_length}
use Rattle.state.specs.declared.PageState.{PageState}
use Rattle.state.specs.State.{page_words, state_words}
use Rattle.state.specs.StateLaws.{length_page_words}
use Rattle.table.specs.Given.{one_each}
use Rattle.rules.specs.Format.{formatted_words, formatted_contents}

-- "slot i below P holds (i, 0, 0, i, 0) …; all other slots are blank": the words of slot k
unfoldable pub fresh_words : Layout → (P k : ℕ) → List ℕ
fresh_words layout P k = encoded layout (cond (ltb k P) (formatted_record k) blank_record)

-- "… with 32 zero bytes; all other slots are … with bytes 255": the bytes of slot k, for w of them
unfoldable pub fresh_bytes : (w P k : ℕ) → List ℕ
fresh_bytes w P k = replicate w (cond (ltb k P) 0 255)

module _ (P k : ℕ) where
  pub length_fresh_words : (layout : Layout) → length (fresh_words layout P k) ≡ stride_of layout
  unfolding fresh_words
  length_fresh_words layout = encoded_length layout (cond (ltb k P) (formatted_record k) blank_record)

  pub length_fresh_bytes : (w : ℕ) → length (fresh_bytes w P k) ≡ w
  unfolding fresh_bytes
  length_fresh_bytes w = length-replicate w (cond (ltb k P) 0 255)

  -- a slot that holds a page
  pub words_of_page : (layout : Layout) → k < P → fresh_words layout P k ≡ encoded layout (formatted_record k)
  unfolding fresh_words
  words_of_page layout h = rw (lt-ltb k P h)

  pub bytes_of_page : (w : ℕ) → k < P → fresh_bytes w P k ≡ replicate w 0
  unfolding fresh_bytes
  bytes_of_page w h = rw (lt-ltb k P h)

  -- a free slot
  pub words_of_free : (layout : Layout) → P ≤ k → fresh_words layout P k ≡ encoded layout blank_record
  unfolding fresh_words
  words_of_free layout h = rw (le-ltb k P h)

  pub bytes_of_free : (w : ℕ) → P ≤ k → fresh_bytes w P k ≡ replicate w 255
  unfolding fresh_bytes
  bytes_of_free w h = rw (le-ltb k P h)

-- all slots written
pub words_formatted : (layout : Layout) (sizes : Sizes) (words : List ℕ) → length words ≡ stride_of layout * sizes.slots → filled (stride_of layout) (fresh_words layout sizes.pages) sizes.slots words ≡ formatted_words layout sizes
unfolding formatted_words one_each fresh_words
words_formatted layout sizes words e = filled_all (stride_of layout) (fresh_words layout sizes.pages) words sizes.slots e (λ k. length_fresh_words sizes.pages k layout)

pub contents_formatted : (sizes : Sizes) (contents : List ℕ) → length contents ≡ sizes.width * sizes.slots → filled sizes.width (fresh_bytes sizes.width sizes.pages) sizes.slots contents ≡ formatted_contents sizes
unfolding formatted_contents fresh_bytes
contents_formatted sizes contents e = filled_all sizes.width (fresh_bytes sizes.width sizes.pages) contents sizes.slots e (λ k. length_fresh_bytes sizes.pages k sizes.width)

-- all pages of a state written, each as st says
pub state_filled : (P : ℕ) (st : ℕ → PageState) (state : List ℕ) → length state ≡ 4 * P → filled 4 (λ p. page_words (st p)) P state ≡ state_words P st
unfolding state_words
state_filled P st state e = filled_all 4 (λ p. page_words (st p)) state P e (λ p. length_page_words (st p))

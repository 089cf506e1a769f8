-- Blanking a slot that is blank with bytes 255 alters nothing.
use Rattle.std.specs.Prelude.{ℕ, zero, suc, ◌*◌, ◌<◌, ◌≡◌, length, get_or, replicate}
use Rattle.std.proofs.Common.{arith, ◌∙◌}
use Rattle.std.proofs.Math.Path.{refl, sym, ap, ap₂}
use mathlib.Core.List.{List, [], ◌∷◌, map, Memᴰ}
use Rattle.std.proofs.lemmas.List.{length-replicate}
use Rattle.std.proofs.Math.Seq.{ext_get_or}
use Rattle.bounded.specs.Limits.{no_number}
use Rattle.bounded.specs.Choice.{on_eq}
use Rattle.bounded.specs.Parts.{part, put_part}
use Rattle.bounded.specs.PartsLaws.{part_length, part_put_same, part_put_other, length_put_part, parts_ext}
use Rattle.sizes.specs.declared.Layout.{Layout}
use Rattle.sizes.specs.declared.Layout.TheVariants.{FiveWords, FourWords}
use Rattle.sizes.specs.Sizes.{stride_of}
use Rattle.std.specs.Prelude.{None}
use Rattle.record.specs.Slot.{encoded, slot_in, bytes_at, blank_record}
use Rattle.record.specs.SlotLaws.{encoded_length, slot_blank_exactly}
use Rattle.record.specs.Flash.{Flash, flash, Step, put_slot_in, apply_in, apply_all_in}
use Rattle.record.specs.FlashLaws.{SizedIn, Blanked}

-- the words of a blank record
none_at : (layout : Layout) (i : ℕ) → i < stride_of layout → get_or (encoded layout blank_record) i no_number ≡ no_number
unfolding encoded blank_record
none_at FiveWords zero h = refl
none_at FiveWords (suc zero) h = refl
none_at FiveWords (suc (suc zero)) h = refl
none_at FiveWords (suc (suc (suc zero))) h = refl
none_at FiveWords (suc (suc (suc (suc zero)))) h = refl
none_at FiveWords (suc (suc (suc (suc (suc i))))) h = absurd (omega arith)
none_at FourWords zero h = refl
none_at FourWords (suc zero) h = refl
none_at FourWords (suc (suc zero)) h = refl
none_at FourWords (suc (suc (suc zero))) h = refl
none_at FourWords (suc (suc (suc (suc i)))) h = absurd (omega arith)

module _ (layout : Layout) (w S : ℕ) where
  -- a blank slot has those
  blank_words : (words : List ℕ) (k : ℕ) → k < S → length words ≡ stride_of layout * S → slot_in layout words k ≡ None → part (stride_of layout) k words ≡ encoded layout blank_record
  unfolding slot_in
  blank_words words k h q e =
      let l = part_length (stride_of layout) S k words h q in
      let m = encoded_length layout blank_record in
      let each = (slot_blank_exactly layout (part (stride_of layout) k words)).0 e in
      ext_get_or no_number (part (stride_of layout) k words) (encoded layout blank_record) (l ∙ sym m) (λ i b. each i (omega arith) ∙ sym (none_at layout i (omega arith)))

  -- writing over a part what stands there alters nothing
  put_own : (n k : ℕ) (s l : List ℕ) → k < S → length s ≡ n → length l ≡ n * S → part n k l ≡ s → put_part n k s l ≡ l
  put_own n k s l h e q same =
      parts_ext n S (put_part n k s l) l (length_put_part n S k s l h e q ∙ q) q
      (λ j b. on_eq j k
      (λ r. ap (λ (x : ℕ). part n x (put_part n k s l)) r ∙ part_put_same n S k s l h e q ∙ sym same ∙ ap (λ (x : ℕ). part n x l) (sym r))
      (λ d. part_put_other n S k j s l h e q d))

  pub blank_again : (f : Flash) (k : ℕ) → SizedIn layout w S f → k < S → Blanked layout w f k → apply_in layout w f (Step.Blank k) ≡ f
  unfolding apply_in put_slot_in bytes_at
  blank_again f k size h b =
      ap₂ {C = Flash} flash
      (put_own (stride_of layout) k (encoded layout blank_record) f.words h (encoded_length layout blank_record) size.words_sized (blank_words f.words k h size.words_sized b.slot_blank))
      (put_own w k (replicate w 255) f.contents h (length-replicate w 255) size.contents_sized b.bytes_blank)

  pub blanks_again : (slots : List ℕ) (f : Flash) → SizedIn layout w S f → ((k : ℕ) → Memᴰ k slots → (k < S) × Blanked layout w f k) → apply_all_in layout w f (map Step.Blank slots) ≡ f
  unfolding apply_all_in
  blanks_again [] f size each = refl
  blanks_again (k ∷ slots) f size each =
      let b = each k (Memᴰ.head refl) in
      ap (λ (g : Flash). apply_all_in layout w g (map Step.Blank slots)) (blank_again f k size b.0 b.1) ∙ blanks_again slots f size (λ j m. each j (Memᴰ.tail m))

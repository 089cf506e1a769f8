-- Storing or blanking slot k changes slot k to that record and bytes and no other slot; and what a list of steps leaves.
use Rattle.std.specs.Prelude.{ℕ, suc, ◌*◌, ◌<◌, ◌≡◌, length, take, get_or, replicate}
use Rattle.std.proofs.Common.{arith, sym, ◌∙◌, subst}
use Rattle.std.proofs.Math.Path.{refl, ap}
use Rattle.std.proofs.Math.Logic.{⊎_elim}
use mathlib.Core.List.Memᴰ
use mathlib.Core.List.{List, [], ◌∷◌, ◌++◌, map, Memᴰ}
use Rattle.std.proofs.lemmas.List.{length-replicate}
use Rattle.bounded.specs.Choice.{on_eq}
use Rattle.bounded.specs.Parts.{part, put_part, update}
use Rattle.bounded.specs.PartsLaws.{parts_put, update_map, update_same, update_other, length_put_part}
use Rattle.sizes.specs.declared.Layout.{Layout}
use Rattle.sizes.specs.declared.Layout.TheVariants.{FiveWords}
use Rattle.sizes.specs.Sizes.{stride_of}
use Rattle.record.specs.declared.Record.{Record}
use Rattle.record.specs.Slot.{Slot}
use Rattle.std.specs.Prelude.{None, Some}
use Rattle.record.specs.Slot.{encoded, slot_from, slot_in, bytes_at, blank_record}
use Rattle.record.specs.SlotLaws.{encoded_length, Storable, slot_decoded, slot_of_none}
use Rattle.record.specs.Flash.{Flash, Step, put_slot_in, apply_in, apply_all_in}

-- "The slot table has 5×S … words, the contents 32×S bytes", for w bytes a slot
pub record SizedIn (layout : Layout) (w S : ℕ) (f : Flash) : Type 0 where
  pub words_sized : length f.words ≡ stride_of layout * S
  pub contents_sized : length f.contents ≡ w * S

abbrev pub Sized : (w S : ℕ) → Flash → Type 0
Sized w S f = SizedIn FiveWords w S f

-- ---- one part written

-- the slots and the bytes after slot k's words or bytes are written
slots_put : (layout : Layout) (S k : ℕ) (r : Record) (words : List ℕ) → k < S → length words ≡ stride_of layout * S → slot_in layout (put_part (stride_of layout) k (encoded layout r) words) ≡ update (slot_in layout words) k (slot_from layout (encoded layout r))
unfolding slot_in
slots_put layout S k r words h q =
    ap {B = ℕ → Slot} (λ (t : ℕ → List ℕ) i. slot_from layout (t i)) (parts_put (stride_of layout) S k (encoded layout r) words h (encoded_length layout r) q)
    ∙ update_map (slot_from layout) (λ i. part (stride_of layout) i words) k (encoded layout r)

pub bytes_put : (w S k : ℕ) (bytes contents : List ℕ) → k < S → length bytes ≡ w → length contents ≡ w * S → bytes_at w (put_part w k bytes contents) ≡ update (bytes_at w contents) k bytes
unfolding bytes_at
bytes_put w S k bytes contents h e q = parts_put w S k bytes contents h e q

-- ---- one step

module _ (layout : Layout) (w S : ℕ) (f : Flash) (size : SizedIn layout w S f) (k : ℕ) (inside : k < S) where
  module _ (r : Record) (bytes : List ℕ) (whole : length bytes ≡ w) where
    -- each buffer keeps its length
    pub put_sized : SizedIn layout w S (put_slot_in layout w f k r bytes)
    unfolding put_slot_in
    put_sized = record {
      words_sized = length_put_part (stride_of layout) S k (encoded layout r) f.words inside (encoded_length layout r) size.words_sized ∙ size.words_sized;
      contents_sized = length_put_part w S k bytes f.contents inside whole size.contents_sized ∙ size.contents_sized;
    }

    pub store_sized : SizedIn layout w S (apply_in layout w f (Step.Store k r bytes))
    unfolding apply_in
    store_sized = put_sized

    -- slot k holds the stored record, with the stored bytes; every other slot is as it was
    pub store_slots : Storable layout r → slot_in layout (apply_in layout w f (Step.Store k r bytes)).words ≡ update (slot_in layout f.words) k (Some r)
    unfolding apply_in put_slot_in
    store_slots h =
        slots_put layout S k r f.words inside size.words_sized ∙ ap (update (slot_in layout f.words) k) (slot_decoded layout r h)

    pub store_bytes : bytes_at w (apply_in layout w f (Step.Store k r bytes)).contents ≡ update (bytes_at w f.contents) k bytes
    unfolding apply_in put_slot_in
    store_bytes = bytes_put w S k bytes f.contents inside whole size.contents_sized

  pub blank_sized : SizedIn layout w S (apply_in layout w f (Step.Blank k))
  unfolding apply_in
  blank_sized = put_sized blank_record (replicate w 255) (length-replicate w 255)

  -- slot k is blank with bytes 255; every other slot is as it was
  pub blank_slots : slot_in layout (apply_in layout w f (Step.Blank k)).words ≡ update (slot_in layout f.words) k None
  unfolding apply_in put_slot_in
  blank_slots =
      slots_put layout S k blank_record f.words inside size.words_sized ∙ ap (update (slot_in layout f.words) k) (slot_of_none layout)

  pub blank_bytes : bytes_at w (apply_in layout w f (Step.Blank k)).contents ≡ update (bytes_at w f.contents) k (replicate w 255)
  unfolding apply_in put_slot_in
  blank_bytes = bytes_put w S k (replicate w 255) f.contents inside (length-replicate w 255) size.contents_sized

-- equal tables have equal slots
pub at_slot : {A : Type 0} {f g : ℕ → A} → f ≡ g → (i : ℕ) → f i ≡ g i
at_slot {A} e i = ap (λ (t : ℕ → A). t i) e

-- ---- a list of steps

pub apply_append : (layout : Layout) (w : ℕ) (f : Flash) (first then : List Step) → apply_all_in layout w f (first ++ then) ≡ apply_all_in layout w (apply_all_in layout w f first) then
unfolding apply_all_in
apply_append layout w f [] then = refl
apply_append layout w f (s ∷ first) then = apply_append layout w (apply_in layout w f s) first then

-- a counting loop that blanks the listed slots: at 0, and one slot more
pub blanks_none : (layout : Layout) (w : ℕ) (f : Flash) (slots : List ℕ) → apply_all_in layout w f (map Step.Blank (take 0 slots)) ≡ f
unfolding apply_all_in
blanks_none layout w f [] = refl
blanks_none layout w f (k ∷ slots) = refl

-- slot i is "blank with bytes 255"
pub record Blanked (layout : Layout) (w : ℕ) (f : Flash) (i : ℕ) : Type 0 where
  pub slot_blank : slot_in layout f.words i ≡ None
  pub bytes_blank : bytes_at w f.contents i ≡ replicate w 255

-- slot i of g is as it is in f
pub record SameSlot (layout : Layout) (w : ℕ) (f g : Flash) (i : ℕ) : Type 0 where
  pub same_slot : slot_in layout g.words i ≡ slot_in layout f.words i
  pub same_bytes : bytes_at w g.contents i ≡ bytes_at w f.contents i

-- the members of a list are its entries by index
pub members_below : (S : ℕ) (l : List ℕ) → ((i : ℕ) → i < length l → get_or l i 0 < S) → (k : ℕ) → Memᴰ k l → k < S
members_below S [] h k m = absurd (Memᴰ.not-nil m)
members_below S (x ∷ l) h k m =
    ⊎_elim
    (λ e. let b : x < S = h 0 (omega arith) in omega arith)
    (λ n. members_below S l (λ i b. h (suc i) (omega arith)) k n)
    (Memᴰ.cases_cons m)

module _ (layout : Layout) (w S : ℕ) where
  -- one slot blanked: it is blanked, and every other is as it was
  pub blank_here : (f : Flash) (k : ℕ) → SizedIn layout w S f → k < S → Blanked layout w (apply_in layout w f (Step.Blank k)) k
  blank_here f k size h = record {
    slot_blank = at_slot (blank_slots layout w S f size k h) k ∙ update_same (slot_in layout f.words) k None;
    bytes_blank = at_slot (blank_bytes layout w S f size k h) k ∙ update_same (bytes_at w f.contents) k (replicate w 255);
  }

  pub blank_elsewhere : (f : Flash) (k i : ℕ) → SizedIn layout w S f → k < S → ¬ (i ≡ k) → SameSlot layout w f (apply_in layout w f (Step.Blank k)) i
  blank_elsewhere f k i size h d = record {
    same_slot = at_slot (blank_slots layout w S f size k h) i ∙ update_other (slot_in layout f.words) k None i d;
    same_bytes = at_slot (blank_bytes layout w S f size k h) i ∙ update_other (bytes_at w f.contents) k (replicate w 255) i d;
  }

  -- a blanked slot stays so
  blank_stays : (f : Flash) (k i : ℕ) → SizedIn layout w S f → k < S → Blanked layout w f i → Blanked layout w (apply_in layout w f (Step.Blank k)) i
  blank_stays f k i size h b =
      on_eq i k
      (λ e. subst (Blanked layout w (apply_in layout w f (Step.Blank k))) (sym e) (blank_here f k size h))
      (λ d. let s = blank_elsewhere f k i size h d in record { slot_blank = s.same_slot ∙ b.slot_blank; bytes_blank = s.same_bytes ∙ b.bytes_blank })

  blanks_stay : (slots : List ℕ) (f : Flash) (i : ℕ) → SizedIn layout w S f → ((k : ℕ) → Memᴰ k slots → k < S) → Blanked layout w f i → Blanked layout w (apply_all_in layout w f (map Step.Blank slots)) i
  unfolding apply_all_in
  blanks_stay [] f i size inside b = b
  blanks_stay (k ∷ slots) f i size inside b =
      let h = inside k (Memᴰ.head refl) in
      blanks_stay slots (apply_in layout w f (Step.Blank k)) i (blank_sized layout w S f size k h) (λ j m. inside j (Memᴰ.tail m)) (blank_stays f k i size h b)

  -- a list of slots blanked: each buffer keeps its length
  pub blanks_sized : (slots : List ℕ) (f : Flash) → SizedIn layout w S f → ((k : ℕ) → Memᴰ k slots → k < S) → SizedIn layout w S (apply_all_in layout w f (map Step.Blank slots))
  unfolding apply_all_in
  blanks_sized [] f size inside = size
  blanks_sized (k ∷ slots) f size inside =
      blanks_sized slots (apply_in layout w f (Step.Blank k)) (blank_sized layout w S f size k (inside k (Memᴰ.head refl))) (λ j m. inside j (Memᴰ.tail m))

  -- a listed slot is blank with bytes 255
  pub blanks_listed : (slots : List ℕ) (f : Flash) (i : ℕ) → SizedIn layout w S f → ((k : ℕ) → Memᴰ k slots → k < S) → Memᴰ i slots → Blanked layout w (apply_all_in layout w f (map Step.Blank slots)) i
  unfolding apply_all_in
  blanks_listed [] f i size inside m = absurd (Memᴰ.not-nil m)
  blanks_listed (k ∷ slots) f i size inside m =
      let h = inside k (Memᴰ.head refl) in
      let size' = blank_sized layout w S f size k h in
      let inside' : (j : ℕ) → Memᴰ j slots → j < S = λ j n. inside j (Memᴰ.tail n) in
      ⊎_elim
      (λ e. blanks_stay slots (apply_in layout w f (Step.Blank k)) i size' inside' (subst (Blanked layout w (apply_in layout w f (Step.Blank k))) (sym e) (blank_here f k size h)))
      (λ n. blanks_listed slots (apply_in layout w f (Step.Blank k)) i size' inside' n)
      (Memᴰ.cases_cons m)

  -- a slot that is not listed is as it was
  pub blanks_unlisted : (slots : List ℕ) (f : Flash) (i : ℕ) → SizedIn layout w S f → ((k : ℕ) → Memᴰ k slots → k < S) → ¬ Memᴰ i slots → SameSlot layout w f (apply_all_in layout w f (map Step.Blank slots)) i
  unfolding apply_all_in
  blanks_unlisted [] f i size inside m = record { same_slot = refl; same_bytes = refl }
  blanks_unlisted (k ∷ slots) f i size inside m =
      let h = inside k (Memᴰ.head refl) in
      let one = blank_elsewhere f k i size h (λ e. m (Memᴰ.head e)) in
      let rest = blanks_unlisted slots (apply_in layout w f (Step.Blank k)) i (blank_sized layout w S f size k h) (λ j n. inside j (Memᴰ.tail n)) (λ n. m (Memᴰ.tail n)) in
      record { same_slot = rest.same_slot ∙ one.same_slot; same_bytes = rest.same_bytes ∙ one.same_bytes }

-- Each lent part comes back as its writer leaves it, and the rest of its slice is as it was.
use Prim.Native.Nat.{ℕ, ◌+◌, ◌*◌, ◌-◌, ◌≤◌}
use mathlib.Core.Path.{◌≡◌, refl, sym, ap, ◌∙◌, subst}
use mathlib.Core.List.{List}
use lib.ListN.{length}
use borrow.Rule.Slice.PartMut.{put_mid}
use Rattle.bounded.specs.Parts.{put_part}
use Rattle.record.specs.Slot.{encoded}
use Rattle.record.specs.SlotLaws.{encoded_length}
use Rattle.record.specs.CopyLaws.{lent_part}
use Rattle.record.proofs.flash.put_slot.Goals as goal

-- the stride, as the code has it
inside : {n w : ℕ} (k m : ℕ) → n ≡ w → w * k + w ≤ m → n * k + n ≤ m
inside k m e h = subst (λ (x : ℕ). x * k + x ≤ m) (sym e) h

lent_as : {n w : ℕ} (xs ys s : List ℕ) (k : ℕ) → n ≡ w → ys ≡ s → length s ≡ w → put_mid (n * k) (n * k + n - n * k) xs ys ≡ put_part w k s xs
lent_as {n} {w} xs ys s k e h l = lent_part xs ys s n k h (l ∙ sym e) ∙ ap (λ (x : ℕ). put_part x k s xs) e

pub returns : goal.returns
returns c = let s = c.store_record in
    let t = c.copy_contents in
    let n = c.stride-n in
    let a = c.args in record { words_after = lent_as a.words.now s.new.part (encoded a.layout a.«record») a.slot n.ensures s.ensures (encoded_length a.layout a.«record»); contents_after = lent_part a.contents.now t.new.to a.bytes.now _ a.slot t.ensures refl }

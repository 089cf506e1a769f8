-- The words read are the slice's; of four, the fifth is a blank slot's, so that the record's test is the slot's.
use Rattle.std.specs.Prelude.{ℕ, ◌≡◌, Bool, true, false, cond, List, Option, None, Some}
use Rattle.std.proofs.Common.{arith, sym, ap, ◌∙◌}
use Rattle.sizes.specs.declared.Layout.TheVariants.{FiveWords, FourWords}
use Rattle.record.specs.declared.Record.{Record}
use Rattle.record.specs.Slot.{Slot, encoded, decoded, slot_from}
use Rattle.record.specs.SlotLaws.{slot_blank, slot_holds, five_words, four_blank, four_decoded}
use Rattle.record.proofs.decode_slot.Goals as goal

none_told : (b : Bool) (r : Record) → None ≡ cond b None (Some r) → b ≡ true
none_told true r e = cc
none_told false r e = let z : ◌≡◌ {A = ℕ} 0 1 = cc in absurd (omega arith)

some_told : (b : Bool) (r q : Record) → Some q ≡ cond b None (Some r) → (b ≡ false) × (q ≡ r)
some_told true r q e = let z : ◌≡◌ {A = ℕ} 0 1 = cc in absurd (omega arith)
some_told false r q e = (cc, cc)

pub returns-in-FiveWords : goal.returns-in-FiveWords
unfolding slot_from decoded encoded
returns-in-FiveWords c = let a = c.args in
    let i = c.in-FiveWords.is in
    rw i (c.unless_blank.ensures ∙ sym (ap (λ (ws : List ℕ). slot_from FiveWords ws) (five_words a.words.now (rw i at c.requires))))

pub returns-in_err-record-in-FourWords : goal.returns-in_err-record-in-FourWords
returns-in_err-record-in-FourWords c = let ws = c.args.words.now in
    let i = c.in-FourWords.is in
    let blank = none_told _ _ (sym c.in_err-record-in-FourWords.was ∙ c.unless_blank-in-FourWords.ensures) in
    rw i (c.from_residual.ensures ∙ sym (slot_blank FourWords ws (sym (four_blank ws (rw i at c.requires)) ∙ blank)))

pub returns-in_ok-record-in-FourWords : goal.returns-in_ok-record-in-FourWords
returns-in_ok-record-in-FourWords c = let ws = c.args.words.now in
    let i = c.in-FourWords.is in
    let some = some_told _ _ _ (sym c.in_ok-record-in-FourWords.was ∙ c.unless_blank-in-FourWords.ensures) in
    let e = rw i at c.requires in
    rw i
    (ap (λ (r : Record). Some (record { p = r.p; v = r.v; c = 0; np = r.np; nv = r.nv })) some.1
    ∙ sym (slot_holds FourWords ws (sym (four_blank ws e) ∙ some.0) ∙ ap Some (four_decoded ws e)))

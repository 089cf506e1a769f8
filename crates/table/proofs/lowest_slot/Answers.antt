use Prim.Native.Nat.{ℕ}
use native.Mathlib.Omega.{arith}
use mathlib.Core.Path.{◌≡◌, sym, ap, ◌∙◌}
use mathlib.Core.Bool.{false}
use Rattle.bounded.specs.BelowLaws.{first_is, first_none, below_suc}
use Rattle.record.specs.Slot.{slot_in, holds}
use Rattle.table.specs.Table.{of_version, lowest_slot}
use Rattle.table.proofs.Inside.{slot_inside}
use Rattle.table.proofs.lowest_slot.Goals as goal
use Rattle.table.proofs.lowest_slot.Goals.{else-names_version-via-then-names_version+else-holds_version, else-names_version-via-else-names_version}

pub loop-k-init : goal.loop-k-init
loop-k-init c j h = absurd (omega arith)

pub names_version-requires : goal.names_version-requires
names_version-requires c = slot_inside c.args.layout c.args.slots c.loop-k.k c.args.words.now c.requires c.loop-k-test.true

pub slot_in-requires : goal.slot_in-requires
slot_in-requires c = slot_inside c.args.layout c.args.slots c.loop-k.k c.args.words.now c.requires c.loop-k-test.true

pub returns-then-holds_version : goal.returns-then-holds_version
unfolding lowest_slot
returns-then-holds_version c = let l = c.loop-k in
    let a = c.args in
    let below = c.loop-k-test.true in
    let found = sym (first_is _ _ l.k below (ap (holds (of_version a.page a.version)) (sym c.slot_in.ensures) ∙ sym c.holds_version.ensures ∙ c.if-holds_version.true) l.invariant) in
    (omega arith, found)

pub loop-k-preserved : goal.loop-k-preserved
loop-k-preserved c = let l = c.loop-k in
    let a = c.args in
    let f = holds (of_version a.page a.version) in
    let fails : f (slot_in a.layout a.words.now l.k) ≡ false =
    elim c.else-names_version.branch [
      | else-names_version-via-then-names_version+else-holds_version w ↦ ap f (sym w.slot_in.ensures) ∙ sym w.holds_version.ensures ∙ w.if-holds_version.false
      | else-names_version-via-else-names_version w ↦ c.names_version.ensures w.if-names_version.false
    ] in
    λ j h. below_suc j l.k (omega arith) (l.invariant j) (λ q. ap (λ (x : ℕ). f (slot_in a.layout a.words.now x)) q ∙ fails)

pub returns : goal.returns
unfolding lowest_slot
returns c = let l = c.loop-k in
    let none = first_none _ c.args.slots (λ k h. l.invariant k (omega arith)) in
    λ h. omega arith

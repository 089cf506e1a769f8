use Prim.Native.Nat.{ℕ, ◌+◌, ◌*◌, ◌≤◌}
use native.Mathlib.Omega.{arith}
use mathlib.Core.Path.{◌≡◌, sym, ap, ◌∙◌, subst}
use mathlib.Core.List.{List}
use mathlib.Core.Path.{refl}
use lib.ListN.{length}
use borrow.Author.Tests.{lt-ltb, le-ltb}
use Rattle.bounded.specs.Choice.{on_lt}
use Rattle.bounded.specs.PartsLaws.{part_inside}
use Rattle.outcome.specs.Reply.{outcome_of}
use Rattle.outcome.specs.Result.{given_back, number_positive, refused, done}
use Rattle.outcome.specs.declared.Refusal.TheVariants.{WrongList, NoCommittedRecord}
use Rattle.record.specs.Slot.{bytes_at}
use Rattle.table.specs.Table.{has_version}
use Rattle.rules.specs.laws.Chains.{read_own}
use Rattle.rules.proofs.laws.Chains.{read_chain, judged_passed, judged_refuses, judged_passes, slice_whole}
use Rattle.rules.specs.Read.{read_slot_in, read_outcome_in}
use Rattle.volume.specs.Held.{slice_passed}
use Rattle.reader.proofs.copy_page.Goals as goal

pub returns-in_err-slice_judged : goal.returns-in_err-slice_judged
unfolding read_outcome_in
returns-in_err-slice_judged c = rw (given_back c.from_residual.result c.from_residual.ensures.1)
    (refused 0 0 _ _ _ (judged_refuses _ _ _ _ _ _ _ _ _ (read_chain _ _ _ _ _ _) refl _ c.in_err-slice_judged.ensures (number_positive _)))

pub returns-then-page-sizes : goal.returns-then-page-sizes
unfolding read_outcome_in read_own
returns-then-page-sizes c = refused 0 0 _ _ WrongList
    (judged_passes _ _ _ _ _ _ _ _ _ (read_chain _ _ _ _ _ _) refl _ c.in_ok-slice_judged.ensures refl (rw (le-ltb _ _ c.if-page-sizes.true)))

pub committed_slot-requires : goal.committed_slot-requires
committed_slot-requires c = let s = (slice_passed _ _ _ _ (sym c.in_ok-slice_judged.ensures)).spans in
    let l = s.pages_in_lem in
    record { slots_in_bounds = s.slots_in_lem; page_in_bounds = omega arith }

pub returns-in_default : goal.returns-in_default
unfolding read_outcome_in read_own has_version
returns-in_default c = refused 0 0 _ _ NoCommittedRecord
    (judged_passes _ _ _ _ _ _ _ _ _ (read_chain _ _ _ _ _ _) refl _ c.in_ok-slice_judged.ensures refl
    (rw (lt-ltb _ _ c.if-page-sizes.false, on_lt _ _ (λ l. absurd (c.in_default.ensures l)) (λ l. le-ltb _ _ l))))

pub read_slot-requires : goal.read_slot-requires
read_slot-requires c = let f = slice_whole _ _ _ _ _ ((judged_passed _ _ _ _ _ _ (sym c.in_ok-slice_judged.ensures)).fitting) in
    let v = c.args.volume.now in
    let size = f.0.flash_sized.contents_sized in
    let k = c.in-Some.slot in
    let s = c.in-Some.ensures in
    let l = s.0 in
    let e = s.1 in
    let inside = part_inside v.sizes.width v.sizes.slots k (omega arith) in
    subst (λ (n : ℕ). n * k + n ≤ length v.contents.now) (sym f.1) (omega arith)

pub returns : goal.returns
unfolding read_slot_in read_outcome_in read_own has_version
returns c = let k = c.in-Some.slot in
    let f = slice_whole _ _ _ _ _ ((judged_passed _ _ _ _ _ _ (sym c.in_ok-slice_judged.ensures)).fitting) in
    let v = c.args.volume.now in
    let e : c.read_slot.new.out ≡ bytes_at v.sizes.width v.contents.now k =
    c.read_slot.ensures ∙ ap (λ (w : ℕ). bytes_at w v.contents.now k) f.1 in
    ap (outcome_of {B = List ℕ} 0 0) (e ∙ ap (bytes_at v.sizes.width v.contents.now) c.in-Some.ensures.1)
    ∙ done 0 0 _ _
    (judged_passes _ _ _ _ _ _ _ _ _ (read_chain _ _ _ _ _ _) refl _ c.in_ok-slice_judged.ensures refl
    (rw (lt-ltb _ _ c.if-page-sizes.false, lt-ltb _ _ c.in-Some.ensures.0)))

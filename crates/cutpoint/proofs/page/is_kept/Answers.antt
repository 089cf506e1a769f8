-- The page's slot is read in place.
use native.Mathlib.Omega.{arith}
use mathlib.Core.Path.{refl}
use Rattle.bounded.specs.Choice.{on_lt}
use Rattle.rules.specs.Read.{read_slot_in}
use Rattle.cutpoint.specs.ReadLaws.{passed_spans, slot_inside, none_read, slot_read}
use Rattle.cutpoint.proofs.page.is_kept.Goals as goal

pub committed_slot-requires : goal.committed_slot-requires
committed_slot-requires c = let s = passed_spans _ _ _ c.requires.state_value in
    let l = s.pages_in_lem in
    record { slots_in_bounds = s.slots_in_lem; page_in_bounds = omega arith }

pub returns-in_default : goal.returns-in_default
unfolding read_slot_in
returns-in_default c = none_read _ _ _ _ _ c.requires.state_value c.requires.page_lt_pages refl (on_lt _ _ (λ l. absurd (c.in_default.ensures l)) (λ l. l))

pub bytes_of-requires : goal.bytes_of-requires
bytes_of-requires c = let s = c.in-Some.ensures in
    slot_inside _ _ _ c.requires.state_value c.in-Some.slot (let l = s.0 in let e = s.1 in omega arith)

pub returns : goal.returns
unfolding read_slot_in
returns c = let s = c.in-Some.ensures in
    slot_read _ _ _ _ _ c.requires.state_value c.requires.page_lt_pages s.1 (let l = s.0 in let e = s.1 in omega arith) (rw c.bytes_of.ensures.these at c.all_are.ensures)

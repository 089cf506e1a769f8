use mathlib.Core.Path.{sym, ◌∙◌}
use Rattle.bounded.specs.Choice.{told}
use Rattle.bounded.specs.Limits.{two_widths}
use Rattle.recovery.specs.Answers.{simple_fits, sizes_wrong, slot_unsound_lem, records_conflict, outcome_by_records, simple_outcome}
use Rattle.recovery.proofs.simple.recover.Goals as goal

pub returns-then-not-table_ok : goal.returns-then-not-table_ok
returns-then-not-table_ok c = let a = c.args in
    sizes_wrong _ _ _ _ _ _ _ (told c.table_ok.ensures c.if-not-table_ok.true)
    ∙ sym (simple_outcome two_widths a.sizes a.words.now a.state.now)

pub table_sound-requires : goal.table_sound-requires
table_sound-requires c = (simple_fits _ _ _ _ (told c.table_ok.ensures c.if-not-table_ok.false)).slots_in_lem

pub returns-then-not-table_sound : goal.returns-then-not-table_sound
returns-then-not-table_sound c = let a = c.args in
    slot_unsound_lem _ _ _ _ _ _ _ (told c.table_ok.ensures c.if-not-table_ok.false) (told c.table_sound.ensures c.if-not-table_sound.true)
    ∙ sym (simple_outcome two_widths a.sizes a.words.now a.state.now)

pub some_clash-requires : goal.some_clash-requires
some_clash-requires c = let f = simple_fits _ _ _ _ (told c.table_ok.ensures c.if-not-table_ok.false) in
    record { slots_in_bounds = f.slots_in_lem; slots_bound = f.slots_most }

pub returns-then-some_clash : goal.returns-then-some_clash
returns-then-some_clash c = let a = c.args in
    records_conflict _ _ _ _ _ _ _ (told c.table_ok.ensures c.if-not-table_ok.false) (told c.table_sound.ensures c.if-not-table_sound.false)
    (sym c.some_clash.ensures ∙ c.if-some_clash.true)
    ∙ sym (simple_outcome two_widths a.sizes a.words.now a.state.now)

pub invariant_of-table : goal.invariant_of-table
invariant_of-table c = let f = simple_fits _ _ _ _ (told c.table_ok.ensures c.if-not-table_ok.false) in
    record { spans = f.slots_in_lem; pages_few = f.pages_most; slots_few = f.slots_most; sound = told c.table_sound.ensures c.if-not-table_sound.false }

pub recover_sound-requires : goal.recover_sound-requires
recover_sound-requires c = (simple_fits _ _ _ _ (told c.table_ok.ensures c.if-not-table_ok.false)).state_sized

pub returns : goal.returns
returns c = let a = c.args in
    c.recover_sound.ensures
    ∙ outcome_by_records _ _ _ _ _ _ _ (told c.table_ok.ensures c.if-not-table_ok.false) (told c.table_sound.ensures c.if-not-table_sound.false)
    (sym c.some_clash.ensures ∙ c.if-some_clash.false)
    ∙ sym (simple_outcome two_widths a.sizes a.words.now a.state.now)

-- No record with a back pointer is buried; the search for one without is that of crate permit.
use mathlib.Core.Path.{sym, ap, ◌∙◌}
use Rattle.sizes.specs.declared.Layout.{Layout}
use Rattle.record.specs.Slot.{slot_in}
use Rattle.state.specs.State.{state_at}
use Rattle.rules.specs.laws.Families.{would_bury_in}
use Rattle.permit.specs.Readable.{judged_readable}
use Rattle.transact.proofs.would_bury.Goals as goal

pub would_bury-requires : goal.would_bury-requires
would_bury-requires c = record { readable = judged_readable _ _ _ _ c.in-FourWords.is c.requires.passed.spans c.requires.passed.table; page_lt_pages = c.requires.page_lt_pages }

pub returns-in-FiveWords : goal.returns-in-FiveWords
returns-in-FiveWords c = let v = c.args.volume.now in
    ap (λ (x : Layout). would_bury_in x v.sizes.slots (slot_in x v.words.now) (state_at v.state.now) c.args.page) (sym c.in-FiveWords.is)

pub returns-in-FourWords : goal.returns-in-FourWords
returns-in-FourWords c = let v = c.args.volume.now in
    c.would_bury.ensures
    ∙ ap (λ (x : Layout). would_bury_in x v.sizes.slots (slot_in x v.words.now) (state_at v.state.now) c.args.page) (sym c.in-FourWords.is)

-- What a table shows: a scene in which no slots are twins, and the exposed records are as they were found.
use Rattle.std.specs.Prelude.{◌≡◌}
use Rattle.record.specs.Slot.{slot_at}
use Rattle.state.specs.State.{state_at}
use Rattle.rules.specs.Permission.{Scene, untwinned}
use Rattle.rules.specs.Found.{exposed_slots, by_found}
use Rattle.permit.specs.declared.Table.{Table}

abbrev pub shown : Table → Scene
shown t = by_found (untwinned t.sizes.slots (slot_at t.words.now) (state_at t.state.now)) t.found.now

-- the exposed records are found, and no others
abbrev pub AllFound : Table → Type 0
AllFound t = t.found.now ≡ exposed_slots t.sizes.slots (slot_at t.words.now) (state_at t.state.now)

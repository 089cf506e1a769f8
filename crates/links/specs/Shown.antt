-- What a sound table shows: its slots, and by the links its verdicts, walks and committed versions.
use Rattle.std.specs.Prelude.{ℕ}
use Rattle.record.specs.Slot.{Slot, slot_in}
use Rattle.table.specs.declared.SoundTable.{SoundTable}
use Rattle.follow.specs.declared.Verdict.{Verdict}
use Rattle.follow.specs.declared.Walk.{Walk}
use Rattle.rules.specs.laws.Families.{verdict_in}
use Rattle.links.specs.Committed.{walk_in, links_in, committed_in}

abbrev pub slots_shown : SoundTable → ℕ → Slot
slots_shown t = slot_in t.layout t.words.now

abbrev pub verdict_shown : SoundTable → ℕ → Verdict
verdict_shown t = verdict_in t.layout t.sizes.slots (slots_shown t)

abbrev pub walk_shown : SoundTable → ℕ → Walk
walk_shown t = walk_in t.layout t.sizes.pages t.sizes.slots (slots_shown t)

abbrev pub links_shown : SoundTable → ℕ
links_shown t = links_in t.layout t.sizes.pages t.sizes.slots (slots_shown t)

abbrev pub committed_shown : SoundTable → ℕ → ℕ
committed_shown t = committed_in t.layout t.sizes.pages t.sizes.slots (slots_shown t)

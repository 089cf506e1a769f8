-- A call of a run with its arguments; what it gives and leaves, by the outcome definitions that the calls' contracts cite, for any family of records; and its stages on the flash.
use Rattle.std.specs.Prelude.{ℕ, List, [], ◌∷◌, cond, eqb}
use Rattle.bounded.specs.Limits.{Widths}
use Rattle.outcome.specs.Outcome.{Outcome}
use Rattle.sizes.specs.declared.Sizes.{Sizes}
use Rattle.sizes.specs.Blocks.{NamedBlock}
use Rattle.record.specs.Flash.{Flash, Step}
use Rattle.rules.specs.Volume.{Volume, pages_of}
use Rattle.rules.specs.Launch.{launch_outcome}
use Rattle.rules.specs.Withdraw.{withdraw_outcome}
use Rattle.rules.specs.Erase.{erase_steps}
use Rattle.atomicity.specs.Family.{Family}

-- "It holds launch, write, withdraw, erase and recover, with any pages, slots, lists and bytes"; document 02: "Cleaning joins the calls of promise 3", each by a table of its own: "another at each call included"; and
-- of a sweep: "it joins the calls of promise 3".
pub data Call : Type 0 where
  Launch : (pages : List ℕ) → Call
  Write : (page slot : ℕ) (bytes : List ℕ) → Call
  Withdraw : (page : ℕ) → Call
  Erase : (slots : List ℕ) → Call
  Recover : Call
  Clean : (block : NamedBlock) → Call
  Sweep : Call

-- the volume's outcome where a call alters the state alone; and where it alters the flash alone
unfoldable pub with_state : Volume → Outcome (List ℕ) → Outcome Volume
with_state v o = record { answer = o.answer; second = o.second; left = record { flash = v.flash; state = o.left } }

unfoldable pub with_flash : Volume → Outcome Flash → Outcome Volume
with_flash v o = record { answer = o.answer; second = o.second; left = record { flash = o.left; state = v.state } }

-- what the call gives and leaves of the volume, by its family
unfoldable pub perform : Family → Widths → Sizes → Volume → Call → Outcome Volume
perform F widths sizes v (Launch pages) = with_state v (launch_outcome widths sizes v.state pages)
perform F widths sizes v (Write page slot bytes) = F.write widths sizes v page slot bytes
perform F widths sizes v (Withdraw page) = with_state v (withdraw_outcome widths sizes v.state page)
perform F widths sizes v (Erase slots) = with_flash v (F.erase widths sizes v slots)
perform F widths sizes v Recover = with_state v (F.recover widths sizes v)
perform F widths sizes v (Clean block) = with_flash v (F.clean widths sizes v block)
perform F widths sizes v Sweep = with_flash v (F.sweep widths sizes v)

-- What the call does to the flash, were it accepted: stages, one after the other, each of single steps. They are fixed before the call.
-- A write is one stage with its one step, an erase one stage with a step for each listed slot; of a cleaning each copy is a stage by itself, and the blankings of its block
-- are the last; a sweep has three, its erasures; every other call alters no flash.
unfoldable pub planned_stages : Family → Sizes → Volume → Call → List (List Step)
planned_stages F sizes v (Launch pages) = []
planned_stages F sizes v (Write page slot bytes) = (Step.Store slot (F.plan (pages_of v) page) bytes ∷ []) ∷ []
planned_stages F sizes v (Withdraw page) = []
planned_stages F sizes v (Erase slots) = erase_steps slots ∷ []
planned_stages F sizes v Recover = []
planned_stages F sizes v (Clean block) = F.clean_stages sizes v block
planned_stages F sizes v Sweep = F.sweep_stages sizes v

-- the stages that the call does: none where it is refused
unfoldable pub flash_stages : Family → Widths → Sizes → Volume → Call → List (List Step)
flash_stages F widths sizes v call = cond (eqb (perform F widths sizes v call).answer 0) (planned_stages F sizes v call) []

-- A family of cyclic-commit records, as runs see it: how its records lie in a slot, and what the calls that look at records give and leave. Format and read
-- depend on the layout alone, launch and withdraw on the state alone, so that every family shares them.
use Rattle.std.specs.Prelude.{ℕ, List, []}
use Rattle.bounded.specs.Limits.{Widths}
use Rattle.outcome.specs.Outcome.{Outcome}
use Rattle.sizes.specs.declared.Layout.{Layout}
use Rattle.sizes.specs.declared.Layout.TheVariants.{FiveWords, FourWords}
use Rattle.sizes.specs.declared.Sizes.{Sizes}
use Rattle.sizes.specs.Blocks.{NamedBlock, block_at}
use Rattle.record.specs.declared.Record.{Record}
use Rattle.record.specs.Slot.{Slot}
use Rattle.record.specs.Flash.{Flash, Step}
use Rattle.state.specs.declared.PageState.{PageState}
use Rattle.table.specs.Table.{version_in}
use Rattle.rules.specs.Volume.{Volume}
use Rattle.rules.specs.Write.{plan_of, write_outcome}
use Rattle.rules.specs.Erase.{erase_outcome}
use Rattle.upkeep.specs.Clean.{clean_stages, clean_outcome}
use Rattle.upkeep.specs.Sweep.{sweep_stages, sweep_outcome}
use Rattle.rules.specs.Recover.{committed_of, recover_outcome}
use Rattle.rules.specs.Simple.{committed_slot_of}
use Rattle.rules.specs.SimpleCalls.{simple_plan_of, simple_write_outcome, simple_erase_outcome, simple_recover_outcome}

pub record Family : Type 0 where
  pub layout : Layout
  -- the record that a write of a page stores
  pub plan : (ℕ → PageState) → ℕ → Record
  -- the committed version that recovery finds for a page, among P pages and S slots
  pub committed : (P S : ℕ) → (ℕ → Slot) → ℕ → ℕ
  pub write : Widths → Sizes → Volume → (page slot : ℕ) (bytes : List ℕ) → Outcome Volume
  pub erase : Widths → Sizes → Volume → (slots : List ℕ) → Outcome Flash
  pub recover : Widths → Sizes → Volume → Outcome (List ℕ)
  pub clean : Widths → Sizes → Volume → (block : NamedBlock) → Outcome Flash
  pub sweep : Widths → Sizes → Volume → Outcome Flash
  -- what an accepted cleaning, and an accepted sweep, do to the flash: their stages, one after the other, each of single steps
  pub clean_stages : Sizes → Volume → (block : NamedBlock) → List (List Step)
  pub sweep_stages : Sizes → Volume → List (List Step)

-- document 01's records, with a back pointer
abbrev pub back_pointer : Family
back_pointer =
    record {
      layout = FiveWords;
      plan = plan_of;
      committed = committed_of;
      write = write_outcome;
      erase = erase_outcome;
      recover = recover_outcome;
      clean = clean_outcome;
      sweep = sweep_outcome;
      clean_stages = λ sizes v block. clean_stages sizes v (block_at sizes.slots block);
      sweep_stages = sweep_stages;
    }

-- "These volumes are not cleaned", nor swept: there are no such calls, and in a run they refuse by 6
unfoldable pub no_such_call : Volume → Outcome Flash
no_such_call v = record { answer = 6; second = 0; left = v.flash }

-- document 02's, wish 5, without: "p, v, np, nv and no back pointer"
abbrev pub simple : Family
simple =
    record {
      layout = FourWords;
      plan = simple_plan_of;
      committed = λ P S t p. version_in (committed_slot_of P S t p);
      write = simple_write_outcome;
      erase = simple_erase_outcome;
      recover = λ widths sizes v. simple_recover_outcome widths sizes v.flash.words v.state;
      clean = λ widths sizes v block. no_such_call v;
      sweep = λ widths sizes v. no_such_call v;
      clean_stages = λ sizes v block. [];
      sweep_stages = λ sizes v. [];
    }

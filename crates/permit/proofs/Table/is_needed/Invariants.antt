-- The outer search: no link found so far is straddled. The inner one starts at the first that is, and what is left of it ends at `at`; its end is the
-- end of both.
use mathlib.Core.Path.{◌≡◌}
use mathlib.Core.Bool.{false}
use lib.ListN.{get_or}
use Rattle.bounded.specs.Below.{some_below}
use Rattle.record.specs.Slot.{holds, straddles, slot_at}
use Rattle.rules.specs.Permission.{outdone_by}
use Rattle.chain.specs.declared.Key.TheVariants.{Pointer}
use Rattle.chain.specs.Chain.{chain_of, end_of}
use Rattle.chain.proofs.ChainLaws.{Left}
use Rattle.permit.proofs.Table.is_needed.Given as goal

abbrev pub invariant-loop-at : goal.invariant-loop-at
invariant-loop-at l = Left Pointer l.self.sizes.slots (slot_at l.self.words.now) (chain_of Pointer l.straddler) (λ k. holds (outdone_by l.straddler) (slot_at l.self.words.now k)) (end_of l.at)

abbrev pub decreases-loop-at : goal.decreases-loop-at
decreases-loop-at l = end_of l.at

abbrev pub invariant-search : goal.invariant-search
invariant-search l = (l.needed ≡ false) × (some_below l.exposed-index (λ j. holds (straddles l.straddler) (slot_at l.self.words.now (get_or l.self.found.now j 0))) ≡ false)

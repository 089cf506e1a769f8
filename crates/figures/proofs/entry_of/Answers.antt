-- The words that are lent are zeros, four for each page.
use Rattle.bounded.specs.Fronts.{equal_lent}
use Rattle.figures.specs.EntryLaws.{state_most}
use Rattle.figures.proofs.entry_of.Goals as goal

pub slice_bounds-state-end : goal.slice_bounds-state-end
slice_bounds-state-end c = state_most _ _ c.requires

pub recovered_entry-requires : goal.recovered_entry-requires
recovered_entry-requires c = equal_lent _ 1024 0 (state_most _ _ c.requires)

-- Refused: the refusal. Recovered: the figures by the state that is left.
use Rattle.std.proofs.lemmas.Result.{err_from_is_err_and}
use Rattle.figures.specs.EntryLaws.{entry_refused, entry_counted, recovered_linkable, recovered_pages}
use Rattle.figures.proofs.recovered_entry.Goals as goal

pub returns-in_err-recover : goal.returns-in_err-recover
returns-in_err-recover c = let e = err_from_is_err_and c.from_residual.result c.from_residual.ensures.1 in rw (e.1, e.2) (entry_refused _ _ _ _ c.requires _ _ c.in_err-recover.ensures)

pub figures_of-requires : goal.figures_of-requires
figures_of-requires c = let zeros = c.requires in
    let says = c.in_ok-recover.ensures in
    record { linkable = recovered_linkable _ _ _ _ zeros _ _ says; pages_in_bounds = recovered_pages _ _ _ _ zeros _ _ says }

pub returns : goal.returns
returns c = entry_counted _ _ _ _ c.requires _ _ c.in_ok-recover.ensures c.figures_of.ensures

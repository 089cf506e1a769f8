-- A volume that is whole, and one that is not.
use Rattle.bounded.specs.Choice.{told}
use Rattle.bounded.specs.Limits.{two_widths}
use Rattle.fleet.proofs.InputLaws.{whole_facts}
use Rattle.van.specs.First.{first_cut, first_whole}
use Rattle.van.proofs.input.first_of.Goals as goal

pub returns-then-not-is_whole : goal.returns-then-not-is_whole
returns-then-not-is_whole c = first_cut c.args.input.now (told c.is_whole.ensures c.if-not-is_whole.true)

pub sizes_at-requires : goal.sizes_at-requires
sizes_at-requires c = (whole_facts two_widths c.args.input.now (told c.is_whole.ensures c.if-not-is_whole.false)).header

pub volume_length-requires : goal.volume_length-requires
volume_length-requires c = rw c.sizes_at.ensures (whole_facts two_widths c.args.input.now (told c.is_whole.ensures c.if-not-is_whole.false)).taken

pub returns : goal.returns
returns c = first_whole c.args.input.now (told c.is_whole.ensures c.if-not-is_whole.false) _ _ _ c.entry_at.ensures c.sizes_at.ensures c.volume_length.ensures

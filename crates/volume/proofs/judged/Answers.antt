use Rattle.volume.proofs.judged.Goals as goal

pub table_sound-requires : goal.table_sound-requires
table_sound-requires c = (c.requires (c.if-not-fits.false)).slots_in_lem

pub state_sound-requires : goal.state_sound-requires
state_sound-requires c = (c.requires (c.if-not-fits.false)).pages_in_lem

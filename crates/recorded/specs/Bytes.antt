-- A desk whose fills are bytes, as one who has bytes lends it and reads it back. `Some` of the number for none counts as nothing entered, as everywhere in the ledger.
use Rattle.ledger.specs.Bytes.{EnteredBytes, KeptBytes}
use Rattle.recorded.specs.Desk.{Desk}

pub record InBytes (d : Desk) : Type 0 where
  pub entered_bytes : EnteredBytes d.entered
  pub kept_bytes : KeptBytes d.kept

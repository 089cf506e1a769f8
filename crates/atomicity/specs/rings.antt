-- The reference model's open rings against the state's flights: nothing here knows of records.
pub mod Match

-- The reference model's open rings against the state's flights: nothing here knows of records.
pub mod Laws
pub mod Write
pub mod Cycle
pub mod Launch
pub mod Entries
pub mod Close

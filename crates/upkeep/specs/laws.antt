-- What the definitions say, as facts.
pub mod Copies

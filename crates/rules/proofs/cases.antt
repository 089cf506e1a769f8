-- Document 01's cases and some of document 02's requests, computed from the definitions.
pub mod Bounds
pub mod Launch
pub mod Write
pub mod Erase
pub mod Found
pub mod Suggest
pub mod Twins
pub mod Recover
pub mod Links
pub mod Star
pub mod Width
pub mod Simple

-- What the definitions say, as facts.
pub mod Volume
pub mod Families
pub mod Chains
pub mod Permission
pub mod Found
pub mod Simple

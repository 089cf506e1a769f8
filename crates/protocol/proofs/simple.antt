-- Records without a back pointer (Simple Cyclic Commit): their clauses of the invariant, and what keeps them.
pub mod SameSet
pub mod Write
pub mod Erase
pub mod Recovers

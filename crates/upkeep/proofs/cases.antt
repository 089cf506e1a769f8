-- Document 02's wishes 1, 7, 8 and 9, computed from the definitions.
pub mod Clean
pub mod Blocks
pub mod Sweep
pub mod Pick

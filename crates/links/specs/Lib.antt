pub mod Committed
pub mod Shown
pub mod Tables
pub mod Answer

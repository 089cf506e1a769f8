pub mod Outcome
pub mod OutcomeLaws
pub mod Row
pub mod Computing
pub mod Reply
pub mod Chain
pub mod Result

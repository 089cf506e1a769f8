pub mod Cuts
pub mod Shown
pub mod Cases

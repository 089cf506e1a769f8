pub mod Line
pub mod LineLaws
pub mod Computing
pub mod Cases

pub mod Dispatch
pub mod DispatchLaws
pub mod Computing

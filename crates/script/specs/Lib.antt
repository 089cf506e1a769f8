pub mod Memory
pub mod Held
pub mod MemoryLaws
pub mod Enough
pub mod Script
pub mod Cases
pub mod StepLaws
pub mod Room

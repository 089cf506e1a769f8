pub mod Table
pub mod Given
pub mod Computing
pub mod HighestSlot

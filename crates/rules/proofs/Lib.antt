pub mod cases
pub mod laws

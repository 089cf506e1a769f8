pub mod BackPointer
pub mod Simple
pub mod rings
pub mod steps
pub mod theorems

pub mod Bits
pub mod BitsLaws
pub mod Cases

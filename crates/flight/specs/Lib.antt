pub mod Some
pub mod Accepted

pub mod FormatLaws
pub mod Held

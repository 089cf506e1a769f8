pub mod Chosen
pub mod SweepLaws

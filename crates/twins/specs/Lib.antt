pub mod Twins
pub mod TwinsLaws
pub mod Computing

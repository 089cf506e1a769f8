pub mod BlockLaws
pub mod Choosing
pub mod Copying
pub mod CleanLaws

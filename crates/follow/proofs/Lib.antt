pub mod Course
pub mod Astray
pub mod Colours
pub mod Links
pub mod Verdicts
pub mod Ends
pub mod WalksLaws

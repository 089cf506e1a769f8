pub mod Entry
pub mod Figures
pub mod Input
pub mod Page
pub mod Shown
pub mod InputLaws
pub mod PageLaws
pub mod Cases

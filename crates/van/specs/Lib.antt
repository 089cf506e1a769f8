pub mod Tally
pub mod TallyLaws
pub mod Columns
pub mod Reading
pub mod First
pub mod PageFrom
pub mod Rest

pub mod Counting
pub mod CountingLaws
pub mod EntryLaws

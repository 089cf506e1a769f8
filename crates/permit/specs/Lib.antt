pub mod Prepared
pub mod Readable
pub mod SearchLaws
pub mod SimpleLaws
pub mod Shown

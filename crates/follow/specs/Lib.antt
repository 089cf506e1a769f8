pub mod Follow
pub mod Steps
pub mod Astray
pub mod Verdicts
pub mod Ends
pub mod Walks

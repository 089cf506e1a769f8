pub mod Marked
pub mod Judgeable
pub mod JudgeLaws
pub mod BlockTwins
pub mod Evidence

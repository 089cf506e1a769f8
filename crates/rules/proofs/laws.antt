-- What the definitions say, as facts.
pub mod Volume
pub mod Outcomes
pub mod Accepted
pub mod Chains
pub mod Permission
pub mod Found
pub mod Recover
pub mod Simple
pub mod SimpleAccepted
pub mod Links
pub mod Meanings
pub mod AnswersLaws

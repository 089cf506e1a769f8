pub mod Inside
pub mod TableLaws
pub mod UsedLaws
pub mod HighestSlot
pub mod OneEach

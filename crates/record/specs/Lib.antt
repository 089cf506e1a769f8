pub mod Slot
pub mod SlotLaws
pub mod Flash
pub mod FlashLaws
pub mod Computing
pub mod CopyLaws
pub mod BlankAgain

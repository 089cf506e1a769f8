pub mod Picking
pub mod PickingLaws
pub mod PickLaws

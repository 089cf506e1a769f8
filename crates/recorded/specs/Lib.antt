pub mod Desk
pub mod Held
pub mod HeldLaws
pub mod Buffers
pub mod TrialLaws
pub mod StepLaws
pub mod Bytes
pub mod BytesLaws

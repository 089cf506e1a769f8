pub mod SizesLaws
pub mod BlocksLaws

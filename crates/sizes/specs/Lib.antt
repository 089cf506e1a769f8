pub mod Sizes
pub mod SizesLaws
pub mod Lists
pub mod Marks
pub mod Blocks
pub mod BlocksLaws

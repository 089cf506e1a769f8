pub mod Simple
pub mod Doubtful
pub mod OrderBoth
pub mod OrderFirst
pub mod Order

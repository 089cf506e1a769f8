-- What the definitions say, as facts.
pub mod Tests
pub mod Copies
pub mod Fronts
pub mod Sweep
pub mod Clean
pub mod Filled
pub mod Sorted
pub mod Pick
pub mod Fillings
pub mod Doubtful

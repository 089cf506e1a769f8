pub mod View
pub mod Shared
pub mod BackPointer
pub mod SameSet
pub mod Permitted
pub mod simple

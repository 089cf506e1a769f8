pub mod Listing
pub mod ListingLaws
pub mod Computing
pub mod Cases

pub mod Feed
pub mod Stands
pub mod StandsLaws
pub mod FeedLaws

pub mod LaterCounts
pub mod ReadingLaws

mod Interests
mod Assigned
pub mod WellFormedLaws
pub mod SignedTwice

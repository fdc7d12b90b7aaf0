pub mod HaltLaws
pub mod LimitedLaws
pub mod ReadLaws

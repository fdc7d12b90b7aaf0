pub mod Choices
pub mod Lookahead
pub mod Follow
pub mod Reached
pub mod Refusal
pub mod Fronts

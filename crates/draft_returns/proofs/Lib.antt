pub mod ResultLaws
pub mod FrameLaws
pub mod RestLaws
